-- What prepared works hold for commit: files as files, and the blocks of a file.
use Rattle.std.specs.Prelude.{Bool, if◌then◌else◌, List, [], ◌∷◌, Option, Some, None, is_some, ℕ, nat_le, ◌&&◌}
use Rattle.jn_base.specs.declared.names.FileNo.{FileNo}
use Rattle.jn_base.specs.declared.names.LockUnit.{LockUnit}
use Rattle.jn_base.specs.declared.names.LockUnit.TheVariants.{File, Block}
use Rattle.jn_rows.specs.declared.worker.Phase.{Phase}
use Rattle.jn_rows.specs.declared.worker.Phase.TheVariants.{Prepared as Stored}
use Rattle.jn_rows.specs.Worker.{WorkerTable, commit_holder}
use Rattle.jn_base.specs.declared.names.BlockNo.{BlockNo}
use Rattle.jn_base.specs.Names.{file_eq}
use Rattle.jn_index.specs.Least.{lesser, number_after}

-- the least of what these units give
abbrev pub least_in : {A : Type 0} → (A → ℕ) → (LockUnit → Option A) → List LockUnit → Option A
least_in number of [] = None
least_in number of (u ∷ us) = lesser number (of u) (least_in number of us)

-- the units that a work holds for commit
abbrev pub held_by : Phase → List LockUnit
held_by (Stored p) = p.writes
held_by phase = []

-- of all units that a prepared work holds for commit
abbrev pub least_locked : {A : Type 0} → (A → ℕ) → (LockUnit → Option A) → WorkerTable → Option A
least_locked number of [] = None
least_locked number of (w ∷ ws) = lesser number (least_in number of (held_by w.phase)) (least_locked number of ws)

-- the file of a unit that is a file from a number on, and the block of one that is a block of a file
abbrev pub file_from : ℕ → LockUnit → Option FileNo
file_from from (File f) = if nat_le from f.0 then Some f else None
file_from from (Block f p) = None

abbrev pub block_from : FileNo → ℕ → LockUnit → Option BlockNo
block_from f from (File g) = None
block_from f from (Block g p) = if file_eq g f && nat_le from p.0 then Some p else None

-- the least file above another, or the least of all, that a prepared work holds for commit as a file
abbrev pub next_locked : Option FileNo → WorkerTable → Option FileNo
next_locked after t = least_locked (λ (f : FileNo). f.0) (file_from (number_after (λ (f : FileNo). f.0) after)) t

-- and the least block of a file
abbrev pub next_locked_block : FileNo → Option BlockNo → WorkerTable → Option BlockNo
next_locked_block f after t = least_locked (λ (p : BlockNo). p.0) (block_from f (number_after (λ (p : BlockNo). p.0) after)) t

-- whether a prepared work holds a unit for commit
abbrev pub is_held : WorkerTable → LockUnit → Bool
is_held t u = is_some (commit_holder u t)
