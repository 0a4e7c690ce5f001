-- The names of transactions and works, and lock units, as bytes and as they are read.
use Rattle.std.specs.Prelude.{◌<◌, ◌^◌, ◌++◌, ℕ, Bool, true, not, List, Option, Some, nat_eq, nat_lt, if◌then◌else◌}
use Rattle.byteorder.specs.Endian.{big_bytes}
use Rattle.jn_base.specs.Limits.{most_blocks}
use Rattle.jn_base.specs.declared.names.Tid.{Tid}
use Rattle.jn_base.specs.declared.names.WorkId.{WorkId}
use Rattle.jn_base.specs.declared.names.LockUnit.{LockUnit}
use Rattle.jn_base.specs.declared.names.LockUnit.TheVariants.{File, Block}
use Rattle.jn_fields.specs.Reading.{◌>>=◌, number_at}

abbrev pub tid_bytes : Tid → List ℕ
tid_bytes t = big_bytes 1 t.server.0 ++ big_bytes 4 t.epoch ++ big_bytes 4 t.ticket

abbrev pub work_bytes : WorkId → List ℕ
work_bytes w = big_bytes 1 w.server.0 ++ big_bytes 4 w.epoch ++ big_bytes 4 w.ticket

-- a file itself has the greatest number in place of its block's
abbrev pub unit_bytes : LockUnit → List ℕ
unit_bytes (File f) = big_bytes 4 f.0 ++ big_bytes 2 65535
unit_bytes (Block f p) = big_bytes 4 f.0 ++ big_bytes 2 p.0

-- ---- numbers of their types

pub record TidFits (t : Tid) : Type 0 where
  pub server : t.server.0 < 2 ^ 8
  pub epoch : t.epoch < 2 ^ 32
  pub ticket : t.ticket < 2 ^ 32

pub record WorkFits (w : WorkId) : Type 0 where
  pub server : w.server.0 < 2 ^ 8
  pub epoch : w.epoch < 2 ^ 32
  pub ticket : w.ticket < 2 ^ 32

abbrev pub UnitFits : LockUnit → Type 0
UnitFits (File f) = f.0 < 2 ^ 32
UnitFits (Block f p) = (f.0 < 2 ^ 32) × (p.0 < 2 ^ 16)

-- a block doesn't have the number that stands for its file
abbrev pub unit_has_page : LockUnit → Bool
unit_has_page (File f) = true
unit_has_page (Block f p) = not (nat_eq p.0 65535)

-- a file, or a block that a file may have
abbrev pub unit_in_range : LockUnit → Bool
unit_in_range (File f) = true
unit_in_range (Block f p) = nat_lt p.0 most_blocks

-- ---- reading

unfoldable pub tid_at : List ℕ → Option (Tid × List ℕ)
tid_at bytes = do
  server ← number_at 1 bytes
  epoch ← number_at 4 server.1
  ticket ← number_at 4 epoch.1
  Some (record { server = record { 0 = server.0 }; epoch = epoch.0; ticket = ticket.0 }, ticket.1)

unfoldable pub work_at : List ℕ → Option (WorkId × List ℕ)
work_at bytes = do
  server ← number_at 1 bytes
  epoch ← number_at 4 server.1
  ticket ← number_at 4 epoch.1
  Some (record { server = record { 0 = server.0 }; epoch = epoch.0; ticket = ticket.0 }, ticket.1)

unfoldable pub unit_at : List ℕ → Option (LockUnit × List ℕ)
unit_at bytes = do
  file ← number_at 4 bytes
  block ← number_at 2 file.1
  Some ((if nat_eq block.0 65535 then File (record { 0 = file.0 }) else Block (record { 0 = file.0 }) (record { 0 = block.0 })), block.1)
