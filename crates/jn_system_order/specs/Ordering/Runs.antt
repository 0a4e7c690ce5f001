-- What holds after any run of the whole system.
use Rattle.std.specs.Prelude.{◌≡◌, ℕ, true, false, List, [], ◌∷◌, ◌++◌, Some, None, is_some}
use Rattle.jn_base.specs.declared.names.ServerNo.{ServerNo}
use Rattle.jn_base.specs.declared.names.LockUnit.{LockUnit}
use Rattle.jn_base.specs.declared.names.WorkId.{WorkId}
use Rattle.jn_order.specs.Files.{AllFiles}
use Rattle.jn_records.specs.NetLists.{list_change}
use Rattle.jn_report.specs.declared.line.Text.{Text}
use Rattle.jn_report.specs.declared.line.Text.TheVariants as says
use Rattle.jn_rows.specs.Stable.{StableState, Prepared, Pick, stable}
use Rattle.jn_rows.specs.Worker.{commit_holder}
use Rattle.jn_system.specs.SmallSteps.World.{Commit, IsSerial, replay}
use Rattle.jn_system.specs.SmallSteps.Held.{file_unit}
use Rattle.jn_system.specs.SmallSteps.Steps.{Atom, run, opening_world}
use Rattle.jn_system.specs.SmallSteps.Premises.{MayRun}
use Rattle.jn_system.specs.SmallSteps.Order.{CommitsOnce}
use Rattle.jn_system.specs.WholeSystem.World.{World, Memory, commits_in, has_line}
use Rattle.jn_system_order.specs.Mirroring.Mirrors.{Mirrors, commits_of}

-- steps of the machine that may come one after another, and stand where the whole system does
pub record IsMoves (files : AllFiles) (epochs : ServerNo → ℕ) (r : World) : Type 0 where
  pub atoms : List Atom
  pub may : MayRun atoms (opening_world files epochs)
  pub mirrors : Mirrors r (run atoms (opening_world files epochs))

-- no prepared work of a transaction whose commit has its line will write the register
abbrev pub IsDone : World → StableState → LockUnit → Type 0
IsDone r x u = (W : WorkId) (p : Prepared) → x.works W ≡ Some p → has_line p.tid r.lines ≡ true → is_some (list_change p.list u) ≡ false

-- The commits of the lines, in their order, have a history: what each transaction is answered in it is what those before it
-- left, and each register of each state that may be found at a server is as they leave it, but for what is still to be
-- carried out.
pub record IsInOrder (files : AllFiles) (r : World) : Type 0 where
  pub history : List Commit
  pub told : commits_of history ≡ commits_in r.lines
  pub once : CommitsOnce history
  pub serial : IsSerial files history
  pub shown : (s : ServerNo) (c : Pick) (u : LockUnit) → IsDone r (r.found s c) u → (r.found s c).files u ≡ replay files history s u
  -- at a server that is up: each unit that is held for commit neither itself nor as its file
  pub unlocked : (s : ServerNo) (m : Memory) (u : LockUnit) → r.memory s ≡ Some m → commit_holder u m.worker ≡ None → commit_holder (file_unit u) m.worker ≡ None
      → (stable (r.found s)).files u ≡ replay files history s u

-- a client is told of a commit only where its line came before
abbrev pub IsNamedBefore : List Text → Text → Type 0
IsNamedBefore before (says.Committed c event T) = has_line T before ≡ true
IsNamedBefore before text = Unit {0}

abbrev pub AreNamed : List Text → List Text → Type 0
AreNamed before [] = Unit {0}
AreNamed before (text ∷ texts) = IsNamedBefore before text × AreNamed (before ++ text ∷ []) texts
