-- The state of all servers, with what has happened.
use Rattle.std.specs.Prelude.{ℕ, Bool, List, [], ◌∷◌, Option}
use Rattle.jn_base.specs.declared.names.ServerNo.{ServerNo}
use Rattle.jn_base.specs.declared.names.LockUnit.{LockUnit}
use Rattle.jn_base.specs.declared.names.Tid.{Tid}
use Rattle.jn_base.specs.declared.names.WorkId.{WorkId}
use Rattle.jn_order.specs.Files.{AllFiles, change}
use Rattle.jn_records.specs.declared.intention.Intention.{Intention}
use Rattle.jn_rows.specs.Stable.{StableState, Pick}
use Rattle.jn_order.specs.Answers.{Answered, FilesAnswer}
use Rattle.jn_system.specs.SmallSteps.Traces.{effects}

-- a work that goes on: its intentions, and the units that it has read
pub record Working : Type 0 where
  pub list : List Intention
  pub reads : List LockUnit

-- what a coordinator knows of a transaction
pub data Knowledge : Type 0 where
  Unknown : Knowledge
  Begun : Knowledge
  -- the works whose vote is noted
  Voting : (WorkId → Bool) → Knowledge
  -- the works that are done
  Committed : (WorkId → Bool) → Knowledge

-- a committed transaction, with what it did at each server
pub record Commit : Type 0 where
  pub tid : Tid
  pub traces : ServerNo → List Answered

pub record World : Type 0 where
  pub up : ServerNo → Bool
  -- the stable state that is found at a server by each pick of halves of its pages
  pub found : ServerNo → Pick → StableState
  pub active : WorkId → Option Working
  -- how many intentions of a going work were carried out since its server came up
  pub next : WorkId → ℕ
  pub knowledge : Tid → Knowledge
  -- the next ticket of a server that is up
  pub ticket : ServerNo → ℕ
  -- What has happened, which no server sees. What is true of a name here stays true.
  -- The files at the start, and the commits, the last one first.
  pub opening : AllFiles
  pub history : List Commit
  -- what a work did, its first operation first, and its transaction
  pub trace : WorkId → List Answered
  pub owner : WorkId → Tid
  pub opened : WorkId → Bool
  pub begun : Tid → Bool
  -- its client ended it, with these works, at most one at each server
  pub ended : Tid → Bool
  pub part : Tid → ServerNo → Option WorkId
  -- it was prepared in each state that could be found
  pub was_ready : WorkId → Bool
  -- it is nowhere, and won't come back
  pub over : WorkId → Bool
  -- its coordinator won't commit it
  pub aborted : Tid → Bool
  -- it has committed: its name is in the history
  pub named : Tid → Bool
  -- its client asks nothing more of it
  pub closed : Tid → Bool

-- the files of all servers after the commits
abbrev pub replay : AllFiles → List Commit → AllFiles
replay files [] = files
replay files (c ∷ history) = λ s. change (effects (c.traces s)) (replay files history s)

-- what each committed transaction was answered is what the commits before it left
abbrev pub IsSerial : AllFiles → List Commit → Type 0
IsSerial files [] = Unit {0}
IsSerial files (c ∷ history) = ((s : ServerNo) → FilesAnswer (replay files history s) (c.traces s)) × IsSerial files history
