-- The answers of works that may yet commit.
use Rattle.std.specs.Prelude.{◌≡◌, true, List, Some}
use Rattle.jn_base.specs.declared.names.LockUnit.{LockUnit}
use Rattle.jn_base.specs.declared.names.WorkId.{WorkId}
use Rattle.jn_order.specs.Files.{Files, AllFiles}
use Rattle.jn_records.specs.declared.intention.Intention.{Intention}
use Rattle.jn_records.specs.NetLists.{list_change}
use Rattle.jn_rows.specs.declared.worker.ActiveWork.{ActiveWork}
use Rattle.jn_rows.specs.Stable.{Prepared, Pick}
use Rattle.jn_order.specs.Answers.{Answered, FilesAnswer}
use Rattle.jn_system.specs.SmallSteps.Traces.{asked, effects}
use Rattle.jn_system.specs.SmallSteps.Held.{HasRead}
use Rattle.jn_system.specs.SmallSteps.World.{Commit, IsSerial, replay}
use Rattle.jn_system.specs.WholeSystem.World.{World, commits_in}
use Rattle.jn_system_order.specs.Mirroring.Mirrors.{commits_of}
use Rattle.jn_system_reports.specs.BetweenSteps.Sent.{HasCommitLine}
use Rattle.jn_system_reports.specs.BetweenSteps.Works.{IsActive}

-- These files give its operations the answers that it gave. Its intentions do what these operations do, and it has read each
-- register that an answer depends on.
pub record Stands (files : Files) (did : List Answered) (list : List Intention) (units : List LockUnit) : Type 0 where
  pub agrees : FilesAnswer files did
  pub effects : (u : LockUnit) → list_change list u ≡ effects did u
  pub reads : (u : LockUnit) → asked did u ≡ true → HasRead units u

-- The commits so far have a history, in which each is answered what those before it left. What each work did stands in the
-- files that they leave, while it is active, and while a pick finds it prepared and its transaction has no commit line.
pub record DoAnswersStand (files : AllFiles) (r : World) : Type 0 where
  pub history : List Commit
  pub told : commits_of history ≡ commits_in r.lines
  pub serial : IsSerial files history
  pub did : WorkId → List Answered
  pub active : (W : WorkId) (a : ActiveWork) → IsActive r W a → Stands (replay files history W.server) (did W) a.list a.reads
  pub ready : (W : WorkId) (c : Pick) (p : Prepared) → (r.found W.server c).works W ≡ Some p → (HasCommitLine r p.tid → ⊥) → Stands (replay files history W.server) (did W) p.list p.reads
