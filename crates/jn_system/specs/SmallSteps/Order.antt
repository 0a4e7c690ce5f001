-- What the theorem says: the commits, one after another, are what committed transactions were answered and what the
-- stable states show.
use Rattle.std.specs.Prelude.{◌≡◌, Bool, true, false, ◌||◌, List, [], ◌∷◌, Option, Some, is_some}
use Rattle.jn_base.specs.declared.names.ServerNo.{ServerNo}
use Rattle.jn_base.specs.declared.names.LockUnit.{LockUnit}
use Rattle.jn_base.specs.declared.names.Tid.{Tid}
use Rattle.jn_base.specs.declared.names.WorkId.{WorkId}
use Rattle.jn_base.specs.Names.{tid_eq}
use Rattle.jn_order.specs.Files.{AllFiles}
use Rattle.jn_records.specs.NetLists.{list_change}
use Rattle.jn_rows.specs.Stable.{StableState, Prepared, Pick}
use Rattle.jn_order.specs.Answers.{Answered}
use Rattle.jn_system.specs.SmallSteps.World.{World, Commit, IsSerial, replay}
use Rattle.jn_system.specs.SmallSteps.Steps.{trace_of}

abbrev pub has_committed : Tid → List Commit → Bool
has_committed T [] = false
has_committed T (c ∷ history) = tid_eq c.tid T || has_committed T history

abbrev pub CommitsOnce : List Commit → Type 0
CommitsOnce [] = Unit {0}
CommitsOnce (c ∷ history) = (has_committed c.tid history ≡ false) × CommitsOnce history

-- each commit has what the transaction's works did
abbrev pub HasTraces : (WorkId → List Answered) → (Tid → ServerNo → Option WorkId) → List Commit → Type 0
HasTraces trace part [] = Unit {0}
HasTraces trace part (c ∷ history) = ((s : ServerNo) → c.traces s ≡ trace_of trace (part c.tid s)) × HasTraces trace part history

-- no prepared work of a transaction that has committed will write the register
abbrev pub IsDone : World → StableState → LockUnit → Type 0
IsDone w x u = (W : WorkId) (p : Prepared) → x.works W ≡ Some p → has_committed p.tid w.history ≡ true → is_some (list_change p.list u) ≡ false

pub record IsInOrder (files : AllFiles) (w : World) : Type 0 where
  pub once : CommitsOnce w.history
  pub traces : HasTraces w.trace w.part w.history
  pub serial : IsSerial files w.history
  -- each register of each state that may be found is as the commits leave it, but for what is still to be carried out
  pub shown : (s : ServerNo) (c : Pick) (u : LockUnit) → IsDone w (w.found s c) u → (w.found s c).files u ≡ replay files w.history s u
