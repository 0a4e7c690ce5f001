-- The works of a transaction that commits, or is in doubt.
use Rattle.std.specs.Prelude.{◌≡◌, ◌⊎◌, ℕ, true, List, Option, Some, is_some}
use Rattle.jn_base.specs.declared.names.LockUnit.{LockUnit}
use Rattle.jn_base.specs.declared.names.Tid.{Tid}
use Rattle.jn_base.specs.declared.names.WorkId.{WorkId}
use Rattle.jn_order.specs.Files.{Files}
use Rattle.jn_records.specs.declared.intention.Intention.{Intention}
use Rattle.jn_records.specs.NetLists.{list_change}
use Rattle.jn_rows.specs.declared.worker.Work.{Work}
use Rattle.jn_rows.specs.declared.worker.ActiveWork.{ActiveWork}
use Rattle.jn_rows.specs.declared.worker.Phase.TheVariants.{Active}
use Rattle.jn_rows.specs.Stable.{Prepared, FlagState, Pick}
use Rattle.jn_rows.specs.Worker.{work_at}
use Rattle.jn_rows.specs.Coordinator.{is_work}
use Rattle.jn_system.specs.SmallSteps.Held.{HasRead}
use Rattle.jn_system.specs.WholeSystem.World.{World, Memory}
use Rattle.jn_system_reports.specs.BetweenSteps.Sent.{HasCommitLine}
use Rattle.jn_system_reports.specs.BetweenSteps.Parts.{WasEnded, IsPart}

-- some pick finds its flag, with this work
pub record IsFlagged (r : World) (T : Tid) (W : WorkId) : Type 0 where
  pub pick : Pick
  pub flag : FlagState
  pub is : (r.found T.server pick).flags T ≡ Some flag
  pub work : is_work W flag.works ≡ true

-- every pick finds it prepared
abbrev pub IsPrepared : World → WorkId → Type 0
IsPrepared r W = (c : Pick) → is_some ((r.found W.server c).works W) ≡ true

-- the files are as these intentions make them
abbrev pub AreCarriedOut : List Intention → Files → Type 0
AreCarriedOut list files = (u : LockUnit) (v : Option (List ℕ)) → list_change list u ≡ Some v → files u ≡ v

-- where a pick still finds it, all its intentions are carried out
abbrev pub IsCarriedOut : World → WorkId → Type 0
IsCarriedOut r W = (c : Pick) (p : Prepared) → (r.found W.server c).works W ≡ Some p → AreCarriedOut p.list (r.found W.server c).files

pub record DoWorksStay (r : World) : Type 0 where
  -- a named transaction was ended
  pub ended : (T : Tid) → HasCommitLine r T → WasEnded r T
  -- all ends of a transaction have the same works
  pub same : (T : Tid) (e f : WasEnded r T) (W : WorkId) → is_work W e.works ≡ is_work W f.works
  -- Each work of a flag, and of a named transaction's end, is found prepared by every pick, or the transaction is named and the work
  -- is carried out.
  pub stay : (T : Tid) (W : WorkId) → IsFlagged r T W ⊎ (HasCommitLine r T × IsPart r T W) → IsPrepared r W ⊎ (HasCommitLine r T × IsCarriedOut r W)

-- a work of a server that is up, while it takes operations
pub record IsActive (r : World) (W : WorkId) (a : ActiveWork) : Type 0 where
  pub memory : Memory
  pub up : r.memory W.server ≡ Some memory
  pub work : Work
  pub is : work_at W memory.worker ≡ Some work
  pub active : work.phase ≡ Active a

-- A prepared work keeps its list and its read units: whatever pick finds it, then and later, finds it with these.
abbrev pub AreAsPrepared : World → World → Type 0
AreAsPrepared r later = (W : WorkId) (c d : Pick) (p q : Prepared) → (r.found W.server c).works W ≡ Some p → (later.found W.server d).works W ≡ Some q → (q.list ≡ p.list) × (q.reads ≡ p.reads)

-- What an active work has read it has read later too, as long as it is active, and wherever it is found.
abbrev pub AreReadsKept : World → World → Type 0
AreReadsKept r later = (W : WorkId) (a : ActiveWork) (u : LockUnit) → IsActive r W a → HasRead a.reads u
    → ((b : ActiveWork) → IsActive later W b → HasRead b.reads u) × ((c : Pick) (p : Prepared) → (later.found W.server c).works W ≡ Some p → HasRead p.reads u)
