-- The works of a transaction that commits, or is in doubt, with what they have read.
use Rattle.std.specs.Prelude.{◌≡◌, ◌⊎◌, List, Some}
use Rattle.jn_base.specs.declared.names.LockUnit.{LockUnit}
use Rattle.jn_base.specs.declared.names.Tid.{Tid}
use Rattle.jn_base.specs.declared.names.WorkId.{WorkId}
use Rattle.jn_records.specs.declared.intention.Intention.{Intention}
use Rattle.jn_rows.specs.Stable.{Prepared, Pick}
use Rattle.jn_system.specs.WholeSystem.World.{World}
use Rattle.jn_system_reports.specs.BetweenSteps.Sent.{HasCommitLine}
use Rattle.jn_system_reports.specs.BetweenSteps.Parts.{IsPart}
use Rattle.jn_system_reports.specs.BetweenSteps.Works.{IsFlagged, IsCarriedOut, AreAsPrepared, AreReadsKept}

-- what a pick finds of the work, with these intentions and these units that it has read
pub record IsFoundWith (r : World) (W : WorkId) (c : Pick) (list : List Intention) (reads : List LockUnit) : Type 0 where
  pub prepared : Prepared
  pub is : (r.found W.server c).works W ≡ Some prepared
  pub list_is : prepared.list ≡ list
  pub reads_are : prepared.reads ≡ reads

-- every pick finds it prepared, with the same intentions and read units
pub record IsPreparedWithReads (r : World) (W : WorkId) : Type 0 where
  pub list : List Intention
  pub reads : List LockUnit
  pub found : (c : Pick) → IsFoundWith r W c list reads

-- Each work of a flag that may be found, and of a named transaction's end, is prepared with its read units in whatever is found; or the
-- transaction is named, and the work is carried out wherever it is still found.
abbrev pub WorksHoldReads : World → Type 0
WorksHoldReads r = (T : Tid) (W : WorkId) → IsFlagged r T W ⊎ (HasCommitLine r T × IsPart r T W) → IsPreparedWithReads r W ⊎ (HasCommitLine r T × IsCarriedOut r W)

-- From one moment of a run to a later one: what is found of a prepared work stays, its read units too; and what a work has read while it took
-- operations is among the read units that are found.
pub record AreTheirReads (r later : World) : Type 0 where
  pub as_prepared : AreAsPrepared r later
  pub kept : AreReadsKept r later
