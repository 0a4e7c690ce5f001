-- The works of a transaction, and what its coordinator knows of it.
use Rattle.std.specs.Prelude.{◌≡◌, ◌⊎◌, true, false, Some, List}
use Rattle.jn_base.specs.declared.names.ServerNo.{ServerNo}
use Rattle.jn_base.specs.declared.names.Tid.{Tid}
use Rattle.jn_base.specs.declared.names.WorkId.{WorkId}
use Rattle.jn_system.specs.SmallSteps.World.{World, Knowledge, Unknown, Begun, Voting, Committed}
use Rattle.jn_rows.specs.Coordinator.{is_work}

-- ---- its works

abbrev pub AllReady : World → Tid → Type 0
AllReady w T = (s : ServerNo) (W : WorkId) → w.part T s ≡ Some W → w.was_ready W ≡ true

abbrev pub AllOver : World → Tid → Type 0
AllOver w T = ((s : ServerNo) (W : WorkId) → w.part T s ≡ Some W → w.over W ≡ true) × (w.closed T ≡ true)

-- these works are those of the transaction's end
abbrev pub AreParts : World → Tid → List WorkId → Type 0
AreParts w T works = record {
  each : (W : WorkId) → is_work W works ≡ true → w.part T W.server ≡ Some W;
  all : (s : ServerNo) (W : WorkId) → w.part T s ≡ Some W → is_work W works ≡ true;
}

-- ---- its coordinator

-- what a coordinator that is up knows is so
abbrev pub Knows : World → Tid → Knowledge → Type 0
Knows w T Unknown = (w.aborted T ≡ true) ⊎ ((w.named T ≡ true) × AllOver w T)
Knows w T Begun = (w.named T ≡ false) × (w.aborted T ≡ false)
Knows w T (Voting noted) = (w.named T ≡ false) × (w.aborted T ≡ false) × (w.ended T ≡ true) × ((W : WorkId) → noted W ≡ true → w.was_ready W ≡ true)
Knows w T (Committed finished) = (w.named T ≡ true) × (w.aborted T ≡ false) × ((W : WorkId) → finished W ≡ true → w.over W ≡ true)
