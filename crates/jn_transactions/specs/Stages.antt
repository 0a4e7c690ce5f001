-- The stages of a transaction.
use Rattle.std.specs.Prelude.{Bool, true, false}
use Rattle.jn_base.specs.declared.names.WorkId.{WorkId}
use Rattle.jn_rows.specs.declared.coordinator.Stage.{Stage}
use Rattle.jn_rows.specs.declared.coordinator.Stage.TheVariants.{Voting, Committed, Aborted}
use Rattle.jn_rows.specs.Coordinator.{is_work, all_in}

abbrev pub is_aborted : Stage → Bool
is_aborted (Aborted cause) = true
is_aborted stage = false

abbrev pub is_decided : Stage → Bool
is_decided (Committed d) = true
is_decided (Aborted cause) = true
is_decided stage = false

-- all but a committed transaction that waits for a work
abbrev pub goes : Stage → Bool
goes (Committed d) = all_in d.works d.done
goes stage = true

-- whether a work of a ballot is ready
abbrev pub ready_in : Stage → WorkId → Bool
ready_in (Voting b) W = is_work W b.ready
ready_in stage W = false
