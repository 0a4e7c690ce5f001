-- A stage whose works are at so many servers.
use Rattle.std.specs.Prelude.{ℕ, Bool, true}
use Rattle.jn_msgs.specs.Ranges.{is_few}
use Rattle.jn_rows.specs.declared.coordinator.Stage.{Stage}
use Rattle.jn_rows.specs.declared.coordinator.Stage.TheVariants.{Voting, Committed}

abbrev pub is_small_stage : ℕ → Stage → Bool
is_small_stage servers (Voting b) = is_few servers b.works
is_small_stage servers (Committed d) = is_few servers d.works
is_small_stage servers stage = true
