-- Events that are done in one step, and those that are still to begin.
use Rattle.std.specs.Prelude.{ℕ, ◌+◌, Bool, true, false, List, [], ◌∷◌}
use Rattle.jn_schedule.specs.declared.Event.{Event}
use Rattle.jn_schedule.specs.declared.Event.TheVariants as events
use Rattle.jn_machine.specs.Tasks.{Task, Begins}

-- a settle is done in many steps, and any other event in one
abbrev pub is_settle : Event → Bool
is_settle events.Settle = true
is_settle event = false

abbrev pub begun_by : Task → ℕ
begun_by (Begins event) = 1
begun_by task = 0

-- how many events are still to begin
abbrev pub begins_in : List Task → ℕ
begins_in [] = 0
begins_in (task ∷ tasks) = begun_by task + begins_in tasks
