use Rattle.jn_gen.proofs.Common.{◌≡◌, ◌++◌, ◌+◌, ◌-◌, ◌≤◌, ℕ, events_from}
use Rattle.jn_gen.proofs.schedule.draw_events.Given as goal

-- the events so far, then those that are left of the count, and then any more
abbrev pub invariant-events : goal.invariant-events
invariant-events l = record {
  within : l.counter ≤ l.count;
  whole : (later : ℕ) → l.events.items ++ events_from l.generator.state (l.count - l.counter + later) ≡ events_from l.fn.generator.state (l.count + later);
}
