use Rattle.jn_run.proofs.Common.{◌≡◌, ◌+◌, ◌++◌, List, drop, Event, Moment, IsWorld, Course, HasTold, StandsBefore, ToldTo}
use Rattle.jn_run.proofs.Stores.{look, device}
use Rattle.jn_run.proofs.running.run_events.Given as goal

abbrev pub invariant-loop-event : goal.invariant-loop-event
invariant-loop-event g l = record {
  number : l.number ≡ l.fn.begun + l.event-index;
  world : IsWorld look l.world;
  so_far : (c : Course g.row.O.Denot) (m : Moment) (rest : List Event) → HasTold g.R.Reporter.reporting c m l.fn.output → l.fn.begun ≡ m.state.course.world.event → StandsBefore look device c.setup (l.fn.events ++ rest) l.fn.world m
      → ToldTo g.R.Reporter.reporting c (StandsBefore look device c.setup (drop l.event-index l.fn.events ++ rest) l.world) l.output;
}
