use Rattle.jn_run.proofs.Common.{◌≡◌, ◌+◌, length, AllByRecursion, EventInRange, Moment, IsWorld, Course, HasTold, StandsBefore, ToldTo}
use Rattle.jn_run.proofs.Stores.{look, device}
use Rattle.jn_run.proofs.trial.run_stretches.Given as goal

abbrev pub invariant-stretches : goal.invariant-stretches
invariant-stretches g l = record {
  all : l.begun + length l.drawn ≡ length l.fn.drawn;
  range : AllByRecursion EventInRange l.drawn;
  world : IsWorld look l.world;
  so_far : (c : Course g.row.O.Denot) (m : Moment) → HasTold g.R.Reporter.reporting c m l.fn.output → c.schedule ≡ l.fn.drawn → StandsBefore look device c.setup l.fn.drawn l.fn.world m
      → ToldTo g.R.Reporter.reporting c (StandsBefore look device c.setup l.drawn l.world) l.output;
}

abbrev pub decreases-stretches : goal.decreases-stretches
decreases-stretches g l = length l.drawn
