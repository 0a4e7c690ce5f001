use Rattle.jn_sets.proofs.Common.{drop, AllByRecursion, WorkFits}
use Rattle.jn_sets.proofs.numbers.works_fit.Given as goal

-- all fit where the others do
abbrev pub invariant-loop-work : goal.invariant-loop-work
invariant-loop-work l = AllByRecursion WorkFits (drop l.work-index l.works) → AllByRecursion WorkFits l.works
