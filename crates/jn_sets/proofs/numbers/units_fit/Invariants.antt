use Rattle.jn_sets.proofs.Common.{drop, AllByRecursion, UnitFits}
use Rattle.jn_sets.proofs.numbers.units_fit.Given as goal

-- all fit where the others do
abbrev pub invariant-loop-unit : goal.invariant-loop-unit
invariant-loop-unit l = AllByRecursion UnitFits (drop l.unit-index l.units) → AllByRecursion UnitFits l.units
