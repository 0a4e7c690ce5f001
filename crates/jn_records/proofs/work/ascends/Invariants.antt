use Rattle.jn_records.proofs.Common.{◌≡◌, drop, None, ascends}
use Rattle.jn_records.proofs.work.ascends.Given as goal

abbrev pub invariant-loop-unit : goal.invariant-loop-unit
invariant-loop-unit l = ascends l.last (drop l.unit-index l.units) ≡ ascends None l.units
