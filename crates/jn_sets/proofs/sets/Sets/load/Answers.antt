use Rattle.std.proofs.Common.{arith}
use Rattle.jn_sets.proofs.sets.Sets.load.Goals as goal

pub invariant_of-result : goal.invariant_of-result
invariant_of-result g c = record {
  few = c.rubbish_count-rubbish.ensures.few;
  count = c.rubbish_count-rubbish.ensures.count;
  none_below = λ k lt. absurd (omega (arith, lt));
  used_below = λ k lt. absurd (omega (arith, lt));
}
