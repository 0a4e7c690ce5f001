use Rattle.std.proofs.Common.{◌+◌, ◌-◌, ◌/◌, arith, sym, ◌∙◌}
use Rattle.jn_index.proofs.Order.{before_up_to, after_from}
use Rattle.jn_index.proofs.place_by_halving.Goals as goal

pub loop-low-preserved-then-comes_before : goal.loop-low-preserved-then-comes_before
loop-low-preserved-then-comes_before c = record {
  low_high = omega arith;
  high_end = c.loop-low.invariant.high_end;
  before = λ i lt. before_up_to c.args.entries.now c.requires c.args.sought (c.loop-low.low + (c.loop-low.high - c.loop-low.low) / 2) i (omega arith) (sym c.comes_before.ensures ∙ c.if-comes_before.true) (omega arith);
  after = c.loop-low.invariant.after;
}

pub loop-low-preserved : goal.loop-low-preserved
loop-low-preserved c = record {
  low_high = omega arith;
  high_end = omega arith;
  before = c.loop-low.invariant.before;
  after = λ i le lt. after_from c.args.entries.now c.requires c.args.sought (c.loop-low.low + (c.loop-low.high - c.loop-low.low) / 2) i lt (sym c.comes_before.ensures ∙ c.if-comes_before.false) le;
}
