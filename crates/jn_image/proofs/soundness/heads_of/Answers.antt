use Rattle.std.proofs.Common.{◌<◌, ◌^◌, ℕ, subst, arith}
use Rattle.jn_image.proofs.soundness.heads_of.Goals as goal

pub returns : goal.returns
returns c = let n = c.head_count-count.ensures.count in let end = c.loop-i-test.false in let most = c.loop-i.auto.i-end in let len = c.loop-i.invariant.len in let items = c.loop-i.heads.ok.0 in record {
  few_heads = subst (λ (n : ℕ). n < 2 ^ 16) n c.head_count-count.ensures.few;
  few = subst (λ (n : ℕ). n < 2 ^ 16) c.leaf_count-leaves.ensures.count c.leaf_count-leaves.ensures.few;
  count = omega (arith, n, end, most, len, items);
  each = λ i lt. c.loop-i.invariant.each i (omega (arith, n, lt, end));
}
