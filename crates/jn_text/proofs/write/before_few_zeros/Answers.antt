use Rattle.std.proofs.Common.{◌≡◌, take, arith, ap, sym, ◌∙◌, subst, ℕ}
use Rattle.jn_text.specs.Words.{without_end_zeros}
use Rattle.jn_text.proofs.Zeros.{without_end_zeros-shorter, without_end_zeros-kept}
use Rattle.jn_text.proofs.write.before_few_zeros.Goals as goal
use Rattle.jn_text.proofs.write.before_few_zeros.Goals.{then-loop-used-test+else-bytes-used-eq0, else-loop-used-test}

pub loop-used-preserved : goal.loop-used-preserved
loop-used-preserved c = record {
  within = omega arith;
  same =
      without_end_zeros-shorter c.args.bytes.now c.loop-used.used c.loop-used-test.true c.loop-used.invariant.within c.if-bytes-used-eq0.true
      ∙ c.loop-used.invariant.same;
}

pub returns : goal.returns
returns c =
    let bytes = c.args.bytes.now in
    let used = c.loop-used.used in
    elim c.loop-used-test.branch [
      | then-loop-used-test+else-bytes-used-eq0 w ↦
          sym (without_end_zeros-kept bytes used w.loop-used-test.true c.loop-used.invariant.within w.if-bytes-used-eq0.false)
          ∙ c.loop-used.invariant.same
      | else-loop-used-test w ↦
          let none : used ≡ 0 = omega arith in
          let same : without_end_zeros (take 0 bytes) ≡ without_end_zeros bytes = subst (λ (n : ℕ). without_end_zeros (take n bytes) ≡ without_end_zeros bytes) none c.loop-used.invariant.same in
          ap (λ (n : ℕ). take n bytes) none ∙ same
    ]
