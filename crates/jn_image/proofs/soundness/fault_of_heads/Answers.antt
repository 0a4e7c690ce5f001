use Rattle.jn_image.proofs.Common.{ℕ, Option, Some, None, subst, HasOneHead, Finds}
use Rattle.jn_image.proofs.HeadLists.{malformed}
use Rattle.jn_image.proofs.soundness.fault_of_heads.Goals as goal

pub returns-in-Some : goal.returns-in-Some
returns-in-Some c = λ s m are pool. (pool, subst (λ (r : Option ℕ). Finds (HasOneHead m) r) c.in-Some.is (c.in_ok-f.ensures m are))

pub returns-in-Some-first_malformed : goal.returns-in-Some-first_malformed
returns-in-Some-first_malformed c = λ s m are pool. (
  (pool, subst (λ (r : Option ℕ). Finds (HasOneHead m) r) c.in_default.is (c.in_ok-f.ensures m are)),
  malformed m c.args.heads.now are (Some c.in-Some-first_malformed.i) c.in-Some-first_malformed.ensures,
)

pub returns : goal.returns
returns c = λ s m are pool. (
  (pool, subst (λ (r : Option ℕ). Finds (HasOneHead m) r) c.in_default.is (c.in_ok-f.ensures m are)),
  malformed m c.args.heads.now are None c.in_default-first_malformed.ensures,
)
