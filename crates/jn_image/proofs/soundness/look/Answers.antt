use Rattle.jn_image.proofs.Common.{◌≡◌, ◌<◌, ◌^◌, ℕ, List, length, Option, Some, None, sym, ap, ◌∙◌, subst, MatchOption, ServerNo, Head, Unsound, AreHeads, seen, ToPool, ToAddresses, IsFirstFault}
use Rattle.jn_records.specs.Sound as sound
use Rattle.jn_image.proofs.Exclusive.{all_hold}
use Rattle.jn_image.proofs.soundness.look.Goals as goal

told : (s : ServerNo) (m : sound.Image) (heads now : List (Option Head)) (r q : Option Unsound) → now ≡ heads → AreHeads m heads
    → ((s : ServerNo) → AreHeads m now → ToPool s m → MatchOption r (ToAddresses s m) (λ f. IsFirstFault s m f)) → ToPool s m → r ≡ q
    → MatchOption q (ToAddresses s m) (λ f. IsFirstFault s m f)
told s m heads now r q e are says pool is =
    subst (λ (r : Option Unsound). MatchOption r (ToAddresses s m) (λ f. IsFirstFault s m f)) is (says s (subst (λ (hs : List (Option Head)). AreHeads m hs) (sym e) are) pool)

few : (m : sound.Image) (heads now : List (Option Head)) → now ≡ heads → AreHeads m heads → length now < 2 ^ 16
few m heads now e are = subst (λ (n : ℕ). n < 2 ^ 16) (sym (ap (λ (hs : List (Option Head)). length hs) e ∙ are.count)) are.few_heads

pub fault_of_contents-requires-clause-few : goal.fault_of_contents-requires-clause-few
fault_of_contents-requires-clause-few c = few (seen c.args.image.now) c.in_ok-heads.heads.items c.deref.result.now c.deref.ensures.value c.in_ok-heads.ensures

pub returns-in-Some-2 : goal.returns-in-Some-2
returns-in-Some-2 c = told c.args.server (seen c.args.image.now) c.in_ok-heads.heads.items c.deref.result.now c.in_ok-fault.field-0 (Some c.in-Some-2.fault)
    c.deref.ensures.value c.in_ok-heads.ensures c.in_ok-fault.ensures c.in_default.ensures c.in-Some-2.is

pub returns-in-Some-first_failing : goal.returns-in-Some-first_failing
returns-in-Some-first_failing c = (
  told c.args.server (seen c.args.image.now) c.in_ok-heads.heads.items c.deref.result.now c.in_ok-fault.field-0 None
      c.deref.ensures.value c.in_ok-heads.ensures c.in_ok-fault.ensures c.in_default.ensures c.in_default-2.is,
  c.in-Some-first_failing.ensures,
)

pub returns : goal.returns
returns c = all_hold c.args.server (seen c.args.image.now)
    (told c.args.server (seen c.args.image.now) c.in_ok-heads.heads.items c.deref.result.now c.in_ok-fault.field-0 None
    c.deref.ensures.value c.in_ok-heads.ensures c.in_ok-fault.ensures c.in_default.ensures c.in_default-2.is)
    c.in_default-first_failing.ensures
