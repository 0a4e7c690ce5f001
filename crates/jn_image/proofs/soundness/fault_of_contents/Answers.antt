use Rattle.jn_image.proofs.Common.{◌≡◌, ◌∙◌, ap, ℕ, List, Option, None, subst, MatchOption, IfOk-weaker, ServerNo, Head, Unsound, AreHeads, ToPool, ToHeads, ToAddresses, IsFirstFault, seen, all_maps_noted, no_times}
use Rattle.jn_records.specs.Sound as sound
use Rattle.jn_image.proofs.Spots.{named_size}
use Rattle.jn_image.proofs.soundness.fault_of_contents.Goals as goal

-- what heads were found to be
told : (s : ServerNo) (m : sound.Image) (heads : List (Option Head)) (r q : Option Unsound) → ((s : ServerNo) (m : sound.Image) → AreHeads m heads → ToPool s m → MatchOption r (ToHeads s m) (λ f. IsFirstFault s m f))
    → AreHeads m heads → ToPool s m → r ≡ q → MatchOption q (ToHeads s m) (λ f. IsFirstFault s m f)
told s m heads r q says are pool is = subst (λ (r : Option Unsound). MatchOption r (ToHeads s m) (λ f. IsFirstFault s m f)) is (says s m are pool)

pub fault_of_maps-requires-clause-named : goal.fault_of_maps-requires-clause-named
fault_of_maps-requires-clause-named c = named_size c.args.image.now.leaves c.args.heads.now c.deref.result.now
    (c.deref.ensures.value ∙ c.in_ok-named.ensures ∙ ap (λ (n : ℕ). all_maps_noted (no_times n) c.args.heads.now) c.leaf_count.ensures.count)

pub returns-in-Some : goal.returns-in-Some
returns-in-Some c = λ s are pool. told s (seen c.args.image.now) c.args.heads.now _ _ c.in_ok-fault.ensures are pool c.in-Some.is

pub returns : goal.returns
returns c =
    let noted : c.deref.result.now ≡ all_maps_noted (no_times c.args.image.now.leaves) c.args.heads.now =
    c.deref.ensures.value ∙ c.in_ok-named.ensures ∙ ap (λ (n : ℕ). all_maps_noted (no_times n) c.args.heads.now) c.leaf_count.ensures.count in
    IfOk-weaker c.fault_of_maps.result
    (λ r. (s : ServerNo) → AreHeads (seen c.args.image.now) c.args.heads.now → c.deref.result.now ≡ all_maps_noted (no_times c.args.image.now.leaves) c.args.heads.now → ToHeads s (seen c.args.image.now)
    → MatchOption r (ToAddresses s (seen c.args.image.now)) (λ f. IsFirstFault s (seen c.args.image.now) f))
    (λ r. (s : ServerNo) → AreHeads (seen c.args.image.now) c.args.heads.now → ToPool s (seen c.args.image.now) → MatchOption r (ToAddresses s (seen c.args.image.now)) (λ f. IsFirstFault s (seen c.args.image.now) f))
    (λ r h s are pool. h s are noted (told s (seen c.args.image.now) c.args.heads.now _ None c.in_ok-fault.ensures are pool c.in_default.is))
    c.fault_of_maps.ensures
