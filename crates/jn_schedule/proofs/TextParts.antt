-- What stands before and behind the first full stop of a word.
use Rattle.jn_schedule.proofs.Common.{◌≡◌, ◌≢◌, ap, cond, ℕ, ◌+◌, ◌<◌, true, List, [], ◌∷◌, ◌++◌, length, take, get_or, refl, sym, ◌∙◌, arith, nat_tests, common_steps, decimal_by_steps, some_pair_parts, cut_at_stop, lacks, with_first, false, ◌-◌, ◌^◌, Bool, Some, None, Option, nat_eq, decimal, drop}

pub lacks-append : (byte : ℕ) (xs ys : List ℕ) → lacks byte xs ≡ true → lacks byte ys ≡ true → lacks byte (xs ++ ys) ≡ true
lacks-append byte [] ys front back = back
lacks-append byte (x ∷ xs) ys front back = grind (arith, nat_tests, lacks-append byte xs ys)

pub lacks-next : (byte : ℕ) (xs : List ℕ) (i : ℕ) → i < length xs → lacks byte (take i xs) ≡ true → get_or xs i 0 ≢ byte → lacks byte (take (i + 1) xs) ≡ true
lacks-next byte xs i within before other = grind (arith, nat_tests, common_steps, lacks-append byte (take i xs) (get_or xs i 0 ∷ []))

-- no byte below the digits
pub decimal-lacks : (byte n : ℕ) → byte < 48 → n < 2 ^ 64 → lacks byte (decimal n) ≡ true
decimal-lacks byte n low small =
    decimal_by_steps (λ _ ds. lacks byte ds ≡ true) (λ k h. grind (arith, nat_tests))
    (λ k ds h front. lacks-append byte ds _ front (grind (arith, nat_tests))) n small

-- a byte that isn't one of the kind, and those behind it
pub front_other : (byte a : ℕ) (rest : List ℕ) → lacks byte (a ∷ rest) ≡ true → (nat_eq a byte ≡ false) × (lacks byte rest ≡ true)
front_other byte a rest h = grind (arith, nat_tests)

-- the first full stop is where the word is cut
pub cut-at : (front back : List ℕ) → lacks 46 front ≡ true → cut_at_stop (front ++ 46 ∷ back) ≡ Some (front, back)
unfolding cut_at_stop
cut-at [] back h = refl
cut-at (a ∷ front) back h =
    let o = front_other 46 a front h in
    rw (o.0, cut-at front back o.1) refl

pub rest_is : (w : List ℕ) (i : ℕ) → take (length w - i) (drop i w) ≡ drop i w
rest_is w i = grind (arith, common_steps)

pub cut-here : (w : List ℕ) (i : ℕ) (back : List ℕ) → i < length w → get_or w i 0 ≡ 46 → back ≡ drop (i + 1) w → lacks 46 (take i w) ≡ true → cut_at_stop w ≡ Some (take i w, back)
cut-here w i back within at same front =
    let split : take i w ++ 46 ∷ back ≡ w = grind (arith, common_steps) in
    ap cut_at_stop (sym split) ∙ cut-at (take i w) back front

pub cut-none : (w : List ℕ) → lacks 46 w ≡ true → cut_at_stop w ≡ None
unfolding cut_at_stop
cut-none [] h = refl
cut-none (a ∷ w) h =
    let o = front_other 46 a w h in
    rw (o.0, cut-none w o.1) refl

-- the word is what was cut, with a full stop between
pub cut-is : (w front back : List ℕ) → cut_at_stop w ≡ Some (front, back) → w ≡ front ++ 46 ∷ back
unfolding cut_at_stop
cut-is [] front back e = absurd cc
cut-is (a ∷ w) front back e = cut_first (λ f b h. cut-is w f b h) (nat_eq a 46) refl (cut_at_stop w) refl e
  where
    cut_first : ((f b : List ℕ) → cut_at_stop w ≡ Some (f, b) → w ≡ f ++ 46 ∷ b) → (stop : Bool) → nat_eq a 46 ≡ stop → (cut : Option (List ℕ × List ℕ)) → cut_at_stop w ≡ cut
        → cond stop (Some ([], w)) (with_first a cut) ≡ Some (front, back) → a ∷ w ≡ front ++ 46 ∷ back
    cut_first rest_is true is cut of_rest e =
        let at : a ≡ 46 = grind (arith, nat_tests) in
        let p = some_pair_parts [] front w back e in
        ap (λ (h : ℕ). h ∷ w) at ∙ ap (λ (b : List ℕ). 46 ∷ b) p.1 ∙ ap (λ (f : List ℕ). f ++ 46 ∷ back) p.0
    cut_first rest_is false is None of_rest e = absurd cc
    cut_first rest_is false is (Some x) of_rest e =
        let p = some_pair_parts (a ∷ x.0) front x.1 back e in
        ap (λ (l : List ℕ). a ∷ l) (rest_is x.0 x.1 of_rest) ∙ ap (λ (b : List ℕ). (a ∷ x.0) ++ 46 ∷ b) p.1 ∙ ap (λ (f : List ℕ). f ++ 46 ∷ back) p.0
