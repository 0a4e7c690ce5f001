-- How many numbers below a bound pass a test, and what is listed by numbers.
use Rattle.jn_intent.proofs.Common.{◌≡◌, ◌≢◌, ◌<◌, ◌≤◌, ◌+◌, ℕ, zero, suc, Bool, true, false, not, ◌&&◌, if◌then◌else◌, List, [], ◌∷◌, length, Some, refl, sym, ◌∙◌, ap, true≢false, arith, sum_by-cons, count_by, slice_get, slice_index_or, is_in, are_different, IsListing, total, Tells, but, listing-less, one}
use Rattle.jn_recovery.proofs.FlagStates.{length-one}

abbrev pub how_many : (ℕ → Bool) → ℕ → ℕ
how_many p zero = 0
how_many p (suc n) = how_many p n + one (p n)

from_first : (p : ℕ → Bool) (n : ℕ) → how_many p (suc n) ≡ one (p 0) + how_many (λ a. p (suc a)) n
from_first p zero = omega arith
from_first p (suc n) = let again = from_first p n in omega (arith, again)

-- the flags of a list
pub flags_count : (xs : List Bool) → count_by (λ free. free) xs ≡ how_many (λ a. slice_index_or xs a false) (length xs)
flags_count [] = refl
flags_count (x ∷ xs) =
    let more = sum_by-cons (λ (free : Bool). if free then 1 else 0) x xs in let again = flags_count xs in
    let first = from_first (λ a. slice_index_or (x ∷ xs) a false) (length xs) in omega (arith, more, again, first)

pub one_kind : (p q r : ℕ → Bool) (n : ℕ) → ((a : ℕ) → a < n → one (p a) + one (q a) + one (r a) ≡ 1) → how_many p n + how_many q n + how_many r n ≡ n
one_kind p q r zero each = refl
one_kind p q r (suc n) each = let again = one_kind p q r n (λ a lt. each a (omega (arith, lt))) in let here = each n (omega arith) in omega (arith, again, here)

pub more_pass : (p q : ℕ → Bool) (n : ℕ) → ((a : ℕ) → p a ≡ true → q a ≡ true) → how_many p n ≤ how_many q n
more_pass p q zero each = omega arith
more_pass p q (suc n) each = let again = more_pass p q n each in let here = by (p n) (q n) (each n) in omega (arith, again, here)
  where
    by : (b c : Bool) → (b ≡ true → c ≡ true) → one b ≤ one c
    by true c h = let e = h refl in grind (arith, e)
    by false c h = omega arith

pub same_members : {X : Type 0} (p q : X → Bool) (xs : List X) → ((j : ℕ) (x : X) → slice_get xs j ≡ Some x → p x ≡ q x) → count_by p xs ≡ count_by q xs
same_members p q [] same = refl
same_members p q (x ∷ xs) same =
    let a = sum_by-cons (λ x. if p x then 1 else 0) x xs in let b = sum_by-cons (λ x. if q x then 1 else 0) x xs in
    let here = same 0 x refl in let again = same_members p q xs (λ j. same (suc j)) in grind (arith, a, b, here, again)

-- ---- totals

pub total_members : {X : Type 0} (f g : X → ℕ) (xs : List X) → ((j : ℕ) (x : X) → slice_get xs j ≡ Some x → f x ≡ g x) → total f xs ≡ total g xs
total_members f g [] same = refl
total_members f g (x ∷ xs) same = let here = same 0 x refl in let again = total_members f g xs (λ j. same (suc j)) in omega (arith, here, again)

-- all alike but one
pub total_but_one : {X : Type 0} (f g : X → ℕ) (xs : List X) (n : ℕ) (x : X) → slice_get xs n ≡ Some x → ((j : ℕ) (y : X) → j ≢ n → slice_get xs j ≡ Some y → f y ≡ g y) → total f xs + g x ≡ total g xs + f x
total_but_one f g [] zero x at same = absurd (cc at)
total_but_one f g [] (suc n) x at same = absurd (cc at)
total_but_one f g (y ∷ xs) zero x at same =
    let is : y ≡ x = cc at in let here = ap f is in let there = ap g is in
    let rest = total_members f g xs (λ j z. same (suc j) z (λ e. omega (arith, e))) in omega (arith, here, there, rest)
total_but_one f g (y ∷ xs) (suc n) x at same =
    let here = same 0 y (λ e. omega (arith, e)) refl in
    let again = total_but_one f g xs n x at (λ j z ne. same (suc j) z (λ e. ne (omega (arith, e)))) in omega (arith, here, again)

pub total_plus : {K : Type 0} (f g h : K → ℕ) → ((k : K) → h k ≡ f k + g k) → (keys : List K) → total h keys ≡ total f keys + total g keys
total_plus f g h is [] = refl
total_plus f g h is (k ∷ keys) = let here = is k in let again = total_plus f g h is keys in omega (arith, here, again)

pub total_none : {K : Type 0} (f : K → ℕ) → ((k : K) → f k ≡ 0) → (keys : List K) → total f keys ≡ 0
total_none f none [] = refl
total_none f none (k ∷ keys) = let here = none k in let again = total_none f none keys in omega (arith, here, again)

-- ---- listings

-- two listings of the same keys are equally long
pub listing_length : {A : Type 0} (eq : A → A → Bool) → Tells eq → (holds : A → Bool) (xs ys : List A) → IsListing eq holds xs → IsListing eq holds ys → length xs ≡ length ys
listing_length eq tells holds [] [] l m = refl
listing_length eq tells holds [] (y ∷ ys) l m = absurd (true≢false (sym here ∙ m.all y ∙ sym (l.all y)))
  where
    here : is_in eq y (y ∷ ys) ≡ true
    here = let t = tells y y in grind arith
listing_length eq tells holds (x ∷ xs) ys l m =
    let less = length-one eq tells x ys m.different (m.all x ∙ sym (l.all x) ∙ here) in
    let again = listing_length eq tells (λ a. is_in eq a xs) xs (but eq x ys) (record { different = rest.0; all = λ a. refl }) (listing-less eq tells x holds (λ a. is_in eq a xs) ys (λ a. others a) m) in
    omega (arith, less, again)
  where
    here : is_in eq x (x ∷ xs) ≡ true
    here = let t = tells x x in grind arith

    rest : (are_different eq xs ≡ true) × (is_in eq x xs ≡ false)
    rest = let d = l.different in (grind (arith, d), grind (arith, d))

    others : (a : _) → is_in eq a xs ≡ (holds a && not (eq x a))
    others a = let all = l.all a in let none = rest.1 in let t = tells x a in grind (arith, all, none)
