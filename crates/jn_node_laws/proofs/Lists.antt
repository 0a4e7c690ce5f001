-- Two listings of the same keys, and what is counted in lists.
use Rattle.jn_node_laws.proofs.Common.{◌≡◌, ⊎_elim, ℕ, ◌+◌, Bool, true, false, List, [], ◌∷◌, refl, sym, ◌∙◌, ap, subst, arith, true≢false, ◌&&◌, not, if◌then◌else◌, nat_lt, count_by, list_any, nat_tests, is_in, are_different, IsListing, total, Tells, but, listing-less, total-but}
use Rattle.std.proofs.lemmas.List.Sums.{sum_by-cons}

-- ---- listings

module _ {A : Type 0} (eq : A → A → Bool) (tells : Tells eq) where
  pub itself : (x : A) → eq x x ≡ true
  itself x = ⊎_elim (λ t. t.0) (λ t. absurd (t.1 refl)) (tells x x)

  first-in : (x : A) (xs : List A) → is_in eq x (x ∷ xs) ≡ true
  first-in x xs = let t = itself x in grind arith

  -- the first key isn't among the others
  first-once : (x : A) (xs : List A) → are_different eq (x ∷ xs) ≡ true → is_in eq x xs ≡ false
  first-once x xs d = grind arith

  others-differ : (x : A) (xs : List A) → are_different eq (x ∷ xs) ≡ true → are_different eq xs ≡ true
  others-differ x xs d = grind arith

  others : (holds : A → Bool) (x : A) (xs : List A) → IsListing eq holds (x ∷ xs) → (a : A) → is_in eq a xs ≡ (holds a && not (eq x a))
  others holds x xs l a = ⊎_elim
      (λ t. subst (λ (z : A). is_in eq z xs ≡ (holds z && not (eq x z))) t.1 (let e = itself x in let once = first-once x xs l.different in grind (arith, e, once)))
      (λ t. let e = t.0 in let all = l.all a in grind (arith, e, all))
      (tells x a)

  -- what two functions that agree on the keys add up to
  pub same-total : (f h : A → ℕ) (holds : A → Bool) (xs ys : List A) → IsListing eq holds xs → IsListing eq holds ys → ((a : A) → holds a ≡ true → f a ≡ h a) → total f xs ≡ total h ys
  same-total f h holds [] [] l m same = refl
  same-total f h holds [] (y ∷ ys) l m same = absurd (true≢false (sym (first-in y ys) ∙ m.all y ∙ sym (l.all y)))
  same-total f h holds (x ∷ xs) ys l m same =
      let there : holds x ≡ true = sym (l.all x) ∙ first-in x xs in
      let less = total-but eq tells h x ys m.different (m.all x ∙ there) in
      let here = same x there in
      let again = same-total f h (λ a. is_in eq a xs) xs (but eq x ys) (record { different = others-differ x xs l.different; all = λ a. refl })
      (listing-less eq tells x holds (λ a. is_in eq a xs) ys (others holds x xs l) m) (λ a i. same a (sym (l.all a) ∙ later x a xs i)) in
      omega (arith, less, again, here)
    where
      later : (x a : A) (xs : List A) → is_in eq a xs ≡ true → is_in eq a (x ∷ xs) ≡ true
      later x a xs i = grind (arith, i)

-- ---- counts

-- an element passes where some are counted
pub any-counted : {A : Type 0} (p : A → Bool) (xs : List A) → list_any p xs ≡ nat_lt 0 (count_by p xs)
any-counted p [] = refl
any-counted {A} p (x ∷ xs) = by (p x) refl (any-counted p xs)
  where
    counted : (b : Bool) → p x ≡ b → count_by p (x ∷ xs) ≡ (if b then 1 else 0) + count_by p xs
    counted b e = sum_by-cons (λ (y : A). if p y then 1 else 0) x xs ∙ ap (λ (c : Bool). (if c then 1 else 0) + count_by p xs) e

    by : (b : Bool) → p x ≡ b → list_any p xs ≡ nat_lt 0 (count_by p xs) → list_any p (x ∷ xs) ≡ nat_lt 0 (count_by p (x ∷ xs))
    by true e again = let c = counted true e in grind (arith, nat_tests, e, c)
    by false e again = let c = counted false e in grind (arith, nat_tests, e, c, again)
