-- What is found in a list of which one place is written.
use Rattle.jn_page_state.proofs.Common.{◌≡◌, inl, inr, ℕ, zero, suc, ◌<◌, Bool, true, false, cond, ◌||◌, if◌then◌else◌, List, [], ◌∷◌, length, Option, None, Some, get_or, set, refl, sym, ◌∙◌, ap, subst, true≢false, arith, cases_eq, get_or-set_same, get_or-set_other, find, list_any}

module _ {X : Type 0} (p : X → Bool) (d : X) where
  pub none_found : (xs : List X) → ((j : ℕ) → p (get_or xs j d) ≡ false) → find p xs ≡ None
  none_found [] none = refl
  none_found (x ∷ xs) none = ap (λ b. cond b (Some x) (find p xs)) (none 0) ∙ none_found xs (λ j. none (suc j))

  not_true : (b : Bool) → (b ≡ true → ⊥) → b ≡ false
  not_true b h = grind arith

  -- where one place at most passes, that is found
  pub found_once : (xs : List X) (i : ℕ) → p d ≡ false → ((j : ℕ) → p (get_or xs j d) ≡ true → j ≡ i) → find p xs ≡ (if p (get_or xs i d) then Some (get_or xs i d) else None)
  found_once [] i out once = sym (ap (λ b. if b then Some d else None) out)
  found_once (x ∷ xs) zero out once = ap (λ (o : Option X). cond (p x) (Some x) o) (none_found xs (λ j. not_true (p (get_or xs j d)) (λ t. let e = once (suc j) t in omega (arith, e))))
  found_once (x ∷ xs) (suc i) out once =
      let not_first : p x ≡ false = not_true (p x) (λ t. let e = once 0 t in omega (arith, e)) in
      ap (λ b. cond b (Some x) (find p xs)) not_first ∙ found_once xs i out (λ j t. let e = once (suc j) t in omega (arith, e))

  -- and after that place was written
  pub found_written : (xs : List X) (i : ℕ) (y : X) → i < length xs → p d ≡ false → ((j : ℕ) → p (get_or xs j d) ≡ true → j ≡ i) → find p (set xs i y) ≡ (if p y then Some y else None)
  found_written xs i y below out once = subst (λ z. find p (set xs i y) ≡ (if p z then Some z else None)) (get_or-set_same xs i y d below)
      (found_once (set xs i y) i out (λ j t. elim (cases_eq j i) [
        | inl e ↦ e
        | inr ne ↦ once j (subst (λ z. p z ≡ true) (get_or-set_other xs i j y d ne) t)
      ]))

  -- any passes where one is found
  pub none_passes : (xs : List X) → list_any p xs ≡ false → find p xs ≡ None
  none_passes [] none = refl
  none_passes (x ∷ xs) none = by (p x) (none_passes xs) none
    where
      by : (b : Bool) → (list_any p xs ≡ false → find p xs ≡ None) → (b || list_any p xs) ≡ false → cond b (Some x) (find p xs) ≡ None
      by b rest h = grind (arith, rest)

  pub none_at : (xs : List X) (j : ℕ) → p d ≡ false → list_any p xs ≡ false → p (get_or xs j d) ≡ false
  none_at [] j out none = out
  none_at (x ∷ xs) zero out none = grind arith
  none_at (x ∷ xs) (suc j) out none = none_at xs j out (grind arith)

  -- or of one that passes as the old one did
  pub any_same : (xs : List X) (i : ℕ) (y : X) → p (get_or xs i d) ≡ p y → list_any p (set xs i y) ≡ list_any p xs
  any_same [] i y e = refl
  any_same (x ∷ xs) zero y e = ap (λ t. t || list_any p xs) (sym e)
  any_same (x ∷ xs) (suc i) y e = ap (λ t. p x || t) (any_same xs i y e)

  pub found_passes : (xs : List X) (x : X) → find p xs ≡ Some x → p x ≡ true
  found_passes [] x e = absurd (none_some x e)
    where
      none_some : {A : Type 0} → (a : A) → None ≡ Some a → ⊥
      none_some a e = cc
  found_passes (y ∷ ys) x e = by (p y) refl (found_passes ys x) e
    where
      some_is : {A : Type 0} → (a b : A) → Some a ≡ Some b → a ≡ b
      some_is a b e = cc

      by : (b : Bool) → p y ≡ b → (find p ys ≡ Some x → p x ≡ true) → cond b (Some y) (find p ys) ≡ Some x → p x ≡ true
      by true t rest e = subst (λ z. p z ≡ true) (some_is y x e) t
      by false t rest e = rest e

  pub found_any : (xs : List X) (x : X) → find p xs ≡ Some x → list_any p xs ≡ true
  found_any xs x e = by (list_any p xs) refl
    where
      clash : (y : X) → None ≡ Some y → ⊥
      clash y e = cc

      by : (b : Bool) → list_any p xs ≡ b → b ≡ true
      by true t = refl
      by false t = absurd (clash x (sym (none_passes xs t) ∙ e))

  -- what fails everywhere fails at what is found
  pub found_fails : (q : X → Bool) (xs : List X) (x : X) → find p xs ≡ Some x → list_any q xs ≡ false → q x ≡ false
  found_fails q [] x e none = absurd (none_some x e)
    where
      none_some : {A : Type 0} → (a : A) → None ≡ Some a → ⊥
      none_some a e = cc
  found_fails q (y ∷ ys) x e none = by (p y) (found_fails q ys x) e none
    where
      some_is : {A : Type 0} → (a b : A) → Some a ≡ Some b → a ≡ b
      some_is a b e = cc

      first : (a b : Bool) → (a || b) ≡ false → (a ≡ false) × (b ≡ false)
      first a b h = grind arith

      by : (b : Bool) → (find p ys ≡ Some x → list_any q ys ≡ false → q x ≡ false) → cond b (Some y) (find p ys) ≡ Some x → (q y || list_any q ys) ≡ false → q x ≡ false
      by true rest e h = subst (λ z. q z ≡ false) (some_is y x e) (first (q y) (list_any q ys) h).0
      by false rest e h = rest e (first (q y) (list_any q ys) h).1

  -- what is found and passes another test is one that passes it
  pub found_any_by : (q : X → Bool) (xs : List X) (x : X) → find p xs ≡ Some x → q x ≡ true → list_any q xs ≡ true
  found_any_by q xs x e t = by (list_any q xs) refl
    where
      by : (b : Bool) → list_any q xs ≡ b → b ≡ true
      by true h = refl
      by false h = absurd (true≢false (sym t ∙ found_fails q xs x e h))
