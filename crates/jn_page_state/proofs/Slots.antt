-- What passes in a list of which one place is written, place by place.
use Rattle.jn_page_state.proofs.Common.{◌≡◌, ◌≢◌, ◌⊎◌, inl, inr, ⊎_elim, ℕ, suc, ◌<◌, Bool, true, false, ◌||◌, List, [], ◌∷◌, length, get_or, set, refl, sym, ◌∙◌, ap, subst, true≢false, cases_eq, get_or-set_same, get_or-set_other, list_any, PassesOnce}
use Rattle.jn_page_state.proofs.Found.{none_at}

module _ {X : Type 0} (p : X → Bool) (d : X) where
  -- the place where one passes
  pub passes_at : (xs : List X) → list_any p xs ≡ true → (j : ℕ) × (p (get_or xs j d) ≡ true)
  passes_at [] t = absurd (true≢false (sym t))
  passes_at (x ∷ xs) t = by (p x) refl (passes_at xs) t
    where
      by : (b : Bool) → p x ≡ b → (list_any p xs ≡ true → (j : ℕ) × (p (get_or xs j d) ≡ true)) → (b || list_any p xs) ≡ true → (j : ℕ) × (p (get_or (x ∷ xs) j d) ≡ true)
      by true e rest t = (0, e)
      by false e rest t = let h = rest t in (suc h.0, h.1)

  pub passes_any : (xs : List X) (j : ℕ) → p d ≡ false → p (get_or xs j d) ≡ true → list_any p xs ≡ true
  passes_any xs j out t = by (list_any p xs) refl
    where
      by : (b : Bool) → list_any p xs ≡ b → b ≡ true
      by true e = refl
      by false e = absurd (true≢false (sym t ∙ none_at p d xs j out e))

module _ {X : Type 0} (d : X) (xs : List X) (i : ℕ) (y : X) (below : i < length xs) where
  -- what stands at a place after the write
  pub at_set : (j : ℕ) → ((j ≡ i) × (get_or (set xs i y) j d ≡ y)) ⊎ ((j ≢ i) × (get_or (set xs i y) j d ≡ get_or xs j d))
  at_set j = elim (cases_eq j i) [
    | inl e ↦ inl (e, subst (λ k. get_or (set xs i y) k d ≡ y) (sym e) (get_or-set_same xs i y d below))
    | inr ne ↦ inr (ne, get_or-set_other xs i j y d ne)
  ]

  module _ (p : X → Bool) where
    -- where the new one passes only if the old did, or if none did
    pub once_set : p d ≡ false → PassesOnce (λ j. p (get_or xs j d)) → (p y ≡ true → (p (get_or xs i d) ≡ true) ⊎ (list_any p xs ≡ false)) → PassesOnce (λ j. p (get_or (set xs i y) j d))
    once_set out once takes j k a b = ⊎_elim
        (λ h. ⊎_elim (λ l. h.0 ∙ sym l.0) (λ l. h.0 ∙ sym (meets k (ap p (sym h.1) ∙ a) (ap p (sym l.1) ∙ b))) (at_set k))
        (λ h. ⊎_elim (λ l. meets j (ap p (sym l.1) ∙ b) (ap p (sym h.1) ∙ a) ∙ sym l.0) (λ l. once j k (ap p (sym h.1) ∙ a) (ap p (sym l.1) ∙ b)) (at_set k))
        (at_set j)
      where
        meets : (k : ℕ) → p y ≡ true → p (get_or xs k d) ≡ true → k ≡ i
        meets k new old = ⊎_elim (λ t. once k i old t) (λ none. absurd (true≢false (sym old ∙ none_at p d xs k out none))) (takes new)

    -- none passes that didn't
    pub any_fewer : p d ≡ false → (p y ≡ true → p (get_or xs i d) ≡ true) → list_any p (set xs i y) ≡ true → list_any p xs ≡ true
    any_fewer out takes t = let h = passes_at p d (set xs i y) t in ⊎_elim
        (λ e. passes_any p d xs i out (takes (ap p (sym e.1) ∙ h.1)))
        (λ e. passes_any p d xs h.0 out (ap p (sym e.1) ∙ h.1))
        (at_set h.0)
