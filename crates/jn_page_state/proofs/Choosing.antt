-- Picks of halves and choices of candidates are the same.
use Rattle.jn_page_state.proofs.Common.{◌≡◌, ◌⊎◌, inl, inr, ◌<◌, ◌≤◌, ℕ, Bool, true, false, if◌then◌else◌, List, [], refl, sym, ap, subst, ◌∙◌, arith, nat_lt, cases_lt, nat_tests, Pick, StoreView, Candidate, IsChoice, Agree, half_of, pages_by}

module _ (v : StoreView) where
  inside : (a b : ℕ) → a < b → nat_lt a b ≡ true
  inside a b h = grind (arith, nat_tests)

  -- a page that there is
  page_of_half : (c : Pick) (i : ℕ) → i < v.count → pages_by v c i ≡ half_of v i c
  page_of_half c i lt = ap (λ b. if b then half_of v i c else []) (inside i v.count lt)

  pub pick_chooses : (c : Pick) → IsChoice v (pages_by v c)
  pick_chooses c i lt = subst (Candidate v i) (sym (page_of_half c i lt)) (by (c i))
    where
      by : (b : Bool) → Candidate v i (if b then v.second i else v.first i)
      by true = inr refl
      by false = inl refl

  module _ (d : ℕ → List ℕ) (choice : IsChoice v d) where
    abbrev second_of : (i : ℕ) → Candidate v i (d i) → Bool
    second_of i (inl e) = false
    second_of i (inr e) = true

    abbrev side : (i : ℕ) → (i < v.count) ⊎ (v.count ≤ i) → Bool
    side i (inl lt) = second_of i (choice i lt)
    side i (inr past) = false

    at_candidate : (i : ℕ) (o : Candidate v i (d i)) → d i ≡ (if second_of i o then v.second i else v.first i)
    at_candidate i (inl e) = e
    at_candidate i (inr e) = e

    at_side : (i : ℕ) (o : (i < v.count) ⊎ (v.count ≤ i)) → i < v.count → d i ≡ (if side i o then v.second i else v.first i)
    at_side i (inl lt) h = at_candidate i (choice i lt)
    at_side i (inr past) h = absurd (omega (arith, past, h))

    pub choice_picked : (c : Pick) × Agree v.count d (pages_by v c)
    choice_picked = (λ i. side i (cases_lt i v.count), λ i lt. at_side i (cases_lt i v.count) lt ∙ sym (page_of_half (λ i. side i (cases_lt i v.count)) i lt))
