-- The order of entries: by number, and then by slot.
use Rattle.jn_index.proofs.Common.{◌≡◌, ◌⊎◌, inl, inr, ◌<◌, ◌≤◌, ℕ, Bool, true, false, List, length, refl, ap, ◌∙◌, arith, cases_eq, nat_tests, Entry, entry, entry_at, is_before, AreRising}

pub before_then : (a b c : Entry) → is_before a b ≡ true → is_before b c ≡ true → is_before a c ≡ true
before_then a b c ab bc = grind (arith, nat_tests, ab, bc)

pub not_itself : (a : Entry) → is_before a a ≡ false
not_itself a = grind (arith, nat_tests)

pub before_or_same : (a b : Entry) → is_before a b ≡ false → (a ≡ b) ⊎ (is_before b a ≡ true)
before_or_same a b no_ab = elim (cases_eq a.number b.number) [
  | inl same ↦ elim (cases_eq a.slot b.slot) [
    | inl at ↦ inl (ap (λ (n : ℕ). entry n a.slot) same ∙ ap (entry b.number) at)
    | inr ne ↦ inr (grind (arith, nat_tests, no_ab))
  ]
  | inr ne ↦ inr (grind (arith, nat_tests, no_ab))
]

module _ (list : List Entry) (rising : AreRising list) (sought : Entry) where
  pub before_up_to : (m i : ℕ) → m < length list → is_before (entry_at list m) sought ≡ true → i ≤ m → is_before (entry_at list i) sought ≡ true
  before_up_to m i here e le = elim (cases_eq i m) [
    | inl same ↦ ap (λ (k : ℕ). is_before (entry_at list k) sought) same ∙ e
    | inr ne ↦ before_then (entry_at list i) (entry_at list m) sought (rising i m (omega arith) here) e
  ]

  pub after_from : (m i : ℕ) → i < length list → is_before (entry_at list m) sought ≡ false → m ≤ i → is_before (entry_at list i) sought ≡ false
  after_from m i here e le = by (is_before (entry_at list i) sought) refl
    where
      by : (b : Bool) → is_before (entry_at list i) sought ≡ b → b ≡ false
      by false t = refl
      by true t = absurd (let up = before_up_to i m here t le in cc (up, e))
