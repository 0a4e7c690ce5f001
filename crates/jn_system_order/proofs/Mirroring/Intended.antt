-- The next intention of a list that is carried out in order.
use Rattle.jn_system_order.proofs.Common.{◌≡◌, ℕ, zero, suc, true, List, [], ◌∷◌, take, Option, Some, None, is_some, refl, sym, ◌∙◌, ap, subst, arith, slice_get, LockUnit, or_also, Intention, intention_change, list_change, take_zero}

take_one : (i : Intention) (list : List Intention) (n : ℕ) → take (suc n) (i ∷ list) ≡ i ∷ take n list
take_one i list n = grind arith

some-same : (a b : Intention) → Some a ≡ Some b → a ≡ b
some-same a b e = cc

earlier : {A : Type 0} → (a b : Option A) → is_some a ≡ true → is_some (or_also a b) ≡ true
earlier a b h = grind arith

-- what it writes the list writes
pub step-writes : (list : List Intention) (n : ℕ) (i : Intention) → slice_get list n ≡ Some i → (u : LockUnit) → is_some (intention_change i u) ≡ true → is_some (list_change list u) ≡ true
step-writes [] n i h u k = absurd (grind arith)
step-writes (j ∷ list) zero i h u k = earlier2 (list_change list u) (intention_change j u) (subst (λ (z : Intention). is_some (intention_change z u) ≡ true) (sym (some-same j i h)) k)
  where
    earlier2 : {A : Type 0} → (a b : Option A) → is_some b ≡ true → is_some (or_also a b) ≡ true
    earlier2 a b h = grind arith
step-writes (j ∷ list) (suc n) i h u k = earlier (list_change list u) (intention_change j u) (step-writes list n i h u k)

pub take-end : (list : List Intention) (n : ℕ) → slice_get list n ≡ None → take n list ≡ list
take-end [] zero h = refl
take-end [] (suc n) h = refl
take-end (j ∷ list) zero h = absurd (grind arith)
take-end (j ∷ list) (suc n) h = take_one j list n ∙ ap (λ l. j ∷ l) (take-end list n h)

-- what the list has written once it is carried out too
pub step-more : (list : List Intention) (n : ℕ) (i : Intention) → slice_get list n ≡ Some i → (u : LockUnit) → list_change (take (suc n) list) u ≡ or_also (intention_change i u) (list_change (take n list) u)
step-more [] n i h u = absurd (grind arith)
step-more (j ∷ list) zero i h u = ap (λ l. list_change l u) (take_one j list zero) ∙ ap (λ l. or_also (list_change l u) (intention_change j u)) (take_zero list)
    ∙ front (intention_change j u) ∙ ap (λ (z : Intention). intention_change z u) (some-same j i h) ∙ sym (ap (λ l. or_also (intention_change i u) (list_change l u)) (take_zero (j ∷ list)) ∙ back (intention_change i u))
  where
    front : {A : Type 0} → (a : Option A) → or_also None a ≡ a
    front a = refl

    back : {A : Type 0} → (a : Option A) → or_also a None ≡ a
    back None = refl
    back (Some x) = refl
step-more (j ∷ list) (suc n) i h u = ap (λ l. list_change l u) (take_one j list (suc n)) ∙ ap (λ z. or_also z (intention_change j u)) (step-more list n i h u)
    ∙ joined (intention_change i u) (list_change (take n list) u) (intention_change j u) ∙ sym (ap (λ l. or_also (intention_change i u) (list_change l u)) (take_one j list n))
  where
    joined : {A : Type 0} → (a b c : Option A) → or_also (or_also a b) c ≡ or_also a (or_also b c)
    joined None b c = refl
    joined (Some x) b c = refl
