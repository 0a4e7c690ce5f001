-- An index that takes its numbers one after another, in whichever order.
use Rattle.jn_index.proofs.Common.{◌≡◌, ◌⊎◌, inl, inr, ◌<◌, ◌≤◌, ◌+◌, ℕ, List, length, Option, Some, None, refl, sym, ap, ◌∙◌, arith, cases_eq, get_or-set_same, get_or-set_other, length-set, same_lists, get_or_default, Contains, slice_set, slice_index_or, All, number_at, AreOf}
use Rattle.std.proofs.lemmas.List.Elements.{All-get_or}
use Rattle.jn_index.proofs.Editing.{has_slot}

abbrev pub pair_at : List (ℕ × ℕ) → ℕ → ℕ × ℕ
pair_at pairs i = slice_index_or pairs i (0, 0)

-- ---- the pairs, in another order, and slot by slot

-- those of the first slots
pub record AreOfFirst (numbers : List (Option ℕ)) (slots : ℕ) (pairs : List (ℕ × ℕ)) : Type 0 where
  pub right : All (λ (p : ℕ × ℕ). number_at numbers p.1 ≡ Some p.0) pairs
  pub all : (slot number : ℕ) → slot < slots → number_at numbers slot ≡ Some number → Contains pairs (number, slot)

pub all_first : (numbers : List (Option ℕ)) (slots : ℕ) (pairs : List (ℕ × ℕ)) → length numbers ≤ slots → AreOfFirst numbers slots pairs → AreOf numbers pairs
all_first numbers slots pairs end are = record { right = are.right; all = λ slot number e. let lt = has_slot numbers slot number e in are.all slot number (omega arith) e }

-- ---- the index takes one pair after another

-- it has the numbers of the pairs so far, and no others
pub record HasTaken (numbers : List (Option ℕ)) (pairs : List (ℕ × ℕ)) (n : ℕ) (index : List (Option ℕ)) : Type 0 where
  pub slots : length index ≡ length numbers
  pub kept : (slot : ℕ) → (number_at index slot ≡ None) ⊎ (number_at index slot ≡ number_at numbers slot)
  pub done : (k : ℕ) → k < n → number_at index (pair_at pairs k).1 ≡ Some (pair_at pairs k).0

module _ (numbers : List (Option ℕ)) (pairs : List (ℕ × ℕ)) (are : AreOf numbers pairs) (index : List (Option ℕ)) where
  right_at : (k : ℕ) → k < length pairs → number_at numbers (pair_at pairs k).1 ≡ Some (pair_at pairs k).0
  right_at k lt = All-get_or (λ (p : ℕ × ℕ). number_at numbers p.1 ≡ Some p.0) pairs k (0, 0) lt are.right

  pub slot_within : (n : ℕ) (pair : ℕ × ℕ) → n < length pairs → pair ≡ pair_at pairs n → HasTaken numbers pairs n index → pair.1 < length index
  slot_within n pair below is taken =
      let lt = has_slot numbers (pair_at pairs n).1 (pair_at pairs n).0 (right_at n below) in
      let at : pair.1 ≡ (pair_at pairs n).1 = ap (λ (p : ℕ × ℕ). p.1) is in
      let long = taken.slots in omega arith

  pub takes_one : (n : ℕ) (pair : ℕ × ℕ) → n < length pairs → pair ≡ pair_at pairs n → HasTaken numbers pairs n index → HasTaken numbers pairs (n + 1) (slice_set index pair.1 (Some pair.0))
  takes_one n pair below is taken = record {
    slots = length-set index pair.1 (Some pair.0) ∙ taken.slots;
    kept = λ slot. elim (cases_eq slot pair.1) [
      | inl same ↦ inr (ap (number_at (slice_set index pair.1 (Some pair.0))) same ∙ now ∙ sym right ∙ ap (number_at numbers) (sym same))
      | inr ne ↦ elim (taken.kept slot) [
        | inl none ↦ inl (get_or-set_other index pair.1 slot (Some pair.0) None ne ∙ none)
        | inr kept ↦ inr (get_or-set_other index pair.1 slot (Some pair.0) None ne ∙ kept)
      ]
    ];
    done = λ k lt. elim (cases_eq (pair_at pairs k).1 pair.1) [
      | inl same ↦ ap (number_at (slice_set index pair.1 (Some pair.0))) same ∙ now ∙ sym right ∙ ap (number_at numbers) (sym same) ∙ right_at k (omega arith)
      | inr ne ↦ get_or-set_other index pair.1 (pair_at pairs k).1 (Some pair.0) None ne ∙ taken.done k (elim (cases_eq k n) [ inl e ↦ absurd (ne (ap (λ (j : ℕ). (pair_at pairs j).1) e ∙ ap (λ (p : ℕ × ℕ). p.1) (sym is))) | inr other ↦ omega arith ])
    ];
  }
    where
      right : number_at numbers pair.1 ≡ Some pair.0
      right = rw is (right_at n below)

      now : number_at (slice_set index pair.1 (Some pair.0)) pair.1 ≡ Some pair.0
      now = get_or-set_same index pair.1 (Some pair.0) None (slot_within n pair below is taken)

  pub has_all : (n : ℕ) → length pairs ≤ n → HasTaken numbers pairs n index → index ≡ numbers
  has_all n end taken = same_lists index numbers taken.slots (λ k d lt. get_or_default index k d None lt ∙ same k ∙ sym (get_or_default numbers k d None (let long = taken.slots in omega arith)))
    where
      by : (k : ℕ) (o : Option ℕ) → number_at numbers k ≡ o → number_at index k ≡ o
      by k None e = elim (taken.kept k) [
        | inl none ↦ none
        | inr kept ↦ kept ∙ e
      ]
      by k (Some number) e =
          let it = are.all k number e in
          let pair : pair_at pairs it.0 ≡ (number, k) = get_or_default pairs it.0 (0, 0) (number, k) it.1 ∙ it.2 in
          ap (number_at index) (sym (ap (λ (p : ℕ × ℕ). p.1) pair)) ∙ taken.done it.0 (let lt = it.1 in omega arith) ∙ ap (λ (p : ℕ × ℕ). Some p.0) pair

      same : (k : ℕ) → number_at index k ≡ number_at numbers k
      same k = by k (number_at numbers k) refl
