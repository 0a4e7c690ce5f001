-- An index in memory, as it is changed.
use Rattle.jn_index.proofs.Common.{◌≡◌, ◌<◌, ◌≤◌, ◌+◌, ℕ, true, false, List, length, Option, Some, None, refl, ap, ◌∙◌, arith, length-set, set-set, get_or-set_same, length-insert, length-remove, insert, remove, slice_set, count_by, cond, Entry, number_at, is_none, entry_at, is_before, IsIndex}
use Rattle.std.proofs.lemmas.List.Sums.{sum_by-set}
use Rattle.jn_index.proofs.Editing.{cleared, filled, has_slot}

abbrev ones : Option ℕ → ℕ
ones n = cond (is_none n) 1 0

count_of_set : (numbers : List (Option ℕ)) (slot : ℕ) (y : Option ℕ) → slot < length numbers → count_by is_none (slice_set numbers slot y) + ones (number_at numbers slot) ≡ count_by is_none numbers + ones y
count_of_set numbers slot y below = sum_by-set (λ n. cond (is_none n) 1 0) numbers slot y None below

module _ (numbers : List (Option ℕ)) (list : List Entry) (capacity : ℕ) (index : IsIndex numbers list capacity) where
  pub is_cleared : (old : Entry) (i : ℕ) (after : List Entry) (room : ℕ) → number_at numbers old.slot ≡ Some old.number → i < length list → entry_at list i ≡ old → after ≡ remove list i → capacity ≤ room
      → IsIndex (slice_set numbers old.slot None) after room
  is_cleared old i after room some here is same more =
      let shorter = length-remove list i here in
      let below = has_slot numbers old.slot old.number some in
      rw same (record {
        few = simp length-set index.few;
        entries = cleared numbers list index.entries i old below here is shorter;
        room =
            let count : count_by is_none (slice_set numbers old.slot None) + ones (number_at numbers old.slot) ≡ count_by is_none numbers + ones None = count_of_set numbers old.slot None below in
            let was : ones (number_at numbers old.slot) ≡ 0 = ap ones some ∙ zero_of in
            let is_one : ones None ≡ 1 = one_of in
            omega arith;
      })
    where
      zero_of : ones (Some old.number) ≡ 0
      zero_of = refl

      one_of : ones None ≡ 1
      one_of = refl

  pub is_filled : (new : Entry) (i : ℕ) (after : List Entry) (room : ℕ) → new.slot < length numbers → number_at numbers new.slot ≡ None → i ≤ length list
      → ((k : ℕ) → k < i → is_before (entry_at list k) new ≡ true) → ((k : ℕ) → i ≤ k → k < length list → is_before (entry_at list k) new ≡ false)
      → after ≡ insert list i new → capacity ≤ room → IsIndex (slice_set numbers new.slot (Some new.number)) after room
  is_filled new i after room below none end before behind same more =
      let longer = length-insert list i new end in
      rw same (record {
        few = simp length-set index.few;
        entries = filled numbers list index.entries new i end below none before behind longer;
        room =
            let count : count_by is_none (slice_set numbers new.slot (Some new.number)) + ones (number_at numbers new.slot) ≡ count_by is_none numbers + ones (Some new.number) = count_of_set numbers new.slot (Some new.number) below in
            let was : ones (number_at numbers new.slot) ≡ 1 = ap ones none ∙ one_of in
            let is_zero : ones (Some new.number) ≡ 0 = zero_of in
            omega arith;
      })
    where
      zero_of : ones (Some new.number) ≡ 0
      zero_of = refl

      one_of : ones None ≡ 1
      one_of = refl

module _ (numbers : List (Option ℕ)) (list : List Entry) (capacity : ℕ) (index : IsIndex numbers list capacity) where
  pub is_renumbered : (old new : Entry) (i j : ℕ) (after : List Entry) (room : ℕ) → number_at numbers old.slot ≡ Some old.number → new.slot ≡ old.slot → i < length list → entry_at list i ≡ old → j < length list
      → ((k : ℕ) → k < j → is_before (entry_at (remove list i) k) new ≡ true) → ((k : ℕ) → j ≤ k → k < length (remove list i) → is_before (entry_at (remove list i) k) new ≡ false)
      → after ≡ insert (remove list i) j new → capacity ≤ room → IsIndex (slice_set numbers old.slot (Some new.number)) after room
  is_renumbered old new i j after room some its here is end before behind same more =
      let shorter = length-remove list i here in
      let below = has_slot numbers old.slot old.number some in
      let gone = slice_set numbers old.slot None in
      let below_too : new.slot < length gone = simp length-set (rw its below) in
      let none : number_at gone new.slot ≡ None = rw its (get_or-set_same numbers old.slot None None below) in
      let twice : slice_set gone new.slot (Some new.number) ≡ slice_set numbers old.slot (Some new.number) = ap (λ (slot : ℕ). slice_set gone slot (Some new.number)) its ∙ set-set numbers old.slot None (Some new.number) in
      rw (← twice)
      (is_filled gone (remove list i) capacity (is_cleared numbers list capacity index old i (remove list i) capacity some here is refl (omega arith)) new j after room below_too none (omega (arith, end, shorter)) before behind same more)
