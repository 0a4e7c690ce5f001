-- What each put makes of the files of a table.
use Rattle.jn_files.proofs.Common.{◌≡◌, ◌⊎◌, inl, inr, ⊎_elim, ◌<◌, ◌≤◌, ◌-◌, ◌%◌, ℕ, suc, Bool, true, false, List, replicate, take, refl, sym, ap, subst, ◌∙◌, arith, slice_set, nat_eq, nat_lt, nat_le, if◌then◌else◌, div-add-mod, mod-lt, cases_eq, cases_lt, nat_tests, head_blocks, most_maps, most_blocks, FileNo, BlockNo, Change, change, cut_from, Head, Layout, at_cell, through, kept_entry, layout_by, is_layout_of, cut_inside, is_in_range, among, part-files, TableView, IsTable, head_in, is_of, layouts_in, layout_in, files_of, fresh_head, kept_maps, range_of, block_written, IsChange, IsCutInside, cells_kept, file-at}
use Rattle.jn_records.specs.Layouts.{files_in}
use Rattle.jn_files.proofs.Cells.{CellCase, InHead, InMap, OfMap, Past, cell_case}
use Rattle.jn_files.proofs.Changing.{with_cell, layout_tells, becomes_cut, becomes_written}
use Rattle.jn_files.proofs.Cutting.{zeros_at}
use Rattle.jn_files.proofs.Laying.{cells, in_head, in_map, of_map, past_all, kept_head, kept_map, kept_of, or_zero, and_zero, zero_or, zero_and, lt_true, lt_false, le_true, le_false}
use Rattle.jn_files.proofs.Turning.{Turns, there}

-- whose a slot's layout is
pub layout_own : (t : TableView) (f : FileNo) (k : ℕ) → is_layout_of f (layout_in t k) ≡ is_of f (head_in t.heads k)
layout_own t f k = file-at (kept_entry t.maps) f t.heads k

-- ---- a file that stays

module _ (t : TableView) (slot : ℕ) (heads : List Head) (rows : List (List ℕ)) (new : Layout) (comes : ℕ → ℕ → Type 0) (goes : ℕ → Type 0) (turns : Turns t slot heads rows new comes goes) (is : IsTable t)
    (f : FileNo) (own : is_of f (head_in t.heads slot) ≡ true) (after : is_layout_of f new ≡ true) where
  was : is_layout_of f (layout_in t slot) ≡ true
  was = layout_own t f slot ∙ own

  only : (j : ℕ) → is_layout_of f (layout_in t j) ≡ true → j ≡ slot
  only j e = is.heads.files f j slot (sym (layout_own t f j) ∙ e) own

  filed : (c : (ℕ → List ℕ) → Change) → ((leaves : ℕ → List ℕ) → files_in (slice_set (layouts_in t) slot new) (λ a. take 448 (leaves a)) ≡ change (c leaves) (files_of (layouts_in t) leaves)) → IsChange t heads rows c
  filed c to leaves = ap (λ (l : List Layout). files_of l leaves) turns.layouts ∙ to leaves

  pub change_written : (p : BlockNo) (a : ℕ) → p.0 < most_blocks → ((q : ℕ) → at_cell new q ≡ with_cell p.0 (suc a) (at_cell (layout_in t slot)) q) → IsChange t heads rows (block_written f p a)
  change_written p a range cell = filed (block_written f p a) (λ leaves. becomes_written (layouts_in t) slot new f (there t slot heads rows new comes goes turns is) only (λ g ne. layout_tells f g (layout_in t slot) was ne) (λ g ne. layout_tells f g new after ne)
      (λ d. take 448 (leaves d)) was after p a range (λ q lt. cell q))

  -- where a map page comes, its cell is no block's
  pub change_brought : (p : BlockNo) (a r d : ℕ) → p.0 < most_blocks → most_blocks ≤ r → ((q : ℕ) → at_cell new q ≡ with_cell p.0 (suc a) (with_cell r d (at_cell (layout_in t slot))) q) → IsChange t heads rows (block_written f p a)
  change_brought p a r d range past cell = filed (block_written f p a) (λ leaves. becomes_written (layouts_in t) slot new f (there t slot heads rows new comes goes turns is) only (λ g ne. layout_tells f g (layout_in t slot) was ne) (λ g ne. layout_tells f g new after ne)
      (λ b. take 448 (leaves b)) was after p a range (λ q lt. cell q ∙ ap (λ (x : ℕ). if nat_eq q p.0 then suc a else x) (off q lt)))
    where
      off : (q : ℕ) → q < most_blocks → with_cell r d (at_cell (layout_in t slot)) q ≡ at_cell (layout_in t slot) q
      off q lt = let ne : nat_eq q r ≡ false = grind (arith, nat_tests, lt, past) in ap (λ (b : Bool). if b then d else at_cell (layout_in t slot) q) ne

  pub change_cut : (n : BlockNo) → ((q : ℕ) → q < most_blocks → at_cell new q ≡ (if nat_le n.0 q then 0 else at_cell (layout_in t slot) q)) → IsChange t heads rows (λ leaves. cut_from f n)
  change_cut n cell = filed (λ leaves. cut_from f n) (λ leaves. becomes_cut (layouts_in t) slot new f (there t slot heads rows new comes goes turns is) only (λ g ne. layout_tells f g (layout_in t slot) was ne) (λ g ne. layout_tells f g new after ne)
      (λ d. take 448 (leaves d)) was after n cell)

  pub change_part : (n : BlockNo) (j : ℕ) → ((q : ℕ) → at_cell new q ≡ cut_inside n.0 j (at_cell (layout_in t slot)) q) → IsChange t heads rows (λ leaves. among (λ (p : BlockNo). is_in_range j p.0) (cut_from f n))
  change_part n j cell = filed (λ leaves. among (λ (p : BlockNo). is_in_range j p.0) (cut_from f n)) (λ leaves. part-files (layouts_in t) (λ d. take 448 (leaves d)) f n j slot new (record {
    only = only;
    serves = was;
    file_after = after;
    cells = λ q lt. cell q;
  }))

-- ---- a cut that doesn't fall inside of a map page

-- a block before the cut stands in the head, or in a map page that is kept
range_kept : (n q : ℕ) → head_blocks ≤ q → q < n → range_of q < kept_maps n
range_kept n q ge lt =
    let one = div-add-mod q head_blocks in
    let two = div-add-mod (n - 1) head_blocks in
    let small = mod-lt q {m = head_blocks} (omega arith) in
    let less = mod-lt (n - 1) {m = head_blocks} (omega arith) in
    omega arith

pub cut_whole : (h : Layout) (n : ℕ) → IsCutInside h n → (q : ℕ) → q < most_blocks → cells_kept n (at_cell h) q ≡ (if nat_le n q then 0 else at_cell h q)
cut_whole h n inside q low = by (cases_lt q head_blocks)
  where
    gone : (b : Bool) → at_cell h q ≡ 0 → (if b then at_cell h q else 0) ≡ 0
    gone true e = e
    gone false e = refl

    late : head_blocks ≤ q → n ≤ q → cells_kept n (at_cell h) q ≡ 0
    late ge le = elim (cases_eq (at_cell h q) 0) [
      | inl none ↦ kept_map n (at_cell h) q ge low ∙ gone (nat_lt (range_of q) (kept_maps n)) none
      | inr some ↦ ⊎_elim (λ (lt : q < head_blocks). absurd (omega (arith, lt, ge)))
          (λ (past : kept_maps n ≤ range_of q). kept_map n (at_cell h) q ge low ∙ and_zero (nat_lt (range_of q) (kept_maps n)) (at_cell h q) (lt_false (range_of q) (kept_maps n) past)) (inside q low le some)
    ]

    by : (q < head_blocks) ⊎ (head_blocks ≤ q) → cells_kept n (at_cell h) q ≡ (if nat_le n q then 0 else at_cell h q)
    by (inl lt) = kept_head n (at_cell h) q lt
    by (inr ge) = elim (cases_lt q n) [
      | inl early ↦ kept_map n (at_cell h) q ge low ∙ or_zero (nat_lt (range_of q) (kept_maps n)) (at_cell h q) (lt_true (range_of q) (kept_maps n) (range_kept n q ge early)) ∙ sym (zero_or (nat_le n q) (at_cell h q) (le_false n q early))
      | inr past ↦ late ge past ∙ sym (zero_and (nat_le n q) (at_cell h q) (le_true n q past))
    ]

-- ---- a head without blocks

pub fresh_cells : (m : ℕ → ℕ → ℕ) (f : FileNo) (q : ℕ) → at_cell (layout_by m (fresh_head f)) q ≡ 0
fresh_cells m f q = by q (cell_case q)
  where
    by : (r : ℕ) → CellCase r → cells m (replicate head_blocks 0) (replicate most_maps 0) r ≡ 0
    by r (InHead lt) = in_head m (replicate head_blocks 0) (replicate most_maps 0) r lt ∙ zeros_at head_blocks r
    by r (InMap ge lt) = in_map m (replicate head_blocks 0) (replicate most_maps 0) r ge lt ∙ ap (λ (z : ℕ). through m z (r % head_blocks)) (zeros_at most_maps (range_of r))
    by q (OfMap j lt e) = subst (λ (r : ℕ). cells m (replicate head_blocks 0) (replicate most_maps 0) r ≡ 0) (sym e) (of_map m (replicate head_blocks 0) (replicate most_maps 0) j lt ∙ zeros_at most_maps j)
    by r (Past ge) = past_all m (replicate head_blocks 0) (replicate most_maps 0) r ge

pub kept_none : (c : ℕ → ℕ) (q : ℕ) → cells_kept 0 c q ≡ 0
kept_none c q = by (cases_lt q head_blocks)
  where
    far : (q < most_blocks) ⊎ (most_blocks ≤ q) → head_blocks ≤ q → cells_kept 0 c q ≡ 0
    far (inl lt) ge = kept_map 0 c q ge lt ∙ and_zero (nat_lt (range_of q) (kept_maps 0)) (c q) (lt_false (range_of q) (kept_maps 0) (omega arith))
    far (inr past) ge = kept_of 0 c q past ∙ and_zero (nat_lt (q - most_blocks) (kept_maps 0)) (c q) (lt_false (q - most_blocks) (kept_maps 0) (omega arith))

    by : (q < head_blocks) ⊎ (head_blocks ≤ q) → cells_kept 0 c q ≡ 0
    by (inl lt) = kept_head 0 c q lt ∙ zero_and (nat_le 0 q) (c q) (le_true 0 q (omega arith))
    by (inr ge) = far (cases_lt q most_blocks) ge
