-- A cut that is found in part, in the files of layouts.
use Rattle.jn_records.proofs.Common.{◌≡◌, ◌≢◌, ◌<◌, ℕ, zero, suc, Bool, true, false, ◌&&◌, if◌then◌else◌, List, [], ◌∷◌, length, slice_index_or, slice_set, Option, Some, None, option_map, option_and_then, refl, sym, ◌∙◌, ap, subst, arith, fun_ext, nat_eq, nat_lt, nat_le, nat_tests, FileNo, BlockNo, LockUnit, File, Block, file_eq, Files, change, or_else, most_blocks, is_in_range, find, length-set, get_or-set_same, get_or-set_other, there, cut_from, among, Layout, Unused, Of, at_cell, layout_at, is_layout_of, behind, block_in, files_in, IsPartCut}
use Rattle.std.proofs.lemmas.List.Folds.{find_past}

-- the one element that passes is found
pub find-only : {A : Type 0} (t : A → Bool) (xs : List A) (i : ℕ) (d : A) → i < length xs → t (slice_index_or xs i d) ≡ true → ((k : ℕ) → k < length xs → t (slice_index_or xs k d) ≡ true → k ≡ i) → find t xs ≡ Some (slice_index_or xs i d)
find-only t [] i d below h only = absurd (omega (arith, below))
find-only t (x ∷ xs) zero d below h only = ap (λ (b : Bool). if b then Some x else find t xs) h
find-only t (x ∷ xs) (suc i) d below h only = ap (λ (b : Bool). if b then Some x else find t xs) (not-first (t x) refl)
    ∙ find-only t xs i d (omega (arith, below)) h (λ k low e. less k (only (suc k) (omega (arith, low)) e))
  where
    not-first : (b : Bool) → t x ≡ b → t x ≡ false
    not-first true e = absurd (no-first (only 0 (omega (arith, below)) e))
      where
        no-first : 0 ≡ suc i → ⊥
        no-first q = omega (arith, q)
    not-first false e = e

    less : (k : ℕ) → suc k ≡ suc i → k ≡ i
    less k e = omega (arith, e)

-- what isn't there is unused
used-there : (layouts : List Layout) (f : FileNo) (k : ℕ) → is_layout_of f (layout_at layouts k) ≡ true → k < length layouts
used-there [] f zero h = absurd (grind (arith, h))
used-there [] f (suc k) h = absurd (grind (arith, h))
used-there (l ∷ layouts) f zero h = omega arith
used-there (l ∷ layouts) f (suc k) h = let more = used-there layouts f k h in omega (arith, more)

module _ (layouts : List Layout) (blocks : ℕ → List ℕ) (f : FileNo) (n : BlockNo) (j place : ℕ) (new : Layout) (is : IsPartCut layouts f n j place new) where
  abbrev old : Layout
  old = layout_at layouts place

  below : place < length layouts
  below = used-there layouts f place is.serves

  equal : (a b : FileNo) → file_eq a b ≡ true → a ≡ b
  equal a b h = grind (arith, nat_tests, h)

  tells : (a b : FileNo) (h : Layout) → is_layout_of a h ≡ true → file_eq a b ≡ false → is_layout_of b h ≡ false
  tells a b Unused h e = refl
  tells a b (Of g cells) h e = grind (arith, nat_tests, h, e)

  found-old : find (is_layout_of f) layouts ≡ Some old
  found-old = find-only (is_layout_of f) layouts place Unused below is.serves (λ k low e. is.only k e)

  found-new : find (is_layout_of f) (slice_set layouts place new) ≡ Some new
  found-new = find-only (is_layout_of f) (slice_set layouts place new) place Unused (subst (λ (m : ℕ). place < m) (sym (length-set layouts place new)) below)
      (ap (is_layout_of f) (get_or-set_same layouts place new Unused below) ∙ is.file_after) (λ k low e. at k (nat_eq k place) refl e)
      ∙ ap (λ h. Some h) (get_or-set_same layouts place new Unused below)
    where
      at : (k : ℕ) (b : Bool) → nat_eq k place ≡ b → is_layout_of f (slice_index_or (slice_set layouts place new) k Unused) ≡ true → k ≡ place
      at k true q e = grind (arith, nat_tests, q)
      at k false q e = is.only k (ap (is_layout_of f) (sym (get_or-set_other layouts place k new Unused (λ p. grind (arith, nat_tests, q, p)))) ∙ e)

  found-other : (g : FileNo) → file_eq f g ≡ false → find (is_layout_of g) (slice_set layouts place new) ≡ find (is_layout_of g) layouts
  found-other g e = find_past (is_layout_of g) layouts place new Unused (tells f g old is.serves e) (tells f g new is.file_after e)

  block-here : (p : BlockNo) → block_in blocks p new ≡ or_else (if is_in_range j p.0 then (if nat_le n.0 p.0 then Some None else None) else None) (block_in blocks p old)
  block-here p = by (nat_lt p.0 most_blocks) refl (is_in_range j p.0) refl (nat_le n.0 p.0) refl
    where
      within : nat_lt p.0 most_blocks ≡ true → p.0 < most_blocks
      within e = grind (arith, nat_tests, e)

      cell : (y z : Bool) → nat_lt p.0 most_blocks ≡ true → is_in_range j p.0 ≡ y → nat_le n.0 p.0 ≡ z → at_cell new p.0 ≡ (if y && z then 0 else at_cell old p.0)
      cell y z e g h = is.cells p.0 (within e) ∙ ap (λ (b : Bool). if b && (is_in_range j p.0 && nat_le n.0 p.0) then 0 else at_cell old p.0) e
          ∙ ap (λ (b : Bool). if b && nat_le n.0 p.0 then 0 else at_cell old p.0) g ∙ ap (λ (b : Bool). if y && b then 0 else at_cell old p.0) h

      by : (x : Bool) → nat_lt p.0 most_blocks ≡ x → (y : Bool) → is_in_range j p.0 ≡ y → (z : Bool) → nat_le n.0 p.0 ≡ z
          → (if x then behind blocks (at_cell new p.0) else None) ≡ or_else (if y then (if z then Some None else None) else None) (if x then behind blocks (at_cell old p.0) else None)
      by true e true g true h = ap (behind blocks) (cell true true e g h)
      by true e true g false h = ap (behind blocks) (cell true false e g h)
      by true e false g z h = ap (behind blocks) (cell false z e g h)
      by false e true g true h = refl
      by false e true g false h = refl
      by false e false g z h = refl

  abbrev was : Files
  was = files_in layouts blocks

  pub part-files : files_in (slice_set layouts place new) blocks ≡ change (among (λ (p : BlockNo). is_in_range j p.0) (cut_from f n)) was
  part-files = fun_ext (λ u. at u)
    where
      at : (u : LockUnit) → files_in (slice_set layouts place new) blocks u ≡ change (among (λ (p : BlockNo). is_in_range j p.0) (cut_from f n)) was u
      at (File g) = by (file_eq f g) refl
        where
          by : (b : Bool) → file_eq f g ≡ b → option_map (λ h. there) (find (is_layout_of g) (slice_set layouts place new)) ≡ option_map (λ h. there) (find (is_layout_of g) layouts)
          by true e = subst (λ (z : FileNo). option_map (λ h. there) (find (is_layout_of z) (slice_set layouts place new)) ≡ option_map (λ h. there) (find (is_layout_of z) layouts)) (equal f g e)
              (ap (λ o. option_map (λ h. there) o) found-new ∙ sym (ap (λ o. option_map (λ h. there) o) found-old))
          by false e = ap (λ o. option_map (λ h. there) o) (found-other g e)
      at (Block g p) = by (file_eq f g) refl
        where
          gone-by : (b : Bool) → Option (Option (List ℕ))
          gone-by b = if is_in_range j p.0 then (if b && nat_le n.0 p.0 then Some None else None) else None

          none-gone : gone-by false ≡ None
          none-gone = grind arith

          by : (b : Bool) → file_eq f g ≡ b → option_and_then (block_in blocks p) (find (is_layout_of g) (slice_set layouts place new))
              ≡ or_else (gone-by (file_eq f g)) (option_and_then (block_in blocks p) (find (is_layout_of g) layouts))
          by true e = subst (λ (z : FileNo). option_and_then (block_in blocks p) (find (is_layout_of z) (slice_set layouts place new)) ≡ or_else (gone-by (file_eq f z)) (option_and_then (block_in blocks p) (find (is_layout_of z) layouts))) (equal f g e)
              (ap (option_and_then (block_in blocks p)) found-new ∙ block-here p ∙ sym (ap (λ o. or_else (gone-by true) (option_and_then (block_in blocks p) o)) found-old)
              ∙ sym (ap (λ (b : Bool). or_else (gone-by b) (option_and_then (block_in blocks p) (find (is_layout_of f) layouts))) (ap (λ (z : FileNo). file_eq f z) (equal f g e) ∙ e)))
          by false e = ap (option_and_then (block_in blocks p)) (found-other g e)
              ∙ sym (ap (λ o. or_else o (option_and_then (block_in blocks p) (find (is_layout_of g) layouts))) (ap gone-by e ∙ none-gone))
