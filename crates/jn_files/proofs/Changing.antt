-- What another layout in a slot makes of the files.
use Rattle.jn_files.proofs.Common.{◌≡◌, ◌≢◌, inl, inr, ◌<◌, ℕ, suc, Bool, true, false, List, [], ◌∷◌, length, Option, Some, None, refl, sym, ap, subst, ◌∙◌, arith, true≢false, fun_ext, cases_eq, false_from_ne_true, eq-eqb, nat_tests, get_or-set_same, get_or-set_other, length-set, find, slice_set, slice_index_or, nat_eq, nat_lt, nat_le, ◌&&◌, if◌then◌else◌, option_map, option_and_then, most_blocks, file_eq, block_eq, FileNo, BlockNo, LockUnit, File, Block, Files, Change, change, or_else, there, created, removed, cut_from, written, Layout, Unused, Of, at_cell, layout_at, is_layout_of, behind, block_in, find-only}
use Rattle.std.proofs.lemmas.List.Folds.{find_past}
use Rattle.jn_records.specs.Layouts.{files_in}

-- another address at one cell
abbrev pub with_cell : ℕ → ℕ → (ℕ → ℕ) → ℕ → ℕ
with_cell p a cells q = if nat_eq q p then a else cells q

find_none : {A : Type 0} (t : A → Bool) (xs : List A) (d : A) → ((k : ℕ) → t (slice_index_or xs k d) ≡ false) → find t xs ≡ None
find_none t [] d none = refl
find_none t (x ∷ xs) d none = ap (λ (b : Bool). if b then Some x else find t xs) (none 0) ∙ find_none t xs d (λ k. none (suc k))

one_file_is : (f g : FileNo) → file_eq f g ≡ true → f ≡ g
one_file_is f g e = grind (arith, nat_tests, e)

same_file : (f : FileNo) → file_eq f f ≡ true
same_file f = eq-eqb f.0 f.0 refl

-- what has no file, or this one, has no other
pub layout_tells : (f g : FileNo) (h : Layout) → is_layout_of f h ≡ true → file_eq f g ≡ false → is_layout_of g h ≡ false
layout_tells f g Unused e ne = refl
layout_tells f g (Of k cells) e ne = grind (arith, nat_tests, e, ne)

-- a change of one file's registers
by_file : (c : Change) (old new : Files) (f : FileNo) → ((g : FileNo) → file_eq f g ≡ false → (c (File g) ≡ None) × (new (File g) ≡ old (File g)))
    → ((g : FileNo) (p : BlockNo) → file_eq f g ≡ false → (c (Block g p) ≡ None) × (new (Block g p) ≡ old (Block g p)))
    → new (File f) ≡ change c old (File f) → ((p : BlockNo) → new (Block f p) ≡ change c old (Block f p)) → new ≡ change c old
by_file c old new f files blocks file block = fun_ext (λ u. at u)
  where
    at : (u : LockUnit) → new u ≡ change c old u
    at (File g) = by (file_eq f g) refl
      where
        by : (b : Bool) → file_eq f g ≡ b → new (File g) ≡ change c old (File g)
        by true e = subst (λ (k : FileNo). new (File k) ≡ change c old (File k)) (one_file_is f g e) file
        by false e = let other = files g e in other.1 ∙ sym (ap (λ (x : Option (Option (List ℕ))). or_else x (old (File g))) other.0)
    at (Block g p) = by (file_eq f g) refl
      where
        by : (b : Bool) → file_eq f g ≡ b → new (Block g p) ≡ change c old (Block g p)
        by true e = subst (λ (k : FileNo). new (Block k p) ≡ change c old (Block k p)) (one_file_is f g e) (block p)
        by false e = let other = blocks g p e in other.1 ∙ sym (ap (λ (x : Option (Option (List ℕ))). or_else x (old (Block g p))) other.0)

-- the layout of a slot becomes another: each is the file's, or has none, and no other slot's is the file's
module _ (layouts : List Layout) (slot : ℕ) (new : Layout) (f : FileNo) (below : slot < length layouts) (only : (j : ℕ) → is_layout_of f (layout_at layouts j) ≡ true → j ≡ slot)
    (old_of : (g : FileNo) → file_eq f g ≡ false → is_layout_of g (layout_at layouts slot) ≡ false) (new_of : (g : FileNo) → file_eq f g ≡ false → is_layout_of g new ≡ false) (blocks : ℕ → List ℕ) where
  abbrev old : Layout
  old = layout_at layouts slot

  abbrev after : List Layout
  after = slice_set layouts slot new

  here : layout_at after slot ≡ new
  here = get_or-set_same layouts slot new Unused below

  off : (j : ℕ) → j ≢ slot → layout_at after j ≡ layout_at layouts j
  off j ne = get_or-set_other layouts slot j new Unused ne

  only_new : (j : ℕ) → is_layout_of f (layout_at after j) ≡ true → j ≡ slot
  only_new j e = elim (cases_eq j slot) [
    | inl same ↦ same
    | inr ne ↦ only j (ap (is_layout_of f) (sym (off j ne)) ∙ e)
  ]

  found_other : (g : FileNo) → file_eq f g ≡ false → find (is_layout_of g) after ≡ find (is_layout_of g) layouts
  found_other g ne = find_past (is_layout_of g) layouts slot new Unused (old_of g ne) (new_of g ne)

  found_old : is_layout_of f old ≡ true → find (is_layout_of f) layouts ≡ Some old
  found_old e = find-only (is_layout_of f) layouts slot Unused below e (λ k low is. only k is)

  found_new : is_layout_of f new ≡ true → find (is_layout_of f) after ≡ Some new
  found_new e = find-only (is_layout_of f) after slot Unused (subst (λ (m : ℕ). slot < m) (sym (length-set layouts slot new)) below) (ap (is_layout_of f) here ∙ e) (λ k low is. only_new k is)
      ∙ ap (λ (h : Layout). Some h) here

  none_new : is_layout_of f new ≡ false → find (is_layout_of f) after ≡ None
  none_new none = find_none (is_layout_of f) after Unused (λ k. false_from_ne_true (is_layout_of f (layout_at after k)) (λ e.
      let same : layout_at after k ≡ new = ap (layout_at after) (only_new k e) ∙ here in
      true≢false (sym e ∙ ap (is_layout_of f) same ∙ none)))

  other_file : (g : FileNo) → file_eq f g ≡ false → files_in after blocks (File g) ≡ files_in layouts blocks (File g)
  other_file g ne = ap (λ (o : Option Layout). option_map (λ h. there) o) (found_other g ne)

  other_block : (g : FileNo) (p : BlockNo) → file_eq f g ≡ false → files_in after blocks (Block g p) ≡ files_in layouts blocks (Block g p)
  other_block g p ne = ap (option_and_then (block_in blocks p)) (found_other g ne)

  pub becomes_fresh : is_layout_of f new ≡ true → ((q : ℕ) → at_cell new q ≡ 0) → files_in after blocks ≡ change (created f) (files_in layouts blocks)
  becomes_fresh is empty = by_file (created f) (files_in layouts blocks) (files_in after blocks) f
      (λ g ne. (ap (λ (b : Bool). if b then Some (Some there) else None) ne, other_file g ne))
      (λ g p ne. (ap (λ (b : Bool). if b then Some None else None) ne, other_block g p ne))
      (ap (λ (o : Option Layout). option_map (λ h. there) o) (found_new is) ∙ sym (ap (λ (b : Bool). or_else (if b then Some (Some there) else None) (files_in layouts blocks (File f))) (same_file f)))
      (λ p. ap (option_and_then (block_in blocks p)) (found_new is) ∙ none p ∙ sym (ap (λ (b : Bool). or_else (if b then Some None else None) (files_in layouts blocks (Block f p))) (same_file f)))
    where
      none : (p : BlockNo) → block_in blocks p new ≡ None
      none p = ap (λ (a : ℕ). if nat_lt p.0 most_blocks then behind blocks a else None) (empty p.0) ∙ by (nat_lt p.0 most_blocks)
        where
          by : (b : Bool) → (if b then behind blocks 0 else None) ≡ None
          by true = refl
          by false = refl

  pub becomes_gone : is_layout_of f new ≡ false → files_in after blocks ≡ change (removed f) (files_in layouts blocks)
  becomes_gone none = by_file (removed f) (files_in layouts blocks) (files_in after blocks) f
      (λ g ne. (ap (λ (b : Bool). if b then Some None else None) ne, other_file g ne))
      (λ g p ne. (ap (λ (b : Bool). if b then Some None else None) ne, other_block g p ne))
      (ap (λ (o : Option Layout). option_map (λ h. there) o) (none_new none) ∙ sym (ap (λ (b : Bool). or_else (if b then Some None else None) (files_in layouts blocks (File f))) (same_file f)))
      (λ p. ap (option_and_then (block_in blocks p)) (none_new none) ∙ sym (ap (λ (b : Bool). or_else (if b then Some None else None) (files_in layouts blocks (Block f p))) (same_file f)))

  -- the file stays, and some of its blocks are others
  module _ (was : is_layout_of f old ≡ true) (is : is_layout_of f new ≡ true) where
    keeps_file : (c : Change) → ((g : FileNo) → c (File g) ≡ None) → ((g : FileNo) (p : BlockNo) → file_eq f g ≡ false → c (Block g p) ≡ None)
        → ((p : BlockNo) → block_in blocks p new ≡ or_else (c (Block f p)) (block_in blocks p old)) → files_in after blocks ≡ change c (files_in layouts blocks)
    keeps_file c no_file no_other block = by_file c (files_in layouts blocks) (files_in after blocks) f
        (λ g ne. (no_file g, other_file g ne))
        (λ g p ne. (no_other g p ne, other_block g p ne))
        (ap (λ (o : Option Layout). option_map (λ h. there) o) (found_new is) ∙ sym (ap (λ (o : Option Layout). option_map (λ h. there) o) (found_old was))
        ∙ sym (ap (λ (x : Option (Option (List ℕ))). or_else x (files_in layouts blocks (File f))) (no_file f)))
        (λ p. ap (option_and_then (block_in blocks p)) (found_new is) ∙ block p ∙ sym (ap (λ (o : Option Layout). or_else (c (Block f p)) (option_and_then (block_in blocks p) o)) (found_old was)))

    within : (p : BlockNo) → nat_lt p.0 most_blocks ≡ true → p.0 < most_blocks
    within p e = grind (arith, nat_tests, e)

    pub becomes_cut : (n : BlockNo) → ((q : ℕ) → q < most_blocks → at_cell new q ≡ (if nat_le n.0 q then 0 else at_cell old q)) → files_in after blocks ≡ change (cut_from f n) (files_in layouts blocks)
    becomes_cut n cells = keeps_file (cut_from f n) (λ g. refl) (λ g p ne. ap (λ (b : Bool). if b && nat_le n.0 p.0 then Some None else None) ne)
        (λ p. block p ∙ sym (ap (λ (b : Bool). or_else (if b && nat_le n.0 p.0 then Some None else None) (block_in blocks p old)) (same_file f)))
      where
        block : (p : BlockNo) → block_in blocks p new ≡ or_else (if nat_le n.0 p.0 then Some None else None) (block_in blocks p old)
        block p = by (nat_lt p.0 most_blocks) refl (nat_le n.0 p.0) refl
          where
            cell : (z : Bool) → nat_lt p.0 most_blocks ≡ true → nat_le n.0 p.0 ≡ z → at_cell new p.0 ≡ (if z then 0 else at_cell old p.0)
            cell z e g = cells p.0 (within p e) ∙ ap (λ (b : Bool). if b then 0 else at_cell old p.0) g

            by : (x : Bool) → nat_lt p.0 most_blocks ≡ x → (z : Bool) → nat_le n.0 p.0 ≡ z
                → (if x then behind blocks (at_cell new p.0) else None) ≡ or_else (if z then Some None else None) (if x then behind blocks (at_cell old p.0) else None)
            by true e true g = ap (behind blocks) (cell true e g)
            by true e false g = ap (behind blocks) (cell false e g)
            by false e true g = refl
            by false e false g = refl

    pub becomes_written : (p : BlockNo) (a : ℕ) → p.0 < most_blocks → ((q : ℕ) → q < most_blocks → at_cell new q ≡ with_cell p.0 (suc a) (at_cell old) q) → files_in after blocks ≡ change (written f p (blocks a)) (files_in layouts blocks)
    becomes_written p a range cells = keeps_file (written f p (blocks a)) (λ g. refl) (λ g q ne. ap (λ (b : Bool). if b && block_eq p q then Some (Some (blocks a)) else None) ne)
        (λ q. block q ∙ sym (ap (λ (b : Bool). or_else (if b && block_eq p q then Some (Some (blocks a)) else None) (block_in blocks q old)) (same_file f)))
      where
        block : (q : BlockNo) → block_in blocks q new ≡ or_else (if nat_eq p.0 q.0 then Some (Some (blocks a)) else None) (block_in blocks q old)
        block q = by (nat_lt q.0 most_blocks) refl (nat_eq p.0 q.0) refl
          where
            turned : (z : Bool) → nat_eq p.0 q.0 ≡ z → nat_eq q.0 p.0 ≡ z
            turned true e = grind (arith, nat_tests, e)
            turned false e = grind (arith, nat_tests, e)

            cell : (z : Bool) → nat_lt q.0 most_blocks ≡ true → nat_eq p.0 q.0 ≡ z → at_cell new q.0 ≡ (if z then suc a else at_cell old q.0)
            cell z e g = cells q.0 (within q e) ∙ ap (λ (b : Bool). if b then suc a else at_cell old q.0) (turned z g)

            past : nat_lt q.0 most_blocks ≡ false → nat_eq p.0 q.0 ≡ true → ⊥
            past e g = grind (arith, nat_tests, e, g, range)

            by : (x : Bool) → nat_lt q.0 most_blocks ≡ x → (z : Bool) → nat_eq p.0 q.0 ≡ z
                → (if x then behind blocks (at_cell new q.0) else None) ≡ or_else (if z then Some (Some (blocks a)) else None) (if x then behind blocks (at_cell old q.0) else None)
            by true e true g = ap (behind blocks) (cell true e g)
            by true e false g = ap (behind blocks) (cell false e g)
            by false e true g = absurd (past e g)
            by false e false g = refl
