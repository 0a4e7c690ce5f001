-- The head of a file among the heads, and what it says together with its map pages.
use Rattle.jn_files.proofs.Common.{◌≡◌, ◌≤◌, ◌<◌, ℕ, zero, suc, Bool, true, false, List, [], ◌∷◌, length, Option, Some, None, refl, sym, ap, subst, ◌∙◌, arith, is_some, option_map, if◌then◌else◌, nat_lt, ◌&&◌, ◌||◌, find, fun_ext, false_from_ne_true, and_parts, FileNo, BlockNo, most_maps, most_blocks, LeastFrom, Head, Free, Used, Layout, at_cell, layout_by, layouts_by, layout_at, is_layout_of, head_map, map_cell, kept_entry, names_map, maps_in, get-map, map-cell-is, head_in, is_of, is_free, exists, address_for, is_mapped, layouts_of, or_unused, has_block, own-file}
use Rattle.std.proofs.lemmas.Bool.{true≢false}

-- either one, by a test that is known
pub when_true : {A : Type 0} (b : Bool) (x y : A) → b ≡ true → (if b then x else y) ≡ x
when_true true x y e = refl
when_true false x y e = absurd (cc e)

pub when_false : {A : Type 0} (b : Bool) (x y : A) → b ≡ false → (if b then x else y) ≡ y
when_false false x y e = refl
when_false true x y e = absurd (cc e)

pub not_free : (f : FileNo) (h : Head) → is_of f h ≡ true → is_free h ≡ false
not_free f Free e = absurd (cc e)
not_free f (Used g xs maps) e = refl

-- ---- a head with its map pages

pub layout_is : (maps : ℕ → ℕ → ℕ) (heads : List Head) (slot : ℕ) → layout_at (layouts_by maps heads) slot ≡ layout_by maps (head_in heads slot)
layout_is maps heads slot = get-map (layout_by maps) heads slot Free

pub find_layout : (maps : ℕ → ℕ → ℕ) (f : FileNo) (heads : List Head) → find (is_layout_of f) (layouts_by maps heads) ≡ option_map (layout_by maps) (find (is_of f) heads)
find_layout maps f [] = refl
find_layout maps f (h ∷ heads) = rw (own-file maps f h) (by (is_of f h) (find_layout maps f heads))
  where
    by : (b : Bool) → find (is_layout_of f) (layouts_by maps heads) ≡ option_map (layout_by maps) (find (is_of f) heads)
        → (if b then Some (layout_by maps h) else find (is_layout_of f) (layouts_by maps heads)) ≡ option_map (layout_by maps) (if b then Some h else find (is_of f) heads)
    by true rest = refl
    by false rest = rest

-- the cell of a map page
pub map_at_cell : (maps : ℕ → ℕ → ℕ) (heads : List Head) (slot j : ℕ) → j < most_maps → at_cell (layout_at (layouts_by maps heads) slot) (map_cell j) ≡ head_map (head_in heads slot) j
map_at_cell maps heads slot j below = ap (λ (h : Layout). at_cell h (map_cell j)) (layout_is maps heads slot) ∙ map-cell-is maps (head_in heads slot) j below

-- ---- the head that is found

module _ (f : FileNo) where
  -- the lowest head of the file
  pub find_lowest : (heads : List Head) (i : ℕ) → is_of f (head_in heads i) ≡ true → ((j : ℕ) → is_of f (head_in heads j) ≡ true → i ≤ j) → find (is_of f) heads ≡ Some (head_in heads i)
  find_lowest [] i here low = absurd (cc here)
  find_lowest (h ∷ heads) zero here low = when_true (is_of f h) (Some h) (find (is_of f) heads) here
  find_lowest (h ∷ heads) (suc i) here low =
      when_false (is_of f h) (Some h) (find (is_of f) heads) (false_from_ne_true (is_of f h) (λ e. let le : suc i ≤ 0 = low zero e in let no_way : ⊥ = omega (arith, le) in no_way))
      ∙ find_lowest heads i here (λ j e. let le : suc i ≤ suc j = low (suc j) e in omega (arith, le))

  pub find_none : (heads : List Head) → ((j : ℕ) → is_of f (head_in heads j) ≡ false) → find (is_of f) heads ≡ None
  find_none [] none = refl
  find_none (h ∷ heads) none = when_false (is_of f h) (Some h) (find (is_of f) heads) (none 0) ∙ find_none heads (λ j. none (suc j))

  -- a head that is found stands in a slot, and is the file's
  pub found_by : (heads : List Head) (h : Head) → find (is_of f) heads ≡ Some h → (slot : ℕ) × (slot < length heads) × (head_in heads slot ≡ h) × (is_of f h ≡ true)
  found_by [] h e = absurd (cc e)
  found_by (x ∷ heads) h e = by (found_by heads h) (is_of f x) refl
    where
      by : (find (is_of f) heads ≡ Some h → (slot : ℕ) × (slot < length heads) × (head_in heads slot ≡ h) × (is_of f h ≡ true)) → (b : Bool) → is_of f x ≡ b
          → (slot : ℕ) × (slot < length (x ∷ heads)) × (head_in (x ∷ heads) slot ≡ h) × (is_of f h ≡ true)
      by later true t =
          let some : Some x ≡ Some h = sym (when_true (is_of f x) (Some x) (find (is_of f) heads) t) ∙ e in
          let same : x ≡ h = cc some in
          (0, omega arith, same, ap (is_of f) (sym same) ∙ t)
      by later false t = let rest = later (sym (when_false (is_of f x) (Some x) (find (is_of f) heads) t) ∙ e) in (suc rest.0, (let lt = rest.1 in omega (arith, lt)), rest.2, rest.3)

  pub has_head : (heads : List Head) → exists heads f ≡ true → (slot : ℕ) × (slot < length heads) × (is_of f (head_in heads slot) ≡ true)
  has_head heads e = by (find (is_of f) heads) refl e
    where
      by : (o : Option Head) → find (is_of f) heads ≡ o → is_some o ≡ true → (slot : ℕ) × (slot < length heads) × (is_of f (head_in heads slot) ≡ true)
      by None t some = absurd (cc some)
      by (Some h) t some = let at = found_by heads h t in (at.0, at.1, ap (is_of f) at.2 ∙ at.3)

  pub absent_none : (heads : List Head) → exists heads f ≡ false → (j : ℕ) → is_of f (head_in heads j) ≡ false
  absent_none [] absent j = refl
  absent_none (h ∷ heads) absent j = by (absent_none heads) (is_of f h) refl j
    where
      by : (exists heads f ≡ false → (k : ℕ) → is_of f (head_in heads k) ≡ false) → (b : Bool) → is_of f h ≡ b → (k : ℕ) → is_of f (head_in (h ∷ heads) k) ≡ false
      by later true e k = absurd (let here = when_true (is_of f h) (Some h) (find (is_of f) heads) e in let some : exists (h ∷ heads) f ≡ true = ap (λ (o : Option Head). is_some o) here in cc (some, absent))
      by later false e zero = e
      by later false e (suc k) = later (ap (λ (o : Option Head). is_some o) (sym (when_false (is_of f h) (Some h) (find (is_of f) heads) e)) ∙ absent) k

  pub has_file : (heads : List Head) (j : ℕ) → is_of f (head_in heads j) ≡ true → exists heads f ≡ true
  has_file heads j e = by (exists heads f) refl
    where
      by : (b : Bool) → exists heads f ≡ b → b ≡ true
      by true t = refl
      by false t = absurd (let none = absent_none heads t j in cc (none, e))

  -- ---- what the file's head has

  -- an address is that of the lowest head that the file has
  pub address_there : (maps : ℕ → ℕ → ℕ) (heads : List Head) (slot q : ℕ) → is_of f (head_in heads slot) ≡ true → ((k : ℕ) → is_of f (head_in heads k) ≡ true → slot ≤ k)
      → address_for (layouts_by maps heads) f q ≡ at_cell (layout_at (layouts_by maps heads) slot) q
  address_there maps heads slot q here low =
      ap (λ (o : Option Layout). at_cell (or_unused o) q) (find_layout maps f heads ∙ ap (option_map (layout_by maps)) (find_lowest heads slot here low))
      ∙ ap (λ (h : Layout). at_cell h q) (sym (layout_is maps heads slot))

  pub address_absent : (maps : ℕ → ℕ → ℕ) (heads : List Head) (q : ℕ) → exists heads f ≡ false → address_for (layouts_by maps heads) f q ≡ 0
  address_absent maps heads q absent =
      ap (λ (o : Option Layout). at_cell (or_unused o) q) (find_layout maps f heads ∙ ap (option_map (layout_by maps)) (find_none heads (absent_none heads absent)))

  -- it is one of a head's
  pub named_by : (maps : ℕ → ℕ → ℕ) (heads : List Head) (q a : ℕ) → address_for (layouts_by maps heads) f q ≡ suc a → (slot : ℕ) × (at_cell (layout_at (layouts_by maps heads) slot) q ≡ suc a)
  named_by maps heads q a e = by (find (is_of f) heads) refl (ap (λ (o : Option Layout). at_cell (or_unused o) q) (sym (find_layout maps f heads)) ∙ e)
    where
      by : (o : Option Head) → find (is_of f) heads ≡ o → at_cell (or_unused (option_map (layout_by maps) o)) q ≡ suc a → (slot : ℕ) × (at_cell (layout_at (layouts_by maps heads) slot) q ≡ suc a)
      by None t k = absurd (omega (arith, k))
      by (Some h) t k = let at = found_by heads h t in (at.0, ap (λ (l : Layout). at_cell l q) (layout_is maps heads at.0 ∙ ap (layout_by maps) at.2) ∙ k)

  -- what is next by the head is next in the file, and a file without a head has no block
  pub block_next : (rows : List (List ℕ)) (heads : List Head) (slot : ℕ) → is_of f (head_in heads slot) ≡ true → ((k : ℕ) → is_of f (head_in heads k) ≡ true → slot ≤ k)
      → (from : ℕ) (next : Option BlockNo) → LeastFrom (λ (p : BlockNo). p.0) (has_block rows (head_in heads slot)) from next → LeastFrom (λ (p : BlockNo). p.0) (λ p. is_mapped (layouts_of rows heads) f p.0) from next
  block_next rows heads slot here low from next is = subst (λ (test : BlockNo → Bool). LeastFrom (λ (p : BlockNo). p.0) test from next)
      (fun_ext (λ (p : BlockNo). ap (λ (a : ℕ). nat_lt p.0 most_blocks && nat_lt 0 a) (sym (address_there (kept_entry rows) heads slot p.0 here low ∙ ap (λ (h : Layout). at_cell h p.0) (layout_is (kept_entry rows) heads slot))))) is

  pub no_block : (rows : List (List ℕ)) (heads : List Head) → exists heads f ≡ false → (from : ℕ) → LeastFrom (λ (p : BlockNo). p.0) (λ p. is_mapped (layouts_of rows heads) f p.0) from None
  no_block rows heads absent from p e =
      absurd (let none : nat_lt 0 (address_for (layouts_of rows heads) f p.0) ≡ false = ap (nat_lt 0) (address_absent (kept_entry rows) heads p.0 absent) in true≢false (sym (and_parts _ _ e).1 ∙ none))

  -- ---- its map pages

  names_test : (j : ℕ) (h : Head) → names_map f j h ≡ (is_of f h && nat_lt 0 (head_map h j))
  names_test j Free = refl
  names_test j (Used g xs maps) = refl

  none_named : (j : ℕ) (heads : List Head) → ((k : ℕ) → is_of f (head_in heads k) ≡ false) → maps_in heads f j ≡ false
  none_named j [] none = refl
  none_named j (h ∷ heads) none = rw (names_test j h, none 0, none_named j heads (λ k. none (suc k))) refl

  pub maps_absent : (heads : List Head) (j : ℕ) → exists heads f ≡ false → maps_in heads f j ≡ false
  maps_absent heads j absent = none_named j heads (absent_none heads absent)

  pub maps_there : (heads : List Head) (slot j : ℕ) → is_of f (head_in heads slot) ≡ true → ((k : ℕ) → is_of f (head_in heads k) ≡ true → k ≡ slot) → maps_in heads f j ≡ nat_lt 0 (head_map (head_in heads slot) j)
  maps_there [] slot j here only = absurd (cc here)
  maps_there (h ∷ heads) zero j here only =
      rw (names_test j h, here, none_named j heads (λ k. false_from_ne_true (is_of f (head_in heads k)) (λ e. let same : suc k ≡ zero = only (suc k) e in let no_way : ⊥ = omega (arith, same) in no_way)))
      (no_more (nat_lt 0 (head_map h j)))
    where
      no_more : (b : Bool) → (b || false) ≡ b
      no_more true = refl
      no_more false = refl
  maps_there (h ∷ heads) (suc slot) j here only =
      let first : is_of f h ≡ false = false_from_ne_true (is_of f h) (λ e. let same : zero ≡ suc slot = only zero e in let no_way : ⊥ = omega (arith, same) in no_way) in
      rw (names_test j h, first) (maps_there heads slot j here (λ k e. let same : suc k ≡ suc slot = only (suc k) e in omega (arith, same)))
