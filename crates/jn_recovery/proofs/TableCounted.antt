-- What is counted of the heads and the data pages.
use Rattle.jn_recovery.proofs.Common.{◌≡◌, ◌⊎◌, inl, inr, ⊎_elim, ◌<◌, ◌≤◌, ◌+◌, ℕ, zero, suc, Bool, true, false, not, ◌||◌, ◌&&◌, if◌then◌else◌, List, [], ◌∷◌, ◌++◌, length, Option, Some, None, refl, sym, ◌∙◌, ap, subst, true≢false, arith, nat_tests, sum_by-cons, nat_eq, nat_lt, is_some, count_by, slice_index, slice_index_or, find, list_any, BlockNo, FileNo, File, Block, file_eq, file_tells, TableView, IsTable, is_held, is_of, head_in, exists, with_first, heads_name, PassesOnce, Head, FreeHead, Used, Record, Free, Intention, Ready, Going, FlagRecord, record_in, total, is_in, are_different, IsListing, file_there, is_stored, collected, record_names, unit_eq, Tells, cases_eq, get_or_past, block_tells, head_blocks, most_maps, most_blocks, most_cells, or_unused, IsUnnamed, StoredIntention, head_has_page, Layout, Unused, Of, map_cell, at_cell, kept_entry, layout_by, layouts_by, layout_at, is_layout_of, has_address, files_in, names_map, maps_in, has-found, map-cell-is, map_eq, has_map, IsApart, holds_page, own-file}
use Rattle.std.proofs.lemmas.List.{length-append}
use Rattle.jn_alloc.specs.Free.{free_count, is_free as is_free_number}
use Rattle.jn_base.specs.declared.names.LockUnit.{LockUnit}
use Rattle.jn_files.specs.Table.{layouts_in}
use Rattle.jn_records.specs.Heads.{is_free}
use Rattle.jn_recovery.proofs.Bridge.{same_there, same_mapped}
use Rattle.jn_recovery.proofs.Cells.{table_fits, one_layout, named_cell, cell_named, cell_below}
use Rattle.jn_recovery.proofs.Keys.{is_key, on_key, keys_length, keys_in, keys_differ}
use Rattle.jn_recovery.proofs.PoolCounted.{on_intention}
unfoldable use Rattle.jn_recovery.proofs.Totals.{below}
use Rattle.jn_recovery.proofs.Totals.{one, total_same, total_plus, total_ones, count_total, any_total, any_total_if, none_later, below_more, below_same, below_plus, below_ones, below_zeros, below_total, below_swapped, below_split, below_any, below_one, below_flags, below_address}

-- the file that has a head
abbrev pub file_of_head : Head → Option FileNo
file_of_head FreeHead = None
file_of_head (Used f xs maps) = Some f

link_file : (f : FileNo) (h : Head) → is_of f h ≡ is_key file_eq f (file_of_head h)
link_file f FreeHead = refl
link_file f (Used k xs maps) = refl

-- ---- files

module _ (t : TableView) (table : IsTable t) (maps : ℕ → ℕ → ℕ) (blocks : ℕ → List ℕ) where
  pub files_listed : IsListing file_eq (file_there (files_in (layouts_by maps t.heads) blocks)) (collected file_of_head t.heads)
  files_listed = record {
    different = keys_differ file_of_head file_eq file_tells is_of link_file FreeHead t.heads table.heads.files;
    all = λ f. keys_in file_of_head file_eq file_tells is_of link_file f t.heads ∙ there_any f t.heads ∙ same_there maps t.heads f;
  }
    where
      there_any : (f : FileNo) (heads : List Head) → list_any (is_of f) heads ≡ exists heads f
      there_any f [] = refl
      there_any f (h ∷ hs) = by (is_of f h) (there_any f hs)
        where
          by : (b : Bool) → list_any (is_of f) hs ≡ exists hs f → (b || list_any (is_of f) hs) ≡ is_some (if b then Some h else find (is_of f) hs)
          by true again = refl
          by false again = again

  pub heads_counted : free_count t.free_heads + length (collected file_of_head t.heads) ≡ t.counts.heads
  heads_counted =
      let frees = flags_same t.free_heads.flags t.heads (let a = table.head_count in let b = table.slots in omega (arith, a, b)) (λ j lt. table.free_heads j (let b = table.slots in omega (arith, lt, b))) in
      let frees_on = count_total is_free t.heads in
      let files = keys_length file_of_head t.heads in
      let both = total_plus (λ h. one (is_free h)) (λ h. on_key (λ k. 1) (file_of_head h)) (λ h. 1) each t.heads in
      let all = total_ones t.heads in let size = table.slots in
      omega (arith, frees, frees_on, files, both, all, size)
    where
      each : (h : Head) → 1 ≡ one (is_free h) + on_key (λ k. 1) (file_of_head h)
      each FreeHead = refl
      each (Used f xs maps) = refl

      flags_same : (flags : List Bool) (heads : List Head) → length flags ≡ length heads → ((j : ℕ) → j < length heads → slice_index_or flags j false ≡ is_free (head_in heads j)) → count_by (λ b. b) flags ≡ count_by is_free heads
      flags_same [] [] size same = refl
      flags_same [] (h ∷ hs) size same = absurd (omega (arith, size))
      flags_same (b ∷ flags) [] size same = absurd (omega (arith, size))
      flags_same (b ∷ flags) (h ∷ hs) size same =
          let one_more = sum_by-cons (λ (b : Bool). if b then 1 else 0) b flags in
          let head_more = sum_by-cons (λ h. if is_free h then 1 else 0) h hs in
          let again = flags_same flags hs (omega (arith, size)) (λ j lt. same (suc j) (omega (arith, lt))) in
          let here = same 0 (omega arith) in grind (arith, one_more, head_more, again, here)

-- ---- what layouts have at so many cells, each by a key of its file and its number

abbrev key_at : {K : Type 0} → K → ℕ → Option K
key_at k zero = None
key_at k (suc a) = Some k

unfoldable pub spots_below : {K : Type 0} → (ℕ → K) → (ℕ → ℕ) → ℕ → List K
spots_below make cells zero = []
spots_below make cells (suc n) = with_first (key_at (make n) (cells n)) (spots_below make cells n)

module _ {K : Type 0} (eq : K → K → Bool) (tells : Tells eq) (make : FileNo → ℕ → K) (same_key : (f k : FileNo) (p q : ℕ) → eq (make f p) (make k q) ≡ (file_eq f k && nat_eq p q)) (place : ℕ → ℕ) (n : ℕ) where
  abbrev spots_of : Layout → List K
  spots_of Unused = []
  spots_of (Of f cells) = spots_below (make f) (λ p. cells (place p)) n

  abbrev pub all_spots : List Layout → List K
  all_spots [] = []
  all_spots (h ∷ hs) = spots_of h ++ all_spots hs

  in_joined : (u : K) (xs ys : List K) → is_in eq u (xs ++ ys) ≡ (is_in eq u xs || is_in eq u ys)
  in_joined u [] ys = refl
  in_joined u (x ∷ xs) ys = let again = in_joined u xs ys in grind arith

  different_joined : (xs ys : List K) → are_different eq xs ≡ true → are_different eq ys ≡ true → ((u : K) → is_in eq u xs ≡ true → is_in eq u ys ≡ false) → are_different eq (xs ++ ys) ≡ true
  different_joined [] ys a b apart = b
  different_joined (x ∷ xs) ys a b apart =
      let own = same x in
      let here = apart x (grind (arith, own)) in
      let both = in_joined x xs ys in
      let again = different_joined xs ys (grind (arith, a)) b (λ u h. apart u (later u h)) in grind (arith, a, here, both, again)
    where
      same : (u : K) → eq u u ≡ true
      same u = ⊎_elim (λ h. h.0) (λ h. absurd (h.1 refl)) (tells u u)

      later : (u : K) → is_in eq u xs ≡ true → (eq x u || is_in eq u xs) ≡ true
      later u h = by (eq x u) h
        where
          by : (c : Bool) → is_in eq u xs ≡ true → (c || is_in eq u xs) ≡ true
          by true h = refl
          by false h = h

  -- one of a file's spots
  found_below : (f k : FileNo) (cells : ℕ → ℕ) (m q : ℕ) → is_in eq (make k q) (spots_below (make f) cells m) ≡ (file_eq f k && (nat_lt q m && nat_lt 0 (cells q)))
  unfolding spots_below
  found_below f k cells zero q = by (file_eq f k)
    where
      past : nat_lt q 0 ≡ false
      past = grind (arith, nat_tests)

      by : (b : Bool) → false ≡ (b && (nat_lt q 0 && nat_lt 0 (cells q)))
      by true = sym (ap (λ c. c && nat_lt 0 (cells q)) past)
      by false = refl
  found_below f k cells (suc m) q = by (cells m) refl (found_below f k cells m q)
    where
      -- another number is below the next one where it was
      still : (m ≡ q → ⊥) → nat_lt q (suc m) ≡ nat_lt q m
      still ne = grind (arith, nat_tests, ne)

      here : (a b c : Bool) (x : ℕ) → a ≡ (b && nat_eq m q) → cells m ≡ suc x → c ≡ (b && (nat_lt q m && nat_lt 0 (cells q))) → (a || c) ≡ (b && (nat_lt q (suc m) && nat_lt 0 (cells q)))
      here a b c x e h again = ⊎_elim
          (λ same. let t : nat_eq m q ≡ true = grind (arith, nat_tests, same) in let u : nat_lt q (suc m) ≡ true = grind (arith, nat_tests, same) in
          let v : nat_lt 0 (cells q) ≡ true = let w : cells q ≡ suc x = ap cells (sym same) ∙ h in grind (arith, nat_tests, w) in grind (arith, e, again, t, u, v))
          (λ other. let t : nat_eq m q ≡ false = grind (arith, nat_tests, other) in let u = still other in grind (arith, e, again, t, u))
          (cases_eq m q)

      gone : (b c : Bool) → cells m ≡ 0 → c ≡ (b && (nat_lt q m && nat_lt 0 (cells q))) → c ≡ (b && (nat_lt q (suc m) && nat_lt 0 (cells q)))
      gone b c h again = ⊎_elim
          (λ same. let v : nat_lt 0 (cells q) ≡ false = let w : cells q ≡ 0 = ap cells (sym same) ∙ h in grind (arith, nat_tests, w) in grind (arith, again, v))
          (λ other. again ∙ ap (λ x. b && (x && nat_lt 0 (cells q))) (sym (still other)))
          (cases_eq m q)

      by : (x : ℕ) → cells m ≡ x → is_in eq (make k q) (spots_below (make f) cells m) ≡ (file_eq f k && (nat_lt q m && nat_lt 0 (cells q)))
          → is_in eq (make k q) (with_first (key_at (make f m) x) (spots_below (make f) cells m)) ≡ (file_eq f k && (nat_lt q (suc m) && nat_lt 0 (cells q)))
      by zero h again = gone (file_eq f k) (is_in eq (make k q) (spots_below (make f) cells m)) h again
      by (suc x) h again = here (eq (make f m) (make k q)) (file_eq f k) (is_in eq (make k q) (spots_below (make f) cells m)) x (same_key f k m q) h again

  -- each of them is a spot
  is_spot : (f : FileNo) (cells : ℕ → ℕ) (m : ℕ) (u : K) → is_in eq u (spots_below (make f) cells m) ≡ true → (q : ℕ) × (u ≡ make f q)
  unfolding spots_below
  is_spot f cells zero u h = absurd (true≢false (sym h))
  is_spot f cells (suc m) u h = by (cells m) h (is_spot f cells m u)
    where
      by : (x : ℕ) → is_in eq u (with_first (key_at (make f m) x) (spots_below (make f) cells m)) ≡ true → (is_in eq u (spots_below (make f) cells m) ≡ true → (q : ℕ) × (u ≡ make f q)) → (q : ℕ) × (u ≡ make f q)
      by zero h again = again h
      by (suc x) h again = ⊎_elim (λ same. (m, sym same.1)) (λ other. again (let e = other.0 in grind (arith, h, e))) (tells (make f m) u)

  spots_differ : (f : FileNo) (cells : ℕ → ℕ) (m : ℕ) → are_different eq (spots_below (make f) cells m) ≡ true
  unfolding spots_below
  spots_differ f cells zero = refl
  spots_differ f cells (suc m) = by (cells m) (spots_differ f cells m)
    where
      none : is_in eq (make f m) (spots_below (make f) cells m) ≡ false
      none = found_below f f cells m m ∙ (let t : nat_lt m m ≡ false = grind (arith, nat_tests) in past (file_eq f f) (nat_lt m m) t)
        where
          past : (b c : Bool) → c ≡ false → (b && (c && nat_lt 0 (cells m))) ≡ false
          past b c e = grind (arith, e)

      by : (x : ℕ) → are_different eq (spots_below (make f) cells m) ≡ true → are_different eq (with_first (key_at (make f m) x) (spots_below (make f) cells m)) ≡ true
      by zero again = again
      by (suc x) again = let e = none in grind (arith, again, e)

  spots_length : (f : FileNo) (cells : ℕ → ℕ) (m : ℕ) → length (spots_below (make f) cells m) ≡ below (λ p. one (nat_lt 0 (cells p))) m
  unfolding spots_below below
  spots_length f cells zero = sym (below_zeros 0)
  spots_length f cells (suc m) = by (cells m) refl (spots_length f cells m) ∙ sym (below_more (λ p. one (nat_lt 0 (cells p))) m)
    where
      by : (x : ℕ) → cells m ≡ x → length (spots_below (make f) cells m) ≡ below (λ p. one (nat_lt 0 (cells p))) m
          → length (with_first (key_at (make f m) x) (spots_below (make f) cells m)) ≡ below (λ p. one (nat_lt 0 (cells p))) m + one (nat_lt 0 (cells m))
      by zero h again = let t : nat_lt 0 (cells m) ≡ false = grind (arith, nat_tests, h) in let e = ap one t in omega (arith, again, e)
      by (suc x) h again = let t : nat_lt 0 (cells m) ≡ true = grind (arith, nat_tests, h) in let e = ap one t in omega (arith, again, e)

  -- ---- of all layouts

  in_layout : (h : Layout) (k : FileNo) (q : ℕ) → is_in eq (make k q) (spots_of h) ≡ (is_layout_of k h && (nat_lt q n && nat_lt 0 (at_cell h (place q))))
  in_layout Unused k q = refl
  in_layout (Of f cells) k q = found_below f k (λ p. cells (place p)) n q

  none_of : (layouts : List Layout) (k : FileNo) (q : ℕ) → list_any (is_layout_of k) layouts ≡ false → is_in eq (make k q) (all_spots layouts) ≡ false
  none_of [] k q none = refl
  none_of (h ∷ hs) k q none =
      let both = in_joined (make k q) (spots_of h) (all_spots hs) in let here = in_layout h k q in let again = none_of hs k q (grind (arith, none)) in
      let out : is_layout_of k h ≡ false = grind (arith, none) in grind (arith, both, here, again, out)

  abbrev OneLayout : List Layout → Type 0
  OneLayout layouts = (k : FileNo) → PassesOnce (λ i. is_layout_of k (layout_at layouts i))

  later_layouts : (h : Layout) (hs : List Layout) → OneLayout (h ∷ hs) → OneLayout hs
  later_layouts h hs once k i j a b = let e = once k (suc i) (suc j) a b in omega (arith, e)

  pub in_all : (layouts : List Layout) → OneLayout layouts → (k : FileNo) (q : ℕ) → is_in eq (make k q) (all_spots layouts) ≡ (nat_lt q n && nat_lt 0 (at_cell (or_unused (find (is_layout_of k) layouts)) (place q)))
  in_all [] once k q = by (nat_lt q n)
    where
      by : (b : Bool) → false ≡ (b && nat_lt 0 0)
      by true = refl
      by false = refl
  in_all (h ∷ hs) once k q = in_joined (make k q) (spots_of h) (all_spots hs) ∙ ap (λ b. b || is_in eq (make k q) (all_spots hs)) (in_layout h k q) ∙ by (is_layout_of k h) refl (in_all hs (later_layouts h hs once) k q)
    where
      or_none : (b : Bool) → (b || false) ≡ b
      or_none true = refl
      or_none false = refl

      by : (b : Bool) → is_layout_of k h ≡ b → is_in eq (make k q) (all_spots hs) ≡ (nat_lt q n && nat_lt 0 (at_cell (or_unused (find (is_layout_of k) hs)) (place q)))
          → ((b && (nat_lt q n && nat_lt 0 (at_cell h (place q)))) || is_in eq (make k q) (all_spots hs)) ≡ (nat_lt q n && nat_lt 0 (at_cell (or_unused (if b then Some h else find (is_layout_of k) hs)) (place q)))
      by true e again = ap (λ b. (nat_lt q n && nat_lt 0 (at_cell h (place q))) || b) (none_of hs k q (none_later (is_layout_of k) Unused h hs e (once k))) ∙ or_none (nat_lt q n && nat_lt 0 (at_cell h (place q)))
      by false e again = again

  pub all_differ : (layouts : List Layout) → OneLayout layouts → are_different eq (all_spots layouts) ≡ true
  all_differ [] once = refl
  all_differ (h ∷ hs) once = different_joined (spots_of h) (all_spots hs) (own h) (all_differ hs (later_layouts h hs once)) (apart h refl)
    where
      own : (h : Layout) → are_different eq (spots_of h) ≡ true
      own Unused = refl
      own (Of f cells) = spots_differ f (λ p. cells (place p)) n

      own_file : (f : FileNo) → file_eq f f ≡ true
      own_file f = ⊎_elim (λ h. h.0) (λ h. absurd (h.1 refl)) (file_tells f f)

      apart : (l : Layout) → h ≡ l → (u : K) → is_in eq u (spots_of l) ≡ true → is_in eq u (all_spots hs) ≡ false
      apart Unused e u t = absurd (true≢false (sym t))
      apart (Of f cells) e u t =
          let at = is_spot f (λ p. cells (place p)) n u t in
          subst (λ v. is_in eq v (all_spots hs) ≡ false) (sym at.1) (none_of hs f at.0 (none_later (is_layout_of f) Unused h hs (ap (is_layout_of f) e ∙ own_file f) (once f)))

  -- what isn't of this form isn't there
  pub not_there : (layouts : List Layout) (u : K) → ((f : FileNo) (q : ℕ) → u ≡ make f q → ⊥) → is_in eq u (all_spots layouts) ≡ false
  not_there [] u none = refl
  not_there (h ∷ hs) u none = let both = in_joined u (spots_of h) (all_spots hs) in let again = not_there hs u none in let here = by h in grind (arith, both, again, here)
    where
      out : (f : FileNo) (cells : ℕ → ℕ) (b : Bool) → is_in eq u (spots_below (make f) cells n) ≡ b → b ≡ false
      out f cells true e = let at = is_spot f cells n u e in absurd (none f at.0 at.1)
      out f cells false e = refl

      by : (h : Layout) → is_in eq u (spots_of h) ≡ false
      by Unused = refl
      by (Of f cells) = let e = out f (λ p. cells (place p)) (is_in eq u (spots_below (make f) (λ p. cells (place p)) n)) refl in e

  pub all_length : (layouts : List Layout) → length (all_spots layouts) ≡ total (λ h. below (λ p. one (nat_lt 0 (at_cell h (place p)))) n) layouts
  all_length [] = refl
  all_length (h ∷ hs) = let both = length-append (spots_of h) (all_spots hs) in let again = all_length hs in let here = by h in omega (arith, both, again, here)
    where
      by : (h : Layout) → length (spots_of h) ≡ below (λ p. one (nat_lt 0 (at_cell h (place p)))) n
      by Unused = sym (below_same (λ p. one (nat_lt 0 0)) (λ p. 0) n (λ a lt. refl) ∙ below_zeros n)
      by (Of f cells) = spots_length f (λ p. cells (place p)) n

-- ---- stored blocks

abbrev pub unit_of_block : FileNo → ℕ → LockUnit
unit_of_block f p = Block f (record { 0 = p })

pub unit_tells : Tells unit_eq
unit_tells (File f) (File g) = ⊎_elim (λ h. inl (h.0, ap (λ (x : FileNo). File x) h.1)) (λ h. inr (h.0, λ e. h.1 (cc e))) (file_tells f g)
unit_tells (File f) (Block g q) = inr (refl, λ e. cc e)
unit_tells (Block f p) (File g) = inr (refl, λ e. cc e)
unit_tells (Block f p) (Block g q) = ⊎_elim
    (λ h. ⊎_elim
    (λ k. inl (let a = h.0 in let b = k.0 in grind (arith, a, b), ap (λ (x : FileNo). Block x p) h.1 ∙ ap (λ (x : BlockNo). Block g x) k.1))
    (λ k. inr (let a = h.0 in let b = k.0 in grind (arith, a, b), λ e. k.1 (cc e)))
    (block_tells p q))
    (λ h. inr (let a = h.0 in grind (arith, a), λ e. h.1 (cc e)))
    (file_tells f g)

pub same_unit : (f k : FileNo) (p q : ℕ) → unit_eq (unit_of_block f p) (unit_of_block k q) ≡ (file_eq f k && nat_eq p q)
same_unit f k p q = refl

abbrev pub all_units : List Layout → List LockUnit
all_units layouts = all_spots unit_eq unit_tells unit_of_block same_unit (λ p. p) most_blocks layouts

pub blocks_listed : (layouts : List Layout) (blocks : ℕ → List ℕ) → ((k : FileNo) → PassesOnce (λ i. is_layout_of k (layout_at layouts i))) → IsListing unit_eq (is_stored (files_in layouts blocks)) (all_units layouts)
blocks_listed layouts blocks once = record { different = all_differ unit_eq unit_tells unit_of_block same_unit (λ p. p) most_blocks layouts once; all = all }
  where
    all : (u : LockUnit) → is_in unit_eq u (all_units layouts) ≡ is_stored (files_in layouts blocks) u
    all (File k) = not_there unit_eq unit_tells unit_of_block same_unit (λ p. p) most_blocks layouts (File k) (λ f q e. absurd (cc e))
    all (Block k q) = in_all unit_eq unit_tells unit_of_block same_unit (λ p. p) most_blocks layouts once k q.0 ∙ same_mapped layouts blocks k q

-- ---- map pages

abbrev pub map_of_file : FileNo → ℕ → FileNo × ℕ
map_of_file f j = (f, j)

pub same_map : (f k : FileNo) (p q : ℕ) → map_eq (map_of_file f p) (map_of_file k q) ≡ (file_eq f k && nat_eq p q)
same_map f k p q = refl

pub map_tells : Tells map_eq
map_tells m n = by (file_eq m.0 n.0) refl (nat_eq m.1 n.1) refl
  where
    by : (a : Bool) → file_eq m.0 n.0 ≡ a → (b : Bool) → nat_eq m.1 n.1 ≡ b → ((map_eq m n ≡ true) × (m ≡ n)) ⊎ ((map_eq m n ≡ false) × (m ≡ n → ⊥))
    by true e true f = inl (grind (arith, e, f), let a : m.0 ≡ n.0 = (let t = file_tells m.0 n.0 in grind (arith, e)) in let b : m.1 ≡ n.1 = grind (arith, nat_tests, f) in ap (λ (x : FileNo). (x, m.1)) a ∙ ap (λ (y : ℕ). (n.0, y)) b)
    by false e b f = inr (grind (arith, e), λ same. let t : file_eq m.0 m.0 ≡ true = ⊎_elim (λ h. h.0) (λ h. absurd (h.1 refl)) (file_tells m.0 m.0) in true≢false (sym t ∙ ap (λ (x : FileNo × ℕ). file_eq m.0 x.0) same ∙ e))
    by true e false f = inr (grind (arith, f), λ same. let t : nat_eq m.1 m.1 ≡ true = grind (arith, nat_tests) in true≢false (sym t ∙ ap (λ (x : FileNo × ℕ). nat_eq m.1 x.1) same ∙ f))

abbrev pub all_maps : List Layout → List (FileNo × ℕ)
all_maps layouts = all_spots map_eq map_tells map_of_file same_map map_cell most_maps layouts

-- a head past its map pages
no_map_past : (xs : List ℕ) (j : ℕ) → length xs ≡ most_maps → nat_lt j most_maps ≡ false → nat_lt 0 (slice_index xs j) ≡ false
no_map_past xs j size past = let e : slice_index xs j ≡ 0 = get_or_past xs j 0 (let le : most_maps ≤ j = grind (arith, nat_tests, past) in omega (arith, le, size)) in grind (arith, nat_tests, e)

module _ (maps : ℕ → ℕ → ℕ) where
  of_head : (h : Head) (f : FileNo) (j : ℕ) → head_has_page h ≡ true → names_map f j h ≡ (is_layout_of f (layout_by maps h) && (nat_lt j most_maps && nat_lt 0 (at_cell (layout_by maps h) (map_cell j))))
  of_head FreeHead f j whole = refl
  of_head (Used g xs ms) f j whole = ap (λ b. file_eq g f && b) (by (nat_lt j most_maps) refl)
    where
      by : (b : Bool) → nat_lt j most_maps ≡ b → nat_lt 0 (slice_index ms j) ≡ (b && nat_lt 0 (at_cell (layout_by maps (Used g xs ms)) (map_cell j)))
      by true e = ap (nat_lt 0) (sym (map-cell-is maps (Used g xs ms) j (grind (arith, nat_tests, e))))
      by false e = no_map_past ms j (let size = right (nat_eq (length xs) head_blocks) (nat_eq (length ms) most_maps) whole in grind (arith, nat_tests, size)) e
        where
          right : (a b : Bool) → (a && b) ≡ true → b ≡ true
          right a b h = grind (arith, h)

  none_named : (heads : List Head) (f : FileNo) (j : ℕ) → list_any (is_of f) heads ≡ false → maps_in heads f j ≡ false
  none_named [] f j none = refl
  none_named (FreeHead ∷ hs) f j none = none_named hs f j none
  none_named (Used g xs ms ∷ hs) f j none = let again = none_named hs f j (grind (arith, none)) in let out : file_eq g f ≡ false = grind (arith, none) in grind (arith, again, out)

  named_maps_are : (heads : List Head) → ((i : ℕ) → head_has_page (head_in heads i) ≡ true) → ((k : FileNo) → PassesOnce (λ i. is_of k (head_in heads i))) → (f : FileNo) (j : ℕ)
      → maps_in heads f j ≡ (nat_lt j most_maps && nat_lt 0 (at_cell (or_unused (find (is_layout_of f) (layouts_by maps heads))) (map_cell j)))
  named_maps_are [] whole once f j = by (nat_lt j most_maps)
    where
      by : (b : Bool) → false ≡ (b && nat_lt 0 0)
      by true = refl
      by false = refl
  named_maps_are (h ∷ hs) whole once f j = ap (λ b. b || maps_in hs f j) (of_head h f j (whole 0)) ∙ by (is_layout_of f (layout_by maps h)) refl (named_maps_are hs (λ i. whole (suc i)) (λ k i l x y. let e = once k (suc i) (suc l) x y in omega (arith, e)) f j)
    where
      or_none : (b : Bool) → (b || false) ≡ b
      or_none true = refl
      or_none false = refl

      by : (b : Bool) → is_layout_of f (layout_by maps h) ≡ b → maps_in hs f j ≡ (nat_lt j most_maps && nat_lt 0 (at_cell (or_unused (find (is_layout_of f) (layouts_by maps hs))) (map_cell j)))
          → ((b && (nat_lt j most_maps && nat_lt 0 (at_cell (layout_by maps h) (map_cell j)))) || maps_in hs f j)
          ≡ (nat_lt j most_maps && nat_lt 0 (at_cell (or_unused (if b then Some (layout_by maps h) else find (is_layout_of f) (layouts_by maps hs))) (map_cell j)))
      by true e again = ap (λ b. (nat_lt j most_maps && nat_lt 0 (at_cell (layout_by maps h) (map_cell j))) || b) (none_named hs f j (none_later (is_of f) FreeHead h hs (sym (own-file maps f h) ∙ e) (once f)))
          ∙ or_none (nat_lt j most_maps && nat_lt 0 (at_cell (layout_by maps h) (map_cell j)))
      by false e again = again

module _ (t : TableView) (table : IsTable t) where
  pub maps_listed : IsListing map_eq (has_map (maps_in t.heads)) (all_maps (layouts_in t))
  maps_listed = record {
    different = all_differ map_eq map_tells map_of_file same_map map_cell most_maps (layouts_in t) once;
    all = λ m. in_all map_eq map_tells map_of_file same_map map_cell most_maps (layouts_in t) once m.0 m.1
        ∙ sym (named_maps_are (kept_entry t.maps) t.heads (λ i. (table.heads.each i).is_head.whole) table.heads.files m.0 m.1);
  }
    where
      once : (k : FileNo) → PassesOnce (λ i. is_layout_of k (layout_at (layouts_in t) i))
      once = one_layout t.counts.leaves t.maps t.heads table.heads

  -- no file has more map pages than a head names
  pub maps_fit : (f : FileNo) (j : ℕ) → maps_in t.heads f j ≡ true → j < most_maps
  maps_fit f j h = first (nat_lt j most_maps) (nat_lt 0 (at_cell (or_unused (find (is_layout_of f) (layouts_in t))) (map_cell j)))
      (sym (named_maps_are (kept_entry t.maps) t.heads (λ i. (table.heads.each i).is_head.whole) table.heads.files f j) ∙ h) refl
    where
      first : (a b : Bool) → (a && b) ≡ true → nat_lt j most_maps ≡ a → j < most_maps
      first true b h e = grind (arith, nat_tests, e)
      first false b h e = absurd (true≢false (sym h))

-- ---- data pages

-- which intentions hold the page of their block, and which their map page
abbrev pub holds_block : List Layout → StoredIntention → Bool
holds_block layouts i = holds_page layouts i.address

abbrev pub holds_map : List Layout → StoredIntention → Bool
holds_map layouts i = holds_page layouts i.map

module _ (t : TableView) (table : IsTable t) where
  abbrev cell : ℕ → ℕ → ℕ
  cell i q = at_cell (layout_at (layouts_in t) i) q

  layouts_once : (a : ℕ) → PassesOnce (λ i. has_address most_cells (suc a) (layout_at (layouts_in t) i))
  layouts_once a i j x y =
      let p = has-found (layout_at (layouts_in t) i) most_cells (suc a) x in
      let q = has-found (layout_at (layouts_in t) j) most_cells (suc a) y in (table.heads.addresses a i p.0 j q.0 p.2 q.2).0

  -- a layout names as many data pages as it has addresses
  layout_pages : (j : ℕ) → below (λ a. one (has_address most_cells (suc a) (layout_at (layouts_in t) j))) t.counts.leaves
      ≡ below (λ p. one (nat_lt 0 (cell j p))) most_blocks + below (λ m. one (nat_lt 0 (cell j (map_cell m)))) most_maps
  layout_pages j =
      below_same (λ a. one (has_address most_cells (suc a) (layout_at (layouts_in t) j))) (λ a. below (λ q. one (nat_eq (cell j q) (suc a))) most_cells) t.counts.leaves
      (λ a lt. below_any (λ q. nat_eq (cell j q) (suc a)) most_cells (once a))
      ∙ below_swapped (λ a q. one (nat_eq (cell j q) (suc a))) most_cells t.counts.leaves
      ∙ below_same (λ q. below (λ a. one (nat_eq (cell j q) (suc a))) t.counts.leaves) (λ q. one (nat_lt 0 (cell j q))) most_cells (λ q lt. below_one (cell j q) t.counts.leaves (table_fits t.counts.leaves t.maps t.heads table.heads j q))
      ∙ below_split (λ q. one (nat_lt 0 (cell j q))) most_blocks most_maps
    where
      equal : (x y : ℕ) → nat_eq x y ≡ true → x ≡ y
      equal x y e = grind (arith, nat_tests, e)

      once : (a p q : ℕ) → nat_eq (cell j p) (suc a) ≡ true → nat_eq (cell j q) (suc a) ≡ true → p ≡ q
      once a p q x y = (table.heads.addresses a j p j q (equal (cell j p) (suc a) x) (equal (cell j q) (suc a) y)).1

  pub named_counted : below (λ a. one (heads_name most_cells (layouts_in t) (suc a))) t.counts.leaves ≡ length (all_units (layouts_in t)) + length (all_maps (layouts_in t))
  named_counted =
      let units = all_length unit_eq unit_tells unit_of_block same_unit (λ p. p) most_blocks (layouts_in t) in
      let maps = all_length map_eq map_tells map_of_file same_map map_cell most_maps (layouts_in t) in
      let both = total_plus (λ h. below (λ p. one (nat_lt 0 (at_cell h p))) most_blocks) (λ h. below (λ m. one (nat_lt 0 (at_cell h (map_cell m)))) most_maps)
      (λ h. below (λ p. one (nat_lt 0 (at_cell h p))) most_blocks + below (λ m. one (nat_lt 0 (at_cell h (map_cell m)))) most_maps) (λ h. refl) (layouts_in t) in
      all ∙ sum _ _ _ _ _ both units maps
    where
      all : below (λ a. one (heads_name most_cells (layouts_in t) (suc a))) t.counts.leaves ≡ total (λ h. below (λ p. one (nat_lt 0 (at_cell h p))) most_blocks + below (λ m. one (nat_lt 0 (at_cell h (map_cell m)))) most_maps) (layouts_in t)
      all =
          below_same (λ a. one (heads_name most_cells (layouts_in t) (suc a))) (λ a. total (λ h. one (has_address most_cells (suc a) h)) (layouts_in t)) t.counts.leaves (λ a lt. any_total (has_address most_cells (suc a)) Unused (layouts_in t) (layouts_once a))
          ∙ below_total (λ a h. one (has_address most_cells (suc a) h)) (layouts_in t) t.counts.leaves
          ∙ total_same Unused (λ h. below (λ a. one (has_address most_cells (suc a) h)) t.counts.leaves) (λ h. below (λ p. one (nat_lt 0 (at_cell h p))) most_blocks + below (λ m. one (nat_lt 0 (at_cell h (map_cell m)))) most_maps) (layouts_in t) layout_pages

      sum : (x a b c d : ℕ) → x ≡ a + b → c ≡ a → d ≡ b → x ≡ c + d
      sum x a b c d e f h = omega (arith, e, f, h)

  module _ (pool : List Record) (fit : (i a : ℕ) → record_names a (record_in pool i) ≡ true → a < t.counts.leaves) (apart : (i : ℕ) → IsApart (record_in pool i)) (once : (a : ℕ) → PassesOnce (λ i. record_names a (record_in pool i)))
      (held : (a : ℕ) → is_held t a ≡ list_any (record_names a) pool) where
    held_counted : below (λ a. one (list_any (record_names a) pool && not (heads_name most_cells (layouts_in t) (suc a)))) t.counts.leaves ≡ total (λ r. one (on_intention (holds_block (layouts_in t)) r) + one (on_intention (holds_map (layouts_in t)) r)) pool
    held_counted =
        below_same (λ a. one (list_any (record_names a) pool && not (heads_name most_cells (layouts_in t) (suc a)))) (λ a. total (λ r. one (record_names a r && not (heads_name most_cells (layouts_in t) (suc a)))) pool) t.counts.leaves
        (λ a lt. any_total_if (record_names a) (not (heads_name most_cells (layouts_in t) (suc a))) Free pool (once a))
        ∙ below_total (λ a r. one (record_names a r && not (heads_name most_cells (layouts_in t) (suc a)))) pool t.counts.leaves
        ∙ total_same Free (λ r. below (λ a. one (record_names a r && not (heads_name most_cells (layouts_in t) (suc a)))) t.counts.leaves) (λ r. one (on_intention (holds_block (layouts_in t)) r) + one (on_intention (holds_map (layouts_in t)) r)) pool
        (λ j. by (record_in pool j) (fit j) (apart j))
      where
        free : ℕ → Bool
        free x = not (heads_name most_cells (layouts_in t) x)

        bounded : (x : ℕ) → ((a : ℕ) → x ≡ suc a → a < t.counts.leaves) → x ≤ t.counts.leaves
        bounded zero h = omega arith
        bounded (suc a) h = let lt = h a refl in omega (arith, lt)

        same : (x a : ℕ) → x ≡ suc a → nat_eq x (suc a) ≡ true
        same x a e = grind (arith, nat_tests, e)

        left : (b c : Bool) → b ≡ true → (b || c) ≡ true
        left b c e = grind (arith, e)

        right : (b c : Bool) → c ≡ true → (b || c) ≡ true
        right b c e = grind (arith, e)

        equal : (x y : ℕ) → nat_eq x y ≡ true → x ≡ y
        equal x y e = grind (arith, nat_tests, e)

        either : (x y c : Bool) → (x ≡ true → y ≡ true → ⊥) → one ((x || y) && c) ≡ one (x && c) + one (y && c)
        either true true c none = absurd (none refl refl)
        either true false true none = refl
        either true false false none = refl
        either false true true none = refl
        either false true false none = refl
        either false false true none = refl
        either false false false none = refl

        both : (x y : ℕ) → ((a : ℕ) → (nat_eq x (suc a) || nat_eq y (suc a)) ≡ true → a < t.counts.leaves) → ((a : ℕ) → x ≡ suc a → y ≡ suc a → ⊥)
            → below (λ a. one ((nat_eq x (suc a) || nat_eq y (suc a)) && free (suc a))) t.counts.leaves ≡ one (nat_lt 0 x && free x) + one (nat_lt 0 y && free y)
        both x y fits differ =
            let a = below_address x t.counts.leaves free (bounded x (λ a e. fits a (left (nat_eq x (suc a)) (nat_eq y (suc a)) (same x a e)))) in
            let b = below_address y t.counts.leaves free (bounded y (λ a e. fits a (right (nat_eq x (suc a)) (nat_eq y (suc a)) (same y a e)))) in
            below_plus (λ a. one (nat_eq x (suc a) && free (suc a))) (λ a. one (nat_eq y (suc a) && free (suc a))) (λ a. one ((nat_eq x (suc a) || nat_eq y (suc a)) && free (suc a)))
            (λ a. either (nat_eq x (suc a)) (nat_eq y (suc a)) (free (suc a)) (λ d e. differ a (equal x (suc a) d) (equal y (suc a) e))) t.counts.leaves
            ∙ ap (λ n. n + below (λ a. one (nat_eq y (suc a) && free (suc a))) t.counts.leaves) a ∙ ap (λ n. one (nat_lt 0 x && free x) + n) b

        by : (r : Record) → ((a : ℕ) → record_names a r ≡ true → a < t.counts.leaves) → IsApart r
            → below (λ a. one (record_names a r && not (heads_name most_cells (layouts_in t) (suc a)))) t.counts.leaves ≡ one (on_intention (holds_block (layouts_in t)) r) + one (on_intention (holds_map (layouts_in t)) r)
        by Free fits differ = below_zeros t.counts.leaves
        by (Intention v u k i) fits differ = both i.address i.map fits differ
        by (Ready head n reads) fits differ = below_zeros t.counts.leaves
        by (Going head n reads) fits differ = below_zeros t.counts.leaves
        by (FlagRecord f) fits differ = below_zeros t.counts.leaves

    each_page : (a : ℕ) → a < t.counts.leaves → 1 ≡ (one (is_free_number t.free_leaves a) + one (heads_name most_cells (layouts_in t) (suc a))) + one (list_any (record_names a) pool && not (heads_name most_cells (layouts_in t) (suc a)))
    each_page a lt = by (is_free_number t.free_leaves a) (heads_name most_cells (layouts_in t) (suc a)) (list_any (record_names a) pool) refl refl refl
      where
        unnamed : heads_name most_cells (layouts_in t) (suc a) ≡ false → IsUnnamed (layouts_in t) a
        unnamed none slot q e = true≢false (sym (named_cell (layouts_in t) most_cells slot q a (cell_below (kept_entry t.maps) t.heads slot q a e) e) ∙ none)

        not_named : IsUnnamed (layouts_in t) a → heads_name most_cells (layouts_in t) (suc a) ≡ true → ⊥
        not_named none named = let at = cell_named (layouts_in t) most_cells a named in none at.0 at.1 at.3

        by : (f n w : Bool) → is_free_number t.free_leaves a ≡ f → heads_name most_cells (layouts_in t) (suc a) ≡ n → list_any (record_names a) pool ≡ w → 1 ≡ (one f + one n) + one (w && not n)
        by true true w free named listed = absurd (not_named ((table.free_leaves a).0 free).unnamed named)
        by true false true free named listed = absurd (true≢false (sym listed ∙ sym (held a) ∙ ((table.free_leaves a).0 free).loose))
        by true false false free named listed = refl
        by false true true free named listed = refl
        by false true false free named listed = refl
        by false false true free named listed = refl
        by false false false free named listed = absurd (true≢false (sym ((table.free_leaves a).1 (record { below = lt; loose = held a ∙ listed; unnamed = unnamed named })) ∙ free))

    pub pages_counted : free_count t.free_leaves + length (all_units (layouts_in t)) + length (all_maps (layouts_in t)) + total (λ r. one (on_intention (holds_block (layouts_in t)) r) + one (on_intention (holds_map (layouts_in t)) r)) pool ≡ t.counts.leaves
    pages_counted =
        let frees = below_flags t.free_leaves.flags ∙ ap (below (λ a. one (slice_index_or t.free_leaves.flags a false))) table.leaf_count in
        let names = named_counted in
        let holds = held_counted in
        let two = below_plus (λ a. one (is_free_number t.free_leaves a)) (λ a. one (heads_name most_cells (layouts_in t) (suc a))) (λ a. one (is_free_number t.free_leaves a) + one (heads_name most_cells (layouts_in t) (suc a))) (λ a. refl) t.counts.leaves in
        let three = below_plus (λ a. one (is_free_number t.free_leaves a) + one (heads_name most_cells (layouts_in t) (suc a))) (λ a. one (list_any (record_names a) pool && not (heads_name most_cells (layouts_in t) (suc a))))
        (λ a. (one (is_free_number t.free_leaves a) + one (heads_name most_cells (layouts_in t) (suc a))) + one (list_any (record_names a) pool && not (heads_name most_cells (layouts_in t) (suc a)))) (λ a. refl) t.counts.leaves in
        let all = below_same (λ a. 1) (λ a. (one (is_free_number t.free_leaves a) + one (heads_name most_cells (layouts_in t) (suc a))) + one (list_any (record_names a) pool && not (heads_name most_cells (layouts_in t) (suc a)))) t.counts.leaves each_page in
        let ones = below_ones t.counts.leaves in
        omega (arith, frees, names, holds, two, three, all, ones)
