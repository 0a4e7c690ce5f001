-- The flags of the data pages that layouts name.
use Rattle.jn_files.proofs.Common.{◌≡◌, ◌≢◌, ◌⊎◌, inl, inr, ⊎_elim, ◌<◌, ◌≤◌, ◌+◌, ◌*◌, ◌-◌, ◌%◌, ℕ, zero, suc, Bool, true, false, List, [], ◌∷◌, Option, Some, None, length, drop, refl, sym, ap, subst, ◌∙◌, arith, true≢false, add-one, drop-cons, nat_eq, slice_index, slice_index_or, slice_set, if◌then◌else◌, cases_eq, cases_lt, false_from_ne_true, nat_tests, get_or-set_same, get_or-set_other, get_or_past, length-set, head_blocks, most_maps, FileNo, Head, Free, Used, all_within, Layout, at_cell, kept_entry, layout_at, layout_by, map_cell, through, head_in, head_with, row_at, layouts_of, range_of, AreRows, IsHeadOf, AreNamed, IsNamedPage, named_one, named_all, named_map, named_maps, named_head}
use Rattle.jn_files.proofs.Places.{at_high, at_low, at_entry, at_range}
use Rattle.jn_files.proofs.Cutting.{there_below, list_within, maps_length as maps_count, whole_length, within_parts}
use Rattle.jn_files.proofs.Cells.{CellCase, InHead, InMap, OfMap, Past, cell_case, block_cell, entry_cell, page_cell, past_cell, layout_is}
use Rattle.jn_files.proofs.Between.{set_below}
use Rattle.jn_files.proofs.Freeing.{LeadsTo}

-- ---- how many flags there are

pub one_length : (x : ℕ) (flags : List Bool) → length (named_one x flags) ≡ length flags
one_length x flags = by (nat_eq x 0)
  where
    by : (b : Bool) → length (if b then flags else slice_set flags (x - 1) true) ≡ length flags
    by true = refl
    by false = length-set flags (x - 1) true

pub all_length : (xs : List ℕ) (flags : List Bool) → length (named_all xs flags) ≡ length flags
all_length [] flags = refl
all_length (x ∷ xs) flags = all_length xs (named_one x flags) ∙ one_length x flags

pub map_length : (rows : List (List ℕ)) (m : ℕ) (flags : List Bool) → length (named_map rows m flags) ≡ length flags
map_length rows zero flags = refl
map_length rows (suc d) flags = one_length (suc d) (named_all (row_at rows d) flags) ∙ all_length (row_at rows d) flags

pub maps_length : (rows : List (List ℕ)) (ms : List ℕ) (flags : List Bool) → length (named_maps rows ms flags) ≡ length flags
maps_length rows [] flags = refl
maps_length rows (m ∷ ms) flags = maps_length rows ms (named_map rows m flags) ∙ map_length rows m flags

pub head_length : (rows : List (List ℕ)) (h : Head) (flags : List Bool) → length (named_head rows h flags) ≡ length flags
head_length rows Free flags = refl
head_length rows (Used f xs maps) flags = maps_length rows maps (named_all xs flags) ∙ all_length xs flags

-- one map page more
pub maps_step : (rows : List (List ℕ)) (ms : List ℕ) (j : ℕ) (flags : List Bool) → j < length ms → named_maps rows (drop (j + 1) ms) (named_map rows (slice_index ms j) flags) ≡ named_maps rows (drop j ms) flags
maps_step rows ms j flags lt = ap (λ (i : ℕ). named_maps rows (drop i ms) (named_map rows (slice_index ms j) flags)) (add-one j) ∙ sym (ap (λ (l : List ℕ). named_maps rows l flags) (drop-cons ms j 0 lt))

-- the map addresses of a head that a file has
pub maps_fit : (leaves : ℕ) (file : Option FileNo) (f : FileNo) (xs maps : List ℕ) → file ≡ Some f → IsHeadOf leaves (head_with file xs maps) → all_within leaves maps ≡ true
maps_fit leaves None f xs maps e is = absurd (cc e)
maps_fit leaves (Some g) f xs maps e is = (within_parts leaves g xs maps is.is_head.within_leaves).1

-- ---- which flags are set

-- flags that are set and weren't are those of data pages that are named, and no flag is cleared
pub record Sets (these : ℕ → Type 0) (flags more : List Bool) : Type 0 where
  pub count : length more ≡ length flags
  pub still : (a : ℕ) → slice_index_or flags a false ≡ true → slice_index_or more a false ≡ true
  pub named : (a : ℕ) → a < length flags → these a → slice_index_or more a false ≡ true
  pub origin : (a : ℕ) → slice_index_or more a false ≡ true → (slice_index_or flags a false ≡ true) ⊎ these a

sets_as : (P Q : ℕ → Type 0) (flags more : List Bool) → ((a : ℕ) → P a → Q a) → ((a : ℕ) → Q a → P a) → Sets P flags more → Sets Q flags more
sets_as P Q flags more to from is = record {
  count = is.count;
  still = is.still;
  named = λ a lt q. is.named a lt (from a q);
  origin = λ a e. ⊎_elim (λ was. inl was) (λ p. inr (to a p)) (is.origin a e);
}

sets_then : (P Q : ℕ → Type 0) (flags some more : List Bool) → Sets P flags some → Sets Q some more → Sets (λ a. P a ⊎ Q a) flags more
sets_then P Q flags some more one two = record {
  count = two.count ∙ one.count;
  still = λ a e. two.still a (one.still a e);
  named = λ a lt. ⊎_elim (λ p. two.still a (one.named a lt p)) (λ q. two.named a (let n = one.count in omega arith) q);
  origin = λ a e. ⊎_elim (λ set. ⊎_elim (λ was. inl was) (λ p. inr (inl p)) (one.origin a set)) (λ q. inr (inr q)) (two.origin a e);
}

sets_nothing : (P : ℕ → Type 0) (flags : List Bool) → ((a : ℕ) → P a → ⊥) → Sets P flags flags
sets_nothing P flags none = record {
  count = refl;
  still = λ a e. e;
  named = λ a lt p. absurd (none a p);
  origin = λ a e. inl e;
}

sets_page : (b : ℕ) (flags : List Bool) → Sets (λ a. suc b ≡ suc a) flags (slice_set flags b true)
sets_page b flags = record {
  count = length-set flags b true;
  still = λ a e. elim (cases_eq a b) [
    | inl same ↦ at a same (set_below flags a e)
    | inr ne ↦ get_or-set_other flags b a true false ne ∙ e
  ];
  named = λ a lt e. at a (let back : a ≡ b = omega arith in back) lt;
  origin = λ a e. elim (cases_eq a b) [
    | inl same ↦ inr (ap suc (sym same))
    | inr ne ↦ inl (sym (get_or-set_other flags b a true false ne) ∙ e)
  ];
}
  where
    at : (a : ℕ) → a ≡ b → a < length flags → slice_index_or (slice_set flags b true) a false ≡ true
    at a same lt = ap (λ (k : ℕ). slice_index_or (slice_set flags b true) k false) same ∙ get_or-set_same flags b true false (subst (λ (k : ℕ). k < length flags) same lt)

less_one : (b : ℕ) → suc b - 1 ≡ b
less_one b = omega arith

sets_one : (x : ℕ) (flags : List Bool) → Sets (λ a. x ≡ suc a) flags (named_one x flags)
sets_one zero flags = sets_nothing (λ a. zero ≡ suc a) flags (λ a e. omega (arith, e))
sets_one (suc b) flags = subst (λ (l : List Bool). Sets (λ a. suc b ≡ suc a) flags l) (sym one_is) (sets_page b flags)
  where
    one_is : named_one (suc b) flags ≡ slice_set flags b true
    one_is = let t : nat_eq (suc b) 0 ≡ false = grind (arith, nat_tests) in ap (λ (c : Bool). if c then flags else slice_set flags (suc b - 1) true) t ∙ ap (λ (k : ℕ). slice_set flags k true) (less_one b)

sets_all : (xs : List ℕ) (flags : List Bool) → Sets (λ a. (k : ℕ) × (slice_index xs k ≡ suc a)) flags (named_all xs flags)
sets_all [] flags = sets_nothing (λ a. (k : ℕ) × (slice_index [] k ≡ suc a)) flags (λ a h. let e = h.1 in omega (arith, e))
sets_all (x ∷ xs) flags = sets_as (λ a. (x ≡ suc a) ⊎ ((k : ℕ) × (slice_index xs k ≡ suc a))) (λ a. (k : ℕ) × (slice_index (x ∷ xs) k ≡ suc a)) flags (named_all (x ∷ xs) flags)
    to from (sets_then (λ a. x ≡ suc a) (λ a. (k : ℕ) × (slice_index xs k ≡ suc a)) flags (named_one x flags) (named_all (x ∷ xs) flags) (sets_one x flags) (sets_all xs (named_one x flags)))
  where
    to : (a : ℕ) → (x ≡ suc a) ⊎ ((k : ℕ) × (slice_index xs k ≡ suc a)) → (k : ℕ) × (slice_index (x ∷ xs) k ≡ suc a)
    to a (inl e) = (0, e)
    to a (inr h) = (suc h.0, h.1)

    from : (a : ℕ) → (k : ℕ) × (slice_index (x ∷ xs) k ≡ suc a) → (x ≡ suc a) ⊎ ((k : ℕ) × (slice_index xs k ≡ suc a))
    from a h = by h.0 h.1
      where
        by : (k : ℕ) → slice_index (x ∷ xs) k ≡ suc a → (x ≡ suc a) ⊎ ((k : ℕ) × (slice_index xs k ≡ suc a))
        by zero e = inl e
        by (suc k) e = inr (k, e)

sets_map : (rows : List (List ℕ)) (m : ℕ) (flags : List Bool) → Sets (λ a. LeadsTo rows m a) flags (named_map rows m flags)
sets_map rows zero flags = sets_nothing (λ a. LeadsTo rows zero a) flags none
  where
    none : (a : ℕ) → LeadsTo rows zero a → ⊥
    none a (inl h) = let e = h.1 in omega (arith, e)
    none a (inr e) = omega (arith, e)
sets_map rows (suc d) flags = sets_then (λ a. (k : ℕ) × (slice_index (row_at rows d) k ≡ suc a)) (λ a. suc d ≡ suc a) flags (named_all (row_at rows d) flags) (named_map rows (suc d) flags)
    (sets_all (row_at rows d) flags) (sets_one (suc d) (named_all (row_at rows d) flags))

sets_maps : (rows : List (List ℕ)) (ms : List ℕ) (flags : List Bool) → Sets (λ a. (j : ℕ) × LeadsTo rows (slice_index ms j) a) flags (named_maps rows ms flags)
sets_maps rows [] flags = sets_nothing (λ a. (j : ℕ) × LeadsTo rows (slice_index [] j) a) flags (λ a h. none a h.1)
  where
    none : (a : ℕ) → LeadsTo rows zero a → ⊥
    none a (inl h) = let e = h.1 in omega (arith, e)
    none a (inr e) = omega (arith, e)
sets_maps rows (m ∷ ms) flags = sets_as (λ a. LeadsTo rows m a ⊎ ((j : ℕ) × LeadsTo rows (slice_index ms j) a)) (λ a. (j : ℕ) × LeadsTo rows (slice_index (m ∷ ms) j) a) flags (named_maps rows (m ∷ ms) flags)
    to from (sets_then (λ a. LeadsTo rows m a) (λ a. (j : ℕ) × LeadsTo rows (slice_index ms j) a) flags (named_map rows m flags) (named_maps rows (m ∷ ms) flags) (sets_map rows m flags) (sets_maps rows ms (named_map rows m flags)))
  where
    to : (a : ℕ) → LeadsTo rows m a ⊎ ((j : ℕ) × LeadsTo rows (slice_index ms j) a) → (j : ℕ) × LeadsTo rows (slice_index (m ∷ ms) j) a
    to a (inl h) = (0, h)
    to a (inr h) = (suc h.0, h.1)

    from : (a : ℕ) → (j : ℕ) × LeadsTo rows (slice_index (m ∷ ms) j) a → LeadsTo rows m a ⊎ ((j : ℕ) × LeadsTo rows (slice_index ms j) a)
    from a h = by h.0 h.1
      where
        by : (j : ℕ) → LeadsTo rows (slice_index (m ∷ ms) j) a → LeadsTo rows m a ⊎ ((j : ℕ) × LeadsTo rows (slice_index ms j) a)
        by zero e = inl e
        by (suc j) e = inr (j, e)

-- ---- what a head leads to stands at its cells

abbrev LeadsBy : List (List ℕ) → List ℕ → List ℕ → ℕ → Type 0
LeadsBy rows xs maps a = ((k : ℕ) × (slice_index xs k ≡ suc a)) ⊎ ((j : ℕ) × LeadsTo rows (slice_index maps j) a)

abbrev pub StandsIn : List (List ℕ) → Head → ℕ → Type 0
StandsIn rows h a = (q : ℕ) × (at_cell (layout_by (kept_entry rows) h) q ≡ suc a)

module _ (leaves : ℕ) (rows : List (List ℕ)) (are : AreRows leaves rows) (f : FileNo) (xs maps : List ℕ) (is : IsHeadOf leaves (Used f xs maps)) where
  entry_stands : (a j k : ℕ) → j < most_maps → through (kept_entry rows) (slice_index maps j) k ≡ suc a → k < head_blocks → StandsIn rows (Used f xs maps) a
  entry_stands a j k low e below = (
    head_blocks * (j + 1) + k,
    entry_cell (kept_entry rows) (Used f xs maps) (head_blocks * (j + 1) + k) (at_high j k low below) (at_low j k low below)
        ∙ ap (λ (i : ℕ). through (kept_entry rows) (slice_index maps i) ((head_blocks * (j + 1) + k) % head_blocks)) (at_range j k low below)
        ∙ ap (λ (i : ℕ). through (kept_entry rows) (slice_index maps j) i) (at_entry j k low below) ∙ e,
  )

  row_short : (m k a : ℕ) → m ≤ leaves → through (kept_entry rows) m k ≡ suc a → k < head_blocks
  row_short zero k a low e = absurd (omega (arith, e))
  row_short (suc d) k a low e = let lt = there_below (row_at rows d) k a e in let long = (are.each d (omega (arith, low))).count in omega (arith, lt, long)

  map_below : (j x : ℕ) → slice_index maps j ≡ suc x → j < most_maps
  map_below j x e = let lt = there_below maps j x e in let long = maps_count f xs maps is.is_head.whole in omega (arith, lt, long)

  leads_stands : (a : ℕ) → LeadsBy rows xs maps a → StandsIn rows (Used f xs maps) a
  leads_stands a (inl h) =
      let lt = there_below xs h.0 a h.1 in
      let long = whole_length f xs maps is.is_head.whole in
      (h.0, block_cell (kept_entry rows) (Used f xs maps) h.0 (omega (arith, lt, long)) ∙ h.1)
  leads_stands a (inr h) = by (slice_index maps h.0) refl h.1
    where
      by : (m : ℕ) → slice_index maps h.0 ≡ m → LeadsTo rows (slice_index maps h.0) a → StandsIn rows (Used f xs maps) a
      by zero e (inl i) = absurd (let none = ap (λ (m : ℕ). through (kept_entry rows) m i.0) e in let here = i.1 in omega (arith, none, here))
      by (suc d) e (inl i) = entry_stands a h.0 i.0 (map_below h.0 d e) i.1 (row_short (slice_index maps h.0) i.0 a (list_within leaves maps h.0 (within_parts leaves f xs maps is.is_head.within_leaves).1) i.1)
      by m e (inr g) = (map_cell h.0, page_cell (kept_entry rows) (Used f xs maps) h.0 (map_below h.0 a g) ∙ g)

  stands_leads : (a : ℕ) → StandsIn rows (Used f xs maps) a → LeadsBy rows xs maps a
  stands_leads a s = by s.0 s.1 (cell_case s.0)
    where
      by : (q : ℕ) → at_cell (layout_by (kept_entry rows) (Used f xs maps)) q ≡ suc a → CellCase q → LeadsBy rows xs maps a
      by q e (InHead low) = inl (q, sym (block_cell (kept_entry rows) (Used f xs maps) q low) ∙ e)
      by q e (InMap past low) = inr (range_of q, inl (q % head_blocks, sym (entry_cell (kept_entry rows) (Used f xs maps) q past low) ∙ e))
      by q e (OfMap j low same) = inr (j, inr (sym (page_cell (kept_entry rows) (Used f xs maps) j low) ∙ sym (ap (at_cell (layout_by (kept_entry rows) (Used f xs maps))) same) ∙ e))
      by q e (Past over) = absurd (let none = past_cell (kept_entry rows) (Used f xs maps) q over in omega (arith, none, e))

pub sets_head : (leaves : ℕ) (rows : List (List ℕ)) (h : Head) (flags : List Bool) → AreRows leaves rows → IsHeadOf leaves h → Sets (StandsIn rows h) flags (named_head rows h flags)
sets_head leaves rows Free flags are is = sets_nothing (StandsIn rows Free) flags (λ a s. let e = s.1 in omega (arith, e))
sets_head leaves rows (Used f xs maps) flags are is = sets_as (LeadsBy rows xs maps) (StandsIn rows (Used f xs maps)) flags (named_head rows (Used f xs maps) flags)
    (leads_stands leaves rows are f xs maps is) (stands_leads leaves rows are f xs maps is)
    (sets_then (λ a. (k : ℕ) × (slice_index xs k ≡ suc a)) (λ a. (j : ℕ) × LeadsTo rows (slice_index maps j) a) flags (named_all xs flags) (named_head rows (Used f xs maps) flags) (sets_all xs flags) (sets_maps rows maps (named_all xs flags)))

-- ---- of all heads, head by head

-- flags of data pages say which of them the first heads name
pub record NamedBefore (rows : List (List ℕ)) (heads : List Head) (n : ℕ) (named : List Bool) : Type 0 where
  pub set : (a : ℕ) → a < length named → slice_index_or named a false ≡ true → IsNamedPage (layouts_of rows heads) a
  pub clear : (a : ℕ) → a < length named → slice_index_or named a false ≡ false → (slot q : ℕ) → slot < n → at_cell (layout_at (layouts_of rows heads) slot) q ≢ suc a

pub names_more : (leaves : ℕ) (rows : List (List ℕ)) (heads : List Head) (n : ℕ) (named : List Bool) → AreRows leaves rows → IsHeadOf leaves (head_in heads n) → NamedBefore rows heads n named → NamedBefore rows heads (n + 1) (named_head rows (head_in heads n) named)
names_more leaves rows heads n named are is before = record { set = set; clear = clear }
  where
    sets : Sets (StandsIn rows (head_in heads n)) named (named_head rows (head_in heads n) named)
    sets = sets_head leaves rows (head_in heads n) named are is

    its : (q : ℕ) → at_cell (layout_at (layouts_of rows heads) n) q ≡ at_cell (layout_by (kept_entry rows) (head_in heads n)) q
    its q = ap (λ (l : Layout). at_cell l q) (layout_is rows heads n)

    set : (a : ℕ) → a < length (named_head rows (head_in heads n) named) → slice_index_or (named_head rows (head_in heads n) named) a false ≡ true → IsNamedPage (layouts_of rows heads) a
    set a lt e = ⊎_elim
        (λ was. before.set a (set_below named a was) was)
        (λ s. let page : IsNamedPage (layouts_of rows heads) a = record { slot = n; cell = s.0; here = its s.0 ∙ s.1 } in page)
        (sets.origin a e)

    clear : (a : ℕ) → a < length (named_head rows (head_in heads n) named) → slice_index_or (named_head rows (head_in heads n) named) a false ≡ false → (slot q : ℕ) → slot < n + 1 → at_cell (layout_at (layouts_of rows heads) slot) q ≢ suc a
    clear a lt e slot q low d =
        let below : a < length named = let same = sets.count in omega arith in
        elim (cases_eq slot n) [
          | inl same ↦ true≢false (sym (sets.named a below (q, sym (its q) ∙ subst (λ (k : ℕ). at_cell (layout_at (layouts_of rows heads) k) q ≡ suc a) same d)) ∙ e)
          | inr ne ↦ before.clear a below (false_from_ne_true (slice_index_or named a false) (λ was. true≢false (sym (sets.still a was) ∙ e))) slot q (omega (arith, low, ne)) d
        ]

pub named_by_all : (rows : List (List ℕ)) (heads : List Head) (named : List Bool) → NamedBefore rows heads (length heads) named → AreNamed (layouts_of rows heads) named
named_by_all rows heads named before = record {
  set = before.set;
  clear = λ a lt e slot q d. elim (cases_lt slot (length heads)) [
    | inl low ↦ before.clear a lt e slot q low d
    | inr past ↦ absurd (let none = at_free slot q past in omega (arith, none, d))
  ];
}
  where
    at_free : (slot q : ℕ) → length heads ≤ slot → at_cell (layout_at (layouts_of rows heads) slot) q ≡ 0
    at_free slot q past = ap (λ (l : Layout). at_cell l q) (layout_is rows heads slot) ∙ ap (λ (h : Head). at_cell (layout_by (kept_entry rows) h) q) (get_or_past heads slot Free past)
