-- What the table of files puts carries out an intention: the page of a head or of a map page, or one and then the other.
use Rattle.jn_intent.proofs.Common.{◌≡◌, ◌≢◌, ◌⊎◌, inl, inr, ⊎_elim, ◌<◌, ◌≤◌, ◌+◌, ◌-◌, ◌/◌, ◌%◌, ℕ, zero, suc, Bool, true, false, not, ◌&&◌, ◌||◌, if◌then◌else◌, List, [], ◌∷◌, length, Option, Some, None, replicate, refl, sym, ◌∙◌, ap, subst, true≢false, arith, cases_eq, cases_lt, false_from_ne_true, passes_at, nat_tests, get_or-set_same, get_or-set_other, length-set, length-map, nat_eq, nat_lt, nat_le, is_some, slice_set, slice_index, slice_index_or, find, list_all, FileNo, file_eq, file_tells, created, removed, cut_from, TableView, IsTable, IsHeadOf, head_in, is_of, exists, fresh_head, cut_head, cut_addresses, cut_map, with_leaf, with_map, one_entry, row_at, layouts_in, SetsHead, CutsFile, CutsTwice, SetsBlock, BringsMap, PutsHead, MayBecome, MayBring, IsPlaceOf, IsChanged, with_promised_heads, serves_for, is_head_after, address_after, map_after, IsHeadPut, HeadPut, MapPut, IsMapRow, Head, FreeHead, Used, StoredIntention, What, Fresh, Gone, Cut, Put, intention_has_page, is_fresh, data_place, head_place, Counts, StoreView, StorePut, IsOnly, MayCarry, PutsOne, PutsWhole, PutsInTurn, KeepsMaps, Carries, without_promise, with_fresh_promise, is_gone, head_blocks, most_blocks, most_maps, Layout, Unused, Of, at_cell, layout_at, is_layout_of, map_cell, layout_by, layouts_by, kept_entry, head_map, maps_in, get-map, set-map, map-cell-is, none_at, none_any, cut_kept, cut_gone, range_of, IsMapStored, laid, through, with_row, with_entries, IsMapIn, IsRowChanged, is_in_range, names_map, laid-block, laid-entry, laid-map, map-put, head_page, map_page, all_within, within, file-at, own-file}
use Rattle.jn_records.specs.Heads.{is_free, has_page}
use Rattle.jn_intent.proofs.Naming.{page_of_put}
use Rattle.jn_intent.proofs.Cells.{cut_cell, cut_map_cell, leaf_cell, map_brought, with_map_cell, entry_cell, cut_entry_cell, zeros_at, is_range}

-- ---- heads and their layouts

pub layout_in_head : (rows : List (List ℕ)) (heads : List Head) (k : ℕ) → layout_at (layouts_by (kept_entry rows) heads) k ≡ layout_by (kept_entry rows) (head_in heads k)
layout_in_head rows heads k = get-map (layout_by (kept_entry rows)) heads k FreeHead

-- the file of a slot by its layout
pub own_layout : (t : TableView) (f : FileNo) (slot : ℕ) → is_layout_of f (layout_at (layouts_in t) slot) ≡ is_of f (head_in t.heads slot)
own_layout t f slot = file-at (kept_entry t.maps) f t.heads slot

-- and its map pages
pub own_map : (t : TableView) (slot j : ℕ) → j < most_maps → at_cell (layout_at (layouts_in t) slot) (map_cell j) ≡ head_map (head_in t.heads slot) j
own_map t slot j lt = ap (λ l. at_cell l (map_cell j)) (layout_in_head t.maps t.heads slot) ∙ map-cell-is (kept_entry t.maps) (head_in t.heads slot) j lt

pub used_head : (f : FileNo) (h : Head) → is_of f h ≡ true → (xs : List ℕ) × (ms : List ℕ) × (h ≡ Used f xs ms)
used_head f FreeHead e = absurd (true≢false (sym e))
used_head f (Used g xs ms) e = (xs, ms, ap (λ k. Used k xs ms) (let t = file_tells g f in grind (arith, e)))

lengths : (f : FileNo) (xs ms : List ℕ) → has_page (Used f xs ms) ≡ true → (length xs ≡ 120) × (length ms ≡ 20)
lengths f xs ms h = by (length xs) (length ms) h
  where
    by : (a b : ℕ) → (nat_eq a 120 && nat_eq b 20) ≡ true → (a ≡ 120) × (b ≡ 20)
    by a b h = (grind (arith, nat_tests, h), grind (arith, nat_tests, h))

list_within : (leaves : ℕ) (xs : List ℕ) (p : ℕ) → list_all (λ a. nat_le a leaves) xs ≡ true → slice_index xs p ≤ leaves
list_within leaves [] p all = omega arith
list_within leaves (x ∷ xs) zero all = grind (arith, nat_tests, all)
list_within leaves (x ∷ xs) (suc p) all = list_within leaves xs p (grind (arith, all))

map_below : (leaves : ℕ) (h : Head) (j d : ℕ) → within leaves h ≡ true → head_map h j ≡ suc d → d < leaves
map_below leaves FreeHead j d all e = absurd (omega (arith, e))
map_below leaves (Used f xs ms) j d all e = let le = list_within leaves ms j (second (all_within leaves xs) (all_within leaves ms) all) in omega (arith, le, e)
  where
    second : (a b : Bool) → (a && b) ≡ true → b ≡ true
    second a b h = grind (arith, h)

held_below : (held : List Bool) (a : ℕ) → slice_index_or held a false ≡ true → a < length held
held_below [] a h = absurd (true≢false (sym h))
held_below (x ∷ held) zero h = omega arith
held_below (x ∷ held) (suc a) h = let again = held_below held a h in omega (arith, again)

pub absent_none : (f : FileNo) (heads : List Head) → exists heads f ≡ false → (j : ℕ) → is_of f (head_in heads j) ≡ false
absent_none f heads e j = none_at (is_of f) FreeHead heads j refl (none_any (is_of f) heads (by (find (is_of f) heads) e))
  where
    by : (o : Option Head) → is_some o ≡ false → o ≡ None
    by None e = refl
    by (Some h) e = absurd (true≢false e)

pub row_changed : (rows : List (List ℕ)) (d : ℕ) (row : List ℕ) → d < length rows → IsRowChanged d (λ k. slice_index row k) (kept_entry rows) (kept_entry (slice_set rows d row))
row_changed rows d row lt = record {
  here = λ k. ap (λ (l : List ℕ). slice_index l k) (get_or-set_same rows d row [] lt);
  others = λ e k ne. ap (λ (l : List ℕ). slice_index l k) (get_or-set_other rows d e row [] ne);
}

-- ---- one put of a page

module _ (t : TableView) (v : StoreView) (ok : Bool) (u : TableView) (w : StoreView) where
  one_head : (slot : ℕ) → slot < t.counts.heads → (h : Head) → IsHeadOf t.counts.leaves h → StorePut v (head_place t.counts slot) (head_page h) ok w → (ok ≡ true → IsChanged t (slice_set t.heads slot h) t.maps u)
      → (ok ≡ false → u.counts ≡ t.counts) → KeepsMaps t v slot (HeadPut slot h) → PutsOne t v slot (layout_by (kept_entry t.maps) h) ok u w
  one_head slot below h is_head put done stopped maps = record {
    put = HeadPut slot h;
    page = λ server. (below, is_head.is_head, is_head.fits);
    step = λ server. put;
    lays = record { kind = tt; layouts = set-map (layout_by (kept_entry t.maps)) t.heads slot h };
    maps = maps;
    done = done;
    stopped = stopped;
  }

  module _ (is : IsTable t) where
    is_map_in : (slot j d : ℕ) → j < most_maps → head_map (head_in t.heads slot) j ≡ suc d → IsMapIn t.heads d slot j
    is_map_in slot j d below e = record {
      below = below;
      here = e;
      alone = λ i k lt h. let same = is.heads.addresses d i (map_cell k) slot (map_cell j) (own_map t i k lt ∙ h) (own_map t slot j below ∙ e) in (same.0, (let s = same.1 in omega (arith, s)));
    }

    pub data_below : (slot j d : ℕ) → head_map (head_in t.heads slot) j ≡ suc d → d < t.counts.leaves
    data_below slot j d e = map_below t.counts.leaves (head_in t.heads slot) j d (is.heads.each slot).is_head.within_leaves e

    one_map : (slot j d : ℕ) (row : List ℕ) → j < most_maps → head_map (head_in t.heads slot) j ≡ suc d → IsMapRow t.counts.leaves row → StorePut v (data_place t.counts d) (map_page row) ok w
        → (ok ≡ true → IsChanged t t.heads (slice_set t.maps d row) u) → (ok ≡ false → u.counts ≡ t.counts) → PutsOne t v slot (with_row j (λ k. slice_index row k) (layout_at (layouts_in t) slot)) ok u w
    one_map slot j d row below e is_row put done stopped = record {
      put = MapPut d row;
      page = λ server. (data_below slot j d e, is_row);
      step = λ server. put;
      lays = record {
        kind = (slot, j, below, e);
        layouts = map-put (kept_entry t.maps) (kept_entry (slice_set t.maps d row)) t.heads d slot j (λ k. slice_index row k)
            (row_changed t.maps d row (let count = is.heads.map_rows.count in let lt = data_below slot j d e in omega (arith, count, lt))) (is_map_in slot j d below e);
      };
      maps = tt;
      done = done;
      stopped = stopped;
    }

-- what a slot's layout becomes
record Becomes (i : StoredIntention) (old new : Layout) : Type 0 where
  pub serves : serves_for i.what i.file old ≡ true
  pub file_after : is_head_after i.what i.file new ≡ true
  pub addresses : (p : ℕ) → p < most_blocks → at_cell new p ≡ address_after i.what i.block.0 i.address p (at_cell old p)
  pub maps : (j : ℕ) → j < most_maps → at_cell new (map_cell j) ≡ map_after i.what i.block.0 i.map j (at_cell old (map_cell j))

is_head_put : (t : TableView) (i : StoredIntention) → IsTable t → intention_has_page i ≡ true → i.block.0 < most_blocks → (slot : ℕ) → slot < t.counts.heads → ((j : ℕ) → is_layout_of i.file (layout_at (layouts_in t) j) ≡ true → j ≡ slot)
    → (new : Layout) → Becomes i (layout_at (layouts_in t) slot) new → IsHeadPut (layouts_in t) i slot new
is_head_put t i is names range slot below only new b = record {
  there = let long = length-map t.heads (layout_by (kept_entry t.maps)) in let slots = is.slots in omega (arith, long, slots, below);
  names = names;
  range = range;
  only = only;
  serves = b.serves;
  file_after = b.file_after;
  addresses = b.addresses;
  maps = b.maps;
}

becomes_by : (t : TableView) (i : StoredIntention) (slot : ℕ) (new : Layout) → Becomes i (layout_by (kept_entry t.maps) (head_in t.heads slot)) new → Becomes i (layout_at (layouts_in t) slot) new
becomes_by t i slot new b = subst (λ l. Becomes i l new) (sym (layout_in_head t.maps t.heads slot)) b

only_slot : (t : TableView) (f : FileNo) (slot : ℕ) → IsTable t → is_of f (head_in t.heads slot) ≡ true → (j : ℕ) → is_layout_of f (layout_at (layouts_in t) j) ≡ true → j ≡ slot
only_slot t f slot is own j e = is.heads.files f j slot (sym (own_layout t f j) ∙ e) own

-- a layout of the file serves
own_serves : (w : What) (f : FileNo) (l : Layout) → is_layout_of f l ≡ true → serves_for w f l ≡ true
own_serves w f Unused e = absurd (true≢false (sym e))
own_serves Fresh f (Of g cells) e = e
own_serves Gone f (Of g cells) e = e
own_serves Cut f (Of g cells) e = e
own_serves Put f (Of g cells) e = e

file_stays : (w : What) (f : FileNo) (l : Layout) → is_gone w ≡ false → is_layout_of f l ≡ true → is_head_after w f l ≡ true
file_stays w f Unused n e = absurd (true≢false (sym e))
file_stays Fresh f (Of g cells) n e = e
file_stays Gone f (Of g cells) n e = absurd (true≢false n)
file_stays Cut f (Of g cells) n e = e
file_stays Put f (Of g cells) n e = e

row_keeps_file : (f : FileNo) (j : ℕ) (entries : ℕ → ℕ) (l : Layout) → is_layout_of f (with_row j entries l) ≡ is_layout_of f l
row_keeps_file f j entries Unused = refl
row_keeps_file f j entries (Of g cells) = refl

row_cells : (j : ℕ) (entries : ℕ → ℕ) (f : FileNo) (l : Layout) (q : ℕ) → is_layout_of f l ≡ true → at_cell (with_row j entries l) q ≡ with_entries j entries (at_cell l) q
row_cells j entries f Unused q e = absurd (true≢false (sym e))
row_cells j entries f (Of g cells) q e = refl

-- a head is put whole: it stands by the table that is given
head_stands : (leaves : ℕ) (heads : List Head) (slot : ℕ) (h : Head) → slot < length heads → IsHeadOf leaves (head_in (slice_set heads slot h) slot) → IsHeadOf leaves h
head_stands leaves heads slot h lt is = subst (IsHeadOf leaves) (get_or-set_same heads slot h FreeHead lt) is

-- ---- a table whose promise is given back

no_less : (n : ℕ) → n - 0 ≡ n
no_less n = omega arith

same_table : (t : TableView) (i : StoredIntention) → is_fresh i.what ≡ false → without_promise t i ≡ t
same_table t i e = ap (λ n. with_promised_heads t n) (ap (λ b. t.free_heads.promised - (if b && not (exists t.heads i.file) then 1 else 0)) e ∙ no_less t.free_heads.promised)

whole_by : (t : TableView) (v : StoreView) (i : StoredIntention) (ok : Bool) (u : TableView) (w : StoreView) → is_fresh i.what ≡ false → (slot : ℕ) (new : Layout) → PutsOne t v slot new ok u w → IsHeadPut (layouts_in t) i slot new → PutsWhole t v i ok u w
whole_by t v i ok u w e slot new one carries = record { slot = slot; new = new; one = subst (λ x. PutsOne x v slot new ok u w) (sym (same_table t i e)) one; carries = carries }

-- an intention that isn't a removal is never done already
puts_by : (t : TableView) (v : StoreView) (i : StoredIntention) (ok : Bool) (u : TableView) (w : StoreView) → is_gone i.what ≡ false → PutsWhole t v i ok u w ⊎ PutsInTurn t v i ok u w → Carries t v i ok u w
puts_by t v i ok u w e puts = record { puts = λ here. puts; nothing = λ none. absurd (true≢false (sym none ∙ ap (λ b. b && not (exists t.heads i.file)) e)) }

-- ---- fresh

zero_cells : (maps : ℕ → ℕ → ℕ) (q : ℕ) → q < most_blocks → laid maps (λ p. slice_index (replicate head_blocks 0) p) (λ j. slice_index (replicate most_maps 0) j) q ≡ 0
zero_cells maps q below = ⊎_elim
    (λ lt. laid-block maps (λ p. slice_index (replicate head_blocks 0) p) (λ j. slice_index (replicate most_maps 0) j) q lt ∙ zeros_at head_blocks q)
    (λ ge. laid-entry maps (λ p. slice_index (replicate head_blocks 0) p) (λ j. slice_index (replicate most_maps 0) j) q ge below ∙ ap (λ (a : ℕ). through maps a (q % 120)) (zeros_at most_maps (q / 120 - 1)))
    (cases_lt q head_blocks)

same_file : (f : FileNo) → file_eq f f ≡ true
same_file f = grind (arith, nat_tests)

module _ (t : TableView) (v : StoreView) (i : StoredIntention) (may : MayCarry t v i) (ok : Bool) (u : TableView) (w : StoreView) where
  pub carries_fresh : i.what ≡ Fresh → SetsHead (with_fresh_promise t i.file) v i.file (fresh_head i.file) (created i.file) ok u w → Carries t v i ok u w
  carries_fresh e s = puts_by t v i ok u w (ap is_gone e) (inl (record {
    slot = s.slot;
    new = layout_by (kept_entry t.maps) (fresh_head i.file);
    one = subst (λ x. PutsOne x v s.slot (layout_by (kept_entry t.maps) (fresh_head i.file)) ok u w) (sym promise)
        (one_head (with_fresh_promise t i.file) v ok u w s.slot s.below (fresh_head i.file) (head_stands t.counts.leaves t.heads s.slot (fresh_head i.file) there (s.puts.sound.each s.slot)) s.puts.put s.puts.done
        (λ stopped. ap (λ (x : TableView). x.counts) (s.puts.stopped stopped)) (λ j d lt h. absurd (let none = zeros_at most_maps j in omega (arith, none, h))));
    carries = is_head_put t i may.table may.names may.range s.slot s.below only (layout_by (kept_entry t.maps) (fresh_head i.file)) (becomes_by t i s.slot (layout_by (kept_entry t.maps) (fresh_head i.file)) (record {
      serves = subst (λ w. serves_for w i.file (layout_by (kept_entry t.maps) (head_in t.heads s.slot)) ≡ true) (sym e) serves;
      file_after = file_stays i.what i.file (layout_by (kept_entry t.maps) (fresh_head i.file)) (ap is_gone e) (same_file i.file);
      addresses = λ p lt. zero_cells (kept_entry t.maps) p lt ∙ sym (ap (λ w. address_after w i.block.0 i.address p (at_cell (layout_by (kept_entry t.maps) (head_in t.heads s.slot)) p)) e);
      maps = λ j lt. laid-map (kept_entry t.maps) (λ p. slice_index (replicate head_blocks 0) p) (λ j. slice_index (replicate most_maps 0) j) j lt ∙ zeros_at most_maps j
          ∙ sym (ap (λ w. map_after w i.block.0 i.map j (at_cell (layout_by (kept_entry t.maps) (head_in t.heads s.slot)) (map_cell j))) e);
    }));
  }))
    where
      there : s.slot < length t.heads
      there = let lt = s.below in let slots = may.table.slots in omega (arith, lt, slots)

      promise : without_promise t i ≡ with_fresh_promise t i.file
      promise = ap (λ w. with_promised_heads t (t.free_heads.promised - (if is_fresh w && not (exists t.heads i.file) then 1 else 0))) e

      only : (j : ℕ) → is_layout_of i.file (layout_at (layouts_in t) j) ≡ true → j ≡ s.slot
      only j h = ⊎_elim
          (λ own. only_slot t i.file s.slot may.table own j h)
          (λ other. absurd (true≢false (sym (sym (own_layout t i.file j) ∙ h) ∙ absent_none i.file t.heads other.0 j)))
          s.place

      serves : serves_for Fresh i.file (layout_by (kept_entry t.maps) (head_in t.heads s.slot)) ≡ true
      serves = ⊎_elim
          (λ own. own_serves Fresh i.file (layout_by (kept_entry t.maps) (head_in t.heads s.slot)) (own-file (kept_entry t.maps) i.file (head_in t.heads s.slot) ∙ own))
          (λ other. free (head_in t.heads s.slot) (sym (may.table.free_heads s.slot s.below) ∙ other.1.is_free_itself))
          s.place
        where
          free : (h : Head) → is_free h ≡ true → serves_for Fresh i.file (layout_by (kept_entry t.maps) h) ≡ true
          free FreeHead e = refl
          free (Used g xs ms) e = absurd (true≢false (sym e))

  -- ---- gone

  own_place : (slot : ℕ) → IsPlaceOf t i.file slot → exists t.heads i.file ≡ true → is_of i.file (head_in t.heads slot) ≡ true
  own_place slot place there = ⊎_elim (λ own. own) (λ other. absurd (true≢false (sym there ∙ other.0))) place

  pub carries_gone : i.what ≡ Gone → (exists t.heads i.file ≡ true → SetsHead t v i.file FreeHead (removed i.file) ok u w) → (exists t.heads i.file ≡ false → (ok ≡ true) × (u ≡ t) × (w ≡ v)) → Carries t v i ok u w
  carries_gone e sets absent = by (exists t.heads i.file) refl
    where
      by : (b : Bool) → exists t.heads i.file ≡ b → Carries t v i ok u w
      by true there =
          let s = sets there in
          let own = own_place s.slot s.place there in
          record {
            puts = λ here. inl (whole_by t v i ok u w (ap is_fresh e) s.slot Unused
                (one_head t v ok u w s.slot s.below FreeHead (record { is_head = record { whole = refl; within_leaves = refl }; fits = tt }) s.puts.put s.puts.done (λ stopped. ap (λ (x : TableView). x.counts) (s.puts.stopped stopped)) (λ j d lt h. absurd (omega (arith, h))))
                (is_head_put t i may.table may.names may.range s.slot s.below (only_slot t i.file s.slot may.table own) Unused (record {
                  serves = own_serves i.what i.file (layout_at (layouts_in t) s.slot) (own_layout t i.file s.slot ∙ own);
                  file_after = subst (λ w. is_head_after w i.file Unused ≡ true) (sym e) refl;
                  addresses = λ p lt. sym (ap (λ w. address_after w i.block.0 i.address p (at_cell (layout_at (layouts_in t) s.slot) p)) e);
                  maps = λ j lt. sym (ap (λ w. map_after w i.block.0 i.map j (at_cell (layout_at (layouts_in t) s.slot) (map_cell j))) e);
                })));
            nothing = λ none. absurd (true≢false (sym none ∙ ap (λ w. is_gone w && not (exists t.heads i.file)) e ∙ ap not there));
          }
      by false none = record { puts = λ here. absurd (true≢false (sym (ap (λ w. is_gone w && not (exists t.heads i.file)) e ∙ ap not none) ∙ here)); nothing = λ here. absent none }

-- ---- cuts

-- the put of a head that is cut, where no block from there on has its address in a map page that stays
module _ (t : TableView) (v : StoreView) (i : StoredIntention) (is : IsTable t) (names : intention_has_page i ≡ true) (range : i.block.0 < most_blocks) (e : i.what ≡ Cut) (ok : Bool) (u : TableView) (w : StoreView)
    (slot : ℕ) (below : slot < t.counts.heads) (own : is_of i.file (head_in t.heads slot) ≡ true) (puts : PutsHead t v slot (cut_head i.block.0 (head_in t.heads slot)) t.maps (λ leaves. cut_from i.file i.block) ok u w)
    (inside : (q : ℕ) → 120 ≤ q → q < most_blocks → i.block.0 ≤ q → q / 120 - 1 < (i.block.0 - 1) / 120 → at_cell (layout_at (layouts_in t) slot) q ≡ 0) where
  its : (xs : List ℕ) × (ms : List ℕ) × (head_in t.heads slot ≡ Used i.file xs ms)
  its = used_head i.file (head_in t.heads slot) own

  was : layout_at (layouts_in t) slot ≡ layout_by (kept_entry t.maps) (Used i.file its.0 its.1)
  was = layout_in_head t.maps t.heads slot ∙ ap (layout_by (kept_entry t.maps)) its.2

  keeps : (h : Head) (j d : ℕ) → head_map (cut_head i.block.0 h) j ≡ suc d → head_map h j ≡ suc d
  keeps FreeHead j d e = e
  keeps (Used f xs ms) j d e = ⊎_elim
      (λ lt. sym (cut_kept_at ms j lt) ∙ e)
      (λ le. absurd (let none = cut_gone_at ms j le in omega (arith, none, e)))
      (cases_lt j ((i.block.0 - 1) / 120))
    where
      cut_kept_at : (ms : List ℕ) (j : ℕ) → j < (i.block.0 - 1) / 120 → slice_index (cut_addresses ((i.block.0 - 1) / 120) ms) j ≡ slice_index ms j
      cut_kept_at ms j lt = cut_kept ((i.block.0 - 1) / 120) ms j lt

      cut_gone_at : (ms : List ℕ) (j : ℕ) → (i.block.0 - 1) / 120 ≤ j → slice_index (cut_addresses ((i.block.0 - 1) / 120) ms) j ≡ 0
      cut_gone_at ms j le = cut_gone ((i.block.0 - 1) / 120) ms j le

  becomes : Becomes i (layout_by (kept_entry t.maps) (Used i.file its.0 its.1)) (layout_by (kept_entry t.maps) (cut_head i.block.0 (Used i.file its.0 its.1)))
  becomes = record {
    serves = own_serves i.what i.file (layout_by (kept_entry t.maps) (Used i.file its.0 its.1)) (same_file i.file);
    file_after = file_stays i.what i.file (layout_by (kept_entry t.maps) (cut_head i.block.0 (Used i.file its.0 its.1))) (ap is_gone e) (same_file i.file);
    addresses = λ p lt. cut_cell (kept_entry t.maps) its.0 its.1 i.block.0 (λ q high low le part. sym (ap (λ l. at_cell l q) was) ∙ inside q high low le part) p lt
        ∙ sym (ap (λ w. address_after w i.block.0 i.address p (at_cell (layout_by (kept_entry t.maps) (Used i.file its.0 its.1)) p)) e);
    maps = λ j lt. cut_map_cell (kept_entry t.maps) its.0 its.1 i.block.0 j lt
        ∙ sym (ap (λ w. map_after w i.block.0 i.map j (at_cell (layout_by (kept_entry t.maps) (Used i.file its.0 its.1)) (map_cell j))) e);
  }

  cut_whole : PutsWhole t v i ok u w
  cut_whole = whole_by t v i ok u w (ap is_fresh e) slot (layout_by (kept_entry t.maps) (cut_head i.block.0 (head_in t.heads slot)))
      (one_head t v ok u w slot below (cut_head i.block.0 (head_in t.heads slot))
      (head_stands t.counts.leaves t.heads slot (cut_head i.block.0 (head_in t.heads slot)) (let slots = is.slots in omega (arith, below, slots)) (puts.sound.each slot)) puts.put puts.done
      (λ stopped. ap (λ (x : TableView). x.counts) (puts.stopped stopped)) (λ j d lt h. inl (keeps (head_in t.heads slot) j d h)))
      (is_head_put t i is names range slot below (only_slot t i.file slot is own) (layout_by (kept_entry t.maps) (cut_head i.block.0 (head_in t.heads slot)))
      (subst (λ l. Becomes i l (layout_by (kept_entry t.maps) (cut_head i.block.0 (head_in t.heads slot)))) (sym was)
      (subst (λ h. Becomes i (layout_by (kept_entry t.maps) (Used i.file its.0 its.1)) (layout_by (kept_entry t.maps) (cut_head i.block.0 h))) (sym its.2) becomes)))

-- a block in the map page that a cut falls inside of
same_range : (n q : ℕ) → 120 ≤ q → n ≤ q → q / 120 - 1 < (n - 1) / 120 → n / 120 ≡ q / 120
same_range n q high le part = omega arith

falls_inside : (n q : ℕ) → 120 ≤ q → n ≤ q → q / 120 - 1 < (n - 1) / 120 → (nat_lt n head_blocks || nat_eq (n % head_blocks) 0) ≡ false
falls_inside n q high le part =
    let far : 120 ≤ n = omega arith in let part_of : 0 < n % 120 = omega arith in
    let a : nat_lt n head_blocks ≡ false = grind (arith, nat_tests, far) in let b : nat_eq (n % head_blocks) 0 ≡ false = grind (arith, nat_tests, part_of) in grind (arith, a, b)

module _ (t : TableView) (v : StoreView) (i : StoredIntention) (may : MayCarry t v i) (ok : Bool) (u : TableView) (w : StoreView) where
  entry_at : (slot j d : ℕ) (f : FileNo) → is_of f (head_in t.heads slot) ≡ true → j < most_maps → head_map (head_in t.heads slot) j ≡ suc d → (q : ℕ) → q < most_blocks → is_in_range j q ≡ true
      → at_cell (layout_at (layouts_in t) slot) q ≡ slice_index (row_at t.maps d) (q % 120)
  entry_at slot j d f own lt e q below in_it =
      let its = used_head f (head_in t.heads slot) own in
      let high : 120 ≤ q = grind (arith, nat_tests, in_it) in
      let range : q / 120 - 1 ≡ j = grind (arith, nat_tests, in_it) in
      ap (λ l. at_cell l q) (layout_in_head t.maps t.heads slot ∙ ap (layout_by (kept_entry t.maps)) its.2)
      ∙ laid-entry (kept_entry t.maps) (λ p. slice_index its.0 p) (λ j. slice_index its.1 j) q high below
      ∙ ap (λ (a : ℕ). through (kept_entry t.maps) a (q % 120)) (ap (slice_index its.1) range ∙ ap (λ h. head_map h j) (sym its.2) ∙ e)

  none_at_range : (slot : ℕ) (f : FileNo) → is_of f (head_in t.heads slot) ≡ true → (q : ℕ) → 120 ≤ q → q < most_blocks → head_map (head_in t.heads slot) (q / 120 - 1) ≡ 0 → at_cell (layout_at (layouts_in t) slot) q ≡ 0
  none_at_range slot f own q high below e =
      let its = used_head f (head_in t.heads slot) own in
      ap (λ l. at_cell l q) (layout_in_head t.maps t.heads slot ∙ ap (layout_by (kept_entry t.maps)) its.2)
      ∙ laid-entry (kept_entry t.maps) (λ p. slice_index its.0 p) (λ j. slice_index its.1 j) q high below
      ∙ ap (λ (a : ℕ). through (kept_entry t.maps) a (q % 120)) (ap (λ h. head_map h (q / 120 - 1)) (sym its.2) ∙ e)

  map_row : (d : ℕ) (row : List ℕ) → d < t.counts.leaves → IsMapRow t.counts.leaves (row_at (slice_set t.maps d row) d) → IsMapRow t.counts.leaves row
  map_row d row lt is =
      subst (IsMapRow t.counts.leaves) (get_or-set_same t.maps d row [] (let count = may.table.heads.map_rows.count in omega (arith, count, lt))) is

  pub carries_cut : i.what ≡ Cut → CutsFile t v i.file i.block ok u w → Carries t v i ok u w
  carries_cut e c = puts_by t v i ok u w (ap is_gone e) (by (cut_map i.block.0 (head_in t.heads c.slot)) refl)
    where
      n : ℕ
      n = i.block.0

      by : (k : ℕ) → cut_map i.block.0 (head_in t.heads c.slot) ≡ k → PutsWhole t v i ok u w ⊎ PutsInTurn t v i ok u w
      by zero none = inl (cut_whole t v i may.table may.names may.range e ok u w c.slot c.below c.own (c.at_once none)
          (λ q high low le part. none_at_range c.slot i.file c.own q high low (
          ap (λ (k : ℕ). head_map (head_in t.heads c.slot) (k - 1)) (sym (same_range i.block.0 q high le part))
          ∙ sym (ap (λ b. if b then 0 else head_map (head_in t.heads c.slot) (range_of i.block.0)) (falls_inside i.block.0 q high le part)) ∙ none)))
      by (suc d) some = inr (record {
        table = two.table;
        store = two.store;
        ready = two.ready;
        first = inl (record {
          slot = c.slot;
          new = with_row (range_of i.block.0) (λ k. slice_index row k) (layout_at (layouts_in t) c.slot);
          range = range_of i.block.0;
          one = one_map t v two.ready two.table two.store may.table c.slot (range_of i.block.0) d row below its_map is_row two.inside.put two.inside.done (λ stopped. ap (λ (x : TableView). x.counts) (two.inside.stopped stopped));
          part = record {
            cuts = e;
            part = record {
              only = only_slot t i.file c.slot may.table c.own;
              serves = own;
              file_after = row_keeps_file i.file (range_of i.block.0) (λ k. slice_index row k) (layout_at (layouts_in t) c.slot) ∙ own;
              cells = λ q lt. row_cells (range_of i.block.0) (λ k. slice_index row k) i.file (layout_at (layouts_in t) c.slot) q own
                  ∙ cut_entry_cell (range_of i.block.0) (row_at t.maps d) (at_cell (layout_at (layouts_in t) c.slot)) (λ q lt in_it. entry_at c.slot (range_of i.block.0) d i.file c.own below its_map q lt in_it) i.block.0 in_range q lt;
            };
            maps = λ k lt. row_cells (range_of i.block.0) (λ k. slice_index row k) i.file (layout_at (layouts_in t) c.slot) (map_cell k) own
                ∙ with_map_cell (range_of i.block.0) (λ k. slice_index row k) (at_cell (layout_at (layouts_in t) c.slot)) k;
          };
        });
        whole = λ ready. second ready;
        stopped = two.stopped;
      })
        where
          two : CutsTwice t v i.file i.block c.slot d ok u w
          two = c.in_two d some

          row : List ℕ
          row = cut_addresses (i.block.0 % head_blocks) (row_at t.maps d)

          parts : (b : Bool) → (nat_lt i.block.0 head_blocks || nat_eq (i.block.0 % head_blocks) 0) ≡ b → (if b then 0 else head_map (head_in t.heads c.slot) (range_of i.block.0)) ≡ suc d
              → ((nat_lt i.block.0 head_blocks || nat_eq (i.block.0 % head_blocks) 0) ≡ false) × (head_map (head_in t.heads c.slot) (range_of i.block.0) ≡ suc d)
          parts true b h = absurd (omega (arith, h))
          parts false b h = (b, h)

          its : ((nat_lt i.block.0 head_blocks || nat_eq (i.block.0 % head_blocks) 0) ≡ false) × (head_map (head_in t.heads c.slot) (range_of i.block.0) ≡ suc d)
          its = parts (nat_lt i.block.0 head_blocks || nat_eq (i.block.0 % head_blocks) 0) refl some

          its_map : head_map (head_in t.heads c.slot) (range_of i.block.0) ≡ suc d
          its_map = its.1

          far : 120 ≤ i.block.0
          far = high (nat_lt i.block.0 120) (nat_eq (i.block.0 % 120) 0) refl its.0
            where
              high : (a b : Bool) → nat_lt i.block.0 120 ≡ a → (a || b) ≡ false → 120 ≤ i.block.0
              high true b x h = absurd (true≢false h)
              high false b x h = grind (arith, nat_tests, x)

          in_range : i.block.0 / 120 ≡ range_of i.block.0 + 1
          in_range = let h = far in omega (arith, h)

          below : range_of i.block.0 < most_maps
          below = let lt = may.range in omega (arith, lt)

          own : is_layout_of i.file (layout_at (layouts_in t) c.slot) ≡ true
          own = own_layout t i.file c.slot ∙ c.own

          its_leaf : d < t.counts.leaves
          its_leaf = data_below t v ok u w may.table c.slot (range_of i.block.0) d its_map

          is_row : IsMapRow t.counts.leaves (cut_addresses (i.block.0 % head_blocks) (row_at t.maps d))
          is_row = map_row d (cut_addresses (i.block.0 % head_blocks) (row_at t.maps d)) its_leaf (two.inside.sound.map_rows.each d its_leaf)

          second : two.ready ≡ true → PutsWhole two.table two.store i ok u w
          second ready =
              let changed = two.inside.done ready in
              let same_head : head_in two.table.heads c.slot ≡ head_in t.heads c.slot = ap (λ hs. head_in hs c.slot) changed.heads in
              cut_whole two.table two.store i changed.table may.names may.range e ok u w c.slot (subst (λ (g : Counts). c.slot < g.heads) (sym changed.counts) c.below)
              (ap (is_of i.file) same_head ∙ c.own) (subst (λ h. PutsHead two.table two.store c.slot (cut_head i.block.0 h) two.table.maps (λ leaves. cut_from i.file i.block) ok u w) (sym same_head) (two.whole ready))
              (λ q high low le part. gone changed q high low le part)
            where
              gone : IsChanged t t.heads (slice_set t.maps d (cut_addresses (i.block.0 % head_blocks) (row_at t.maps d))) two.table → (q : ℕ) → 120 ≤ q → q < most_blocks → i.block.0 ≤ q → q / 120 - 1 < (i.block.0 - 1) / 120
                  → at_cell (layout_at (layouts_in two.table) c.slot) q ≡ 0
              gone changed q high low le part =
                  let used = used_head i.file (head_in t.heads c.slot) c.own in
                  let ranges = same_range i.block.0 q high le part in
                  let its_range : q / 120 - 1 ≡ range_of i.block.0 = ap (λ (k : ℕ). k - 1) (sym ranges) in
                  let past : i.block.0 % 120 ≤ q % 120 = omega (arith, ranges, le) in
                  ap (λ l. at_cell l q) (layout_in_head two.table.maps two.table.heads c.slot ∙ (λ k. layout_by (kept_entry (changed.maps k)) (head_in (changed.heads k) c.slot))
                  ∙ ap (layout_by (kept_entry (slice_set t.maps d (cut_addresses (i.block.0 % head_blocks) (row_at t.maps d))))) used.2)
                  ∙ laid-entry (kept_entry (slice_set t.maps d (cut_addresses (i.block.0 % head_blocks) (row_at t.maps d)))) (λ p. slice_index used.0 p) (λ j. slice_index used.1 j) q high low
                  ∙ ap (λ (a : ℕ). through (kept_entry (slice_set t.maps d (cut_addresses (i.block.0 % head_blocks) (row_at t.maps d)))) a (q % 120)) (ap (slice_index used.1) its_range ∙ ap (λ h. head_map h (range_of i.block.0)) (sym used.2) ∙ its_map)
                  ∙ ap (λ (l : List ℕ). slice_index l (q % 120)) (get_or-set_same t.maps d (cut_addresses (i.block.0 % head_blocks) (row_at t.maps d)) [] (let count = may.table.heads.map_rows.count in let lt = its_leaf in omega (arith, count, lt)))
                  ∙ cut_gone (i.block.0 % head_blocks) (row_at t.maps d) (q % 120) past

-- ---- puts

all_zero : (leaves n : ℕ) → list_all (λ a. nat_le a leaves) (replicate n 0) ≡ true
all_zero leaves zero = refl
all_zero leaves (suc n) = let rest = all_zero leaves n in let small : nat_le 0 leaves ≡ true = grind (arith, nat_tests) in grind (arith, rest, small)

set_within : (p a leaves : ℕ) (xs : List ℕ) → a < leaves → list_all (λ x. nat_le x leaves) xs ≡ true → list_all (λ x. nat_le x leaves) (slice_set xs p (suc a)) ≡ true
set_within p a leaves [] lt all = refl
set_within zero a leaves (x ∷ xs) lt all = let small : nat_le (suc a) leaves ≡ true = grind (arith, nat_tests, lt) in grind (arith, small, all)
set_within (suc p) a leaves (x ∷ xs) lt all = let rest = set_within p a leaves xs lt (grind (arith, all)) in grind (arith, rest, all)

module _ (t : TableView) (v : StoreView) (i : StoredIntention) (may : MayCarry t v i) (ok : Bool) (u : TableView) (w : StoreView) (e : i.what ≡ Put) (a : ℕ) (at : i.address ≡ suc a) where
  put_cell : (q old : ℕ) → address_after i.what i.block.0 i.address q old ≡ (if nat_eq i.block.0 q then suc a else old)
  put_cell q old = ap (λ w. address_after w i.block.0 i.address q old) e ∙ ap (λ (k : ℕ). if nat_eq i.block.0 q then k else old) at

  -- a map page that is there stays
  map_stays : (j old : ℕ) → (is_in_range j i.block.0 ≡ true → old ≢ 0) → map_after i.what i.block.0 i.map j old ≡ old
  map_stays j old there = ap (λ w. map_after w i.block.0 i.map j old) e ∙ by (is_in_range j i.block.0) refl
    where
      by : (b : Bool) → is_in_range j i.block.0 ≡ b → (if b && nat_eq old 0 then i.map else old) ≡ old
      by false h = refl
      by true h = ap (λ b. if b then i.map else old) (no (there h))
        where
          no : old ≢ 0 → nat_eq old 0 ≡ false
          no ne = grind (arith, nat_tests, ne)

  leaf_below : MayBecome t v i.file i.block.0 a → a < t.counts.leaves
  leaf_below m = let lt = held_below t.held a m.held in let n = may.table.leaves in omega (arith, lt, n)

  module _ (s : SetsBlock t v i.file i.block a i.map ok u w) where
    used : (xs : List ℕ) × (ms : List ℕ) × (head_in t.heads s.slot ≡ Used i.file xs ms)
    used = used_head i.file (head_in t.heads s.slot) s.own

    long : (length used.0 ≡ 120) × (length used.1 ≡ 20)
    long = lengths i.file used.0 used.1 (subst (λ h. has_page h ≡ true) used.2 (may.table.heads.each s.slot).is_head.whole)

    stood : layout_at (layouts_in t) s.slot ≡ layout_by (kept_entry t.maps) (Used i.file used.0 used.1)
    stood = layout_in_head t.maps t.heads s.slot ∙ ap (layout_by (kept_entry t.maps)) used.2

    own : is_layout_of i.file (layout_at (layouts_in t) s.slot) ≡ true
    own = own_layout t i.file s.slot ∙ s.own

    -- in the head
    in_head : i.block.0 < head_blocks → PutsWhole t v i ok u w
    in_head low =
        let puts = s.in_head low in
        whole_by t v i ok u w (ap is_fresh e) s.slot (layout_by (kept_entry t.maps) (with_leaf i.block.0 a (head_in t.heads s.slot)))
        (one_head t v ok u w s.slot s.below (with_leaf i.block.0 a (head_in t.heads s.slot))
        (head_stands t.counts.leaves t.heads s.slot (with_leaf i.block.0 a (head_in t.heads s.slot)) (let lt = s.below in let slots = may.table.slots in omega (arith, lt, slots)) (puts.sound.each s.slot)) puts.put puts.done
        (λ stopped. ap (λ (x : TableView). x.counts) (puts.stopped stopped)) (λ j d lt h. inl (same_maps (head_in t.heads s.slot) j d h)))
        (is_head_put t i may.table may.names may.range s.slot s.below (only_slot t i.file s.slot may.table s.own) (layout_by (kept_entry t.maps) (with_leaf i.block.0 a (head_in t.heads s.slot)))
        (subst (λ l. Becomes i l (layout_by (kept_entry t.maps) (with_leaf i.block.0 a (head_in t.heads s.slot)))) (sym stood)
        (subst (λ h. Becomes i (layout_by (kept_entry t.maps) (Used i.file used.0 used.1)) (layout_by (kept_entry t.maps) (with_leaf i.block.0 a h))) (sym used.2) (record {
          serves = own_serves i.what i.file (layout_by (kept_entry t.maps) (Used i.file used.0 used.1)) (same_file i.file);
          file_after = file_stays i.what i.file (layout_by (kept_entry t.maps) (with_leaf i.block.0 a (Used i.file used.0 used.1))) (ap is_gone e) (same_file i.file);
          addresses = λ q lt. leaf_cell (kept_entry t.maps) used.0 used.1 i.block.0 (suc a) low (let n = long.0 in omega (arith, n, low)) q lt ∙ sym (put_cell q (at_cell (layout_by (kept_entry t.maps) (Used i.file used.0 used.1)) q));
          maps = λ j lt. laid-map (kept_entry t.maps) (λ k. slice_index (slice_set used.0 i.block.0 (suc a)) k) (λ j. slice_index used.1 j) j lt ∙ sym (laid-map (kept_entry t.maps) (λ k. slice_index used.0 k) (λ j. slice_index used.1 j) j lt)
              ∙ sym (map_stays j (at_cell (layout_by (kept_entry t.maps) (Used i.file used.0 used.1)) (map_cell j)) (λ h. absurd (let range : 120 ≤ i.block.0 = grind (arith, nat_tests, h) in omega (arith, range, low))));
        }))))
      where
        same_maps : (h : Head) (j d : ℕ) → head_map (with_leaf i.block.0 a h) j ≡ suc d → head_map h j ≡ suc d
        same_maps FreeHead j d h = h
        same_maps (Used f xs ms) j d h = h

    module _ (high : head_blocks ≤ i.block.0) where
      below : range_of i.block.0 < most_maps
      below = let lt = may.range in omega (arith, lt)

      in_range : i.block.0 / 120 ≡ range_of i.block.0 + 1
      in_range = omega (arith, high)

      -- in the map page that is there
      in_map : (d : ℕ) → head_map (head_in t.heads s.slot) (range_of i.block.0) ≡ suc d → PutsWhole t v i ok u w
      in_map d some =
          let puts = s.in_map high d some in
          let lt = data_below t v ok u w may.table s.slot (range_of i.block.0) d some in
          whole_by t v i ok u w (ap is_fresh e) s.slot (with_row (range_of i.block.0) (λ k. slice_index (slice_set (row_at t.maps d) (i.block.0 % head_blocks) (suc a)) k) (layout_at (layouts_in t) s.slot))
          (one_map t v ok u w may.table s.slot (range_of i.block.0) d (slice_set (row_at t.maps d) (i.block.0 % head_blocks) (suc a)) below some
          (map_row t v i may ok u w d (slice_set (row_at t.maps d) (i.block.0 % head_blocks) (suc a)) lt (puts.sound.map_rows.each d lt)) puts.put puts.done (λ stopped. ap (λ (x : TableView). x.counts) (puts.stopped stopped)))
          (is_head_put t i may.table may.names may.range s.slot s.below (only_slot t i.file s.slot may.table s.own) (with_row (range_of i.block.0) (λ k. slice_index (slice_set (row_at t.maps d) (i.block.0 % head_blocks) (suc a)) k) (layout_at (layouts_in t) s.slot)) (record {
            serves = own_serves i.what i.file (layout_at (layouts_in t) s.slot) own;
            file_after = file_stays i.what i.file (with_row (range_of i.block.0) (λ k. slice_index (slice_set (row_at t.maps d) (i.block.0 % head_blocks) (suc a)) k) (layout_at (layouts_in t) s.slot)) (ap is_gone e)
                (row_keeps_file i.file (range_of i.block.0) (λ k. slice_index (slice_set (row_at t.maps d) (i.block.0 % head_blocks) (suc a)) k) (layout_at (layouts_in t) s.slot) ∙ own);
            addresses = λ q q_lt. row_cells (range_of i.block.0) (λ k. slice_index (slice_set (row_at t.maps d) (i.block.0 % head_blocks) (suc a)) k) i.file (layout_at (layouts_in t) s.slot) q own
                ∙ entry_cell (range_of i.block.0) (row_at t.maps d) (at_cell (layout_at (layouts_in t) s.slot)) (λ q q_lt in_it. entry_at t v i may ok u w s.slot (range_of i.block.0) d i.file s.own below some q q_lt in_it) i.block.0 (suc a) in_range
                (may.table.heads.map_rows.each d lt).count q q_lt
                ∙ sym (put_cell q (at_cell (layout_at (layouts_in t) s.slot) q));
            maps = λ j j_lt. row_cells (range_of i.block.0) (λ k. slice_index (slice_set (row_at t.maps d) (i.block.0 % head_blocks) (suc a)) k) i.file (layout_at (layouts_in t) s.slot) (map_cell j) own
                ∙ with_map_cell (range_of i.block.0) (λ k. slice_index (slice_set (row_at t.maps d) (i.block.0 % head_blocks) (suc a)) k) (at_cell (layout_at (layouts_in t) s.slot)) j
                ∙ sym (map_stays j (at_cell (layout_at (layouts_in t) s.slot) (map_cell j)) (λ h none.
                let same : j ≡ range_of i.block.0 = (let r : i.block.0 / 120 ≡ j + 1 = grind (arith, nat_tests, h) in omega (arith, r)) in
                let stands = own_map t s.slot (range_of i.block.0) below ∙ some in
                let here = ap (λ (k : ℕ). at_cell (layout_at (layouts_in t) s.slot) (map_cell k)) same in omega (arith, stands, here, none)));
          }))

      -- or with a new one
      module _ (none : head_map (head_in t.heads s.slot) (range_of i.block.0) ≡ 0) (leaf : MayBecome t v i.file i.block.0 a) (bring : MayBring t i.file i.block.0 a i.map) where
        abbrev two : BringsMap t v i.file i.block a s.slot bring.page ok u w
        two = s.with_new high none bring.page bring.is

        abbrev between : TableView
        between = if two.ready then record t { maps = slice_set t.maps bring.page (one_entry (i.block.0 % head_blocks) a) } else t

        page_below : bring.page < t.counts.leaves
        page_below = let lt = held_below t.held bring.page bring.held in let n = may.table.leaves in omega (arith, lt, n)

        is_row : IsMapRow t.counts.leaves (one_entry (i.block.0 % head_blocks) a)
        is_row = record { count = length-set (replicate head_blocks 0) (i.block.0 % head_blocks) (suc a); within_leaves = set_within (i.block.0 % head_blocks) a t.counts.leaves (replicate head_blocks 0) (leaf_below leaf) (all_zero t.counts.leaves head_blocks) }

        nowhere : (slot q : ℕ) → at_cell (layout_at (layouts_in t) slot) q ≡ suc bring.page → ⊥
        nowhere slot q h =
            let it = bring.elsewhere slot q h in
            let same = may.table.heads.files i.file slot s.slot it.0 s.own in
            let stands : at_cell (layout_at (layouts_in t) s.slot) (map_cell (range_of i.block.0)) ≡ suc bring.page = (λ k. at_cell (layout_at (layouts_in t) (sym same k)) (sym it.1 k)) ∙ h in
            let absent = own_map t s.slot (range_of i.block.0) below ∙ none in omega (arith, stands, absent)

        abbrev rows : List (List ℕ)
        rows = slice_set t.maps bring.page (one_entry (i.block.0 % head_blocks) a)

        abbrev new_head : Head
        new_head = with_map (range_of i.block.0) bring.page (head_in t.heads s.slot)

        its_row : row_at (slice_set t.maps bring.page (one_entry (i.block.0 % head_blocks) a)) bring.page ≡ one_entry (i.block.0 % head_blocks) a
        its_row = get_or-set_same t.maps bring.page (one_entry (i.block.0 % head_blocks) a) [] (let count = may.table.heads.map_rows.count in let lt = page_below in omega (arith, count, lt))

        abbrev now : TableView
        now = record t { maps = slice_set t.maps bring.page (one_entry (i.block.0 % head_blocks) a) }

        now_was : layout_at (layouts_in now) s.slot ≡ layout_by (kept_entry rows) (Used i.file used.0 used.1)
        now_was = layout_in_head rows t.heads s.slot ∙ ap (layout_by (kept_entry rows)) used.2

        brings_it : Becomes i (layout_by (kept_entry rows) (Used i.file used.0 used.1)) (layout_by (kept_entry rows) (with_map (range_of i.block.0) bring.page (Used i.file used.0 used.1)))
        brings_it = record {
          serves = own_serves i.what i.file (layout_by (kept_entry rows) (Used i.file used.0 used.1)) (same_file i.file);
          file_after = file_stays i.what i.file (layout_by (kept_entry rows) (with_map (range_of i.block.0) bring.page (Used i.file used.0 used.1))) (ap is_gone e) (same_file i.file);
          addresses = λ q lt. map_brought (kept_entry rows) used.0 used.1 i.block.0 (suc a) bring.page high may.range (ap (λ h. head_map h (range_of i.block.0)) (sym used.2) ∙ none) (let n = long.1 in let b = below in omega (arith, n, b))
              (λ k. ap (λ (l : List ℕ). slice_index l k) its_row) q lt
              ∙ sym (put_cell q (at_cell (layout_by (kept_entry rows) (Used i.file used.0 used.1)) q));
          maps = λ j lt. laid-map (kept_entry rows) (λ k. slice_index used.0 k) (λ j. slice_index (slice_set used.1 (range_of i.block.0) (suc bring.page)) j) j lt ∙ ⊎_elim
              (λ same. ap (slice_index (slice_set used.1 (range_of i.block.0) (suc bring.page))) same
              ∙ get_or-set_same used.1 (range_of i.block.0) (suc bring.page) 0 (let n = long.1 in let b = below in omega (arith, n, b)) ∙ sym bring.is ∙ sym (brought j same lt))
              (λ ne. get_or-set_other used.1 (range_of i.block.0) j (suc bring.page) 0 ne ∙ sym (laid-map (kept_entry rows) (λ k. slice_index used.0 k) (λ j. slice_index used.1 j) j lt)
              ∙ sym (map_stays j (at_cell (layout_by (kept_entry rows) (Used i.file used.0 used.1)) (map_cell j)) (λ h. absurd (ne (let r : i.block.0 / 120 ≡ j + 1 = grind (arith, nat_tests, h) in omega (arith, r))))))
              (cases_eq j (range_of i.block.0));
        }
          where
            brought : (j : ℕ) → j ≡ range_of i.block.0 → j < most_maps → map_after i.what i.block.0 i.map j (at_cell (layout_by (kept_entry rows) (Used i.file used.0 used.1)) (map_cell j)) ≡ i.map
            brought j same lt =
                let old : at_cell (layout_by (kept_entry rows) (Used i.file used.0 used.1)) (map_cell j) ≡ 0 = laid-map (kept_entry rows) (λ k. slice_index used.0 k) (λ j. slice_index used.1 j) j lt ∙ ap (slice_index used.1) same ∙ ap (λ h. head_map h (range_of i.block.0)) (sym used.2) ∙ none in
                let in_it : is_in_range j i.block.0 ≡ true = is_range j i.block.0 (let r = in_range in omega (arith, r, same)) in
                ap (λ w. map_after w i.block.0 i.map j (at_cell (layout_by (kept_entry rows) (Used i.file used.0 used.1)) (map_cell j))) e
                ∙ ap (λ b. if b && nat_eq (at_cell (layout_by (kept_entry rows) (Used i.file used.0 used.1)) (map_cell j)) 0 then i.map else at_cell (layout_by (kept_entry rows) (Used i.file used.0 used.1)) (map_cell j)) in_it
                ∙ ap (λ (k : ℕ). if nat_eq k 0 then i.map else k) old

        stored : two.ready ≡ true → (j d : ℕ) → j < most_maps → head_map (with_map (range_of i.block.0) bring.page (Used i.file used.0 used.1)) j ≡ suc d
            → (head_map (Used i.file used.0 used.1) j ≡ suc d) ⊎ IsMapStored t.counts two.store d (row_at (slice_set t.maps bring.page (one_entry (i.block.0 % head_blocks) a)) d)
        stored ready j d lt h = ⊎_elim
            (λ same.
            let is : suc bring.page ≡ suc d = sym (get_or-set_same used.1 (range_of i.block.0) (suc bring.page) 0 (let n = long.1 in let b = below in omega (arith, n, b))) ∙ ap (slice_index (slice_set used.1 (range_of i.block.0) (suc bring.page))) (sym same) ∙ h in
            inr (subst (λ k. IsMapStored t.counts two.store k (row_at (slice_set t.maps bring.page (one_entry (i.block.0 % head_blocks) a)) k)) (omega (arith, is)) (record {
              below = page_below;
              whole = subst (IsMapRow t.counts.leaves) (sym its_row) is_row;
              only = subst (λ l. IsOnly two.store (data_place t.counts bring.page) (map_page l)) (sym its_row) (two.fills.put.done ready);
            })))
            (λ ne. inl (sym (get_or-set_other used.1 (range_of i.block.0) j (suc bring.page) 0 ne) ∙ h))
            (cases_eq j (range_of i.block.0))

        second : two.ready ≡ true → PutsWhole now two.store i ok u w
        second ready =
            let puts = two.head ready in
            whole_by now two.store i ok u w (ap is_fresh e) s.slot (layout_by (kept_entry rows) new_head)
            (one_head now two.store ok u w s.slot s.below new_head
            (head_stands t.counts.leaves t.heads s.slot new_head (let lt = s.below in let slots = may.table.slots in omega (arith, lt, slots)) (puts.sound.each s.slot)) puts.put
            (λ done. let c = puts.done done in record { counts = c.counts; heads = c.heads; maps = c.maps; held = c.held; touched = c.touched; promised_heads = c.promised_heads; promised_leaves = c.promised_leaves; table = c.table })
            (λ stopped. ap (λ (x : TableView). x.counts) (puts.stopped stopped)) (subst (λ h. (j d : ℕ) → j < most_maps → head_map (with_map (range_of i.block.0) bring.page h) j ≡ suc d → (head_map h j ≡ suc d) ⊎ IsMapStored t.counts two.store d (row_at rows d)) (sym used.2) (stored ready)))
            (is_head_put_now ready)
          where
            is_head_put_now : two.ready ≡ true → IsHeadPut (layouts_in now) i s.slot (layout_by (kept_entry rows) new_head)
            is_head_put_now ready = record {
              there = let long = length-map t.heads (layout_by (kept_entry rows)) in let lt = s.below in let slots = may.table.slots in omega (arith, long, slots, lt);
              names = may.names;
              range = may.range;
              only = λ j h. may.table.heads.files i.file j s.slot (sym (own_layout now i.file j) ∙ h) s.own;
              serves = its_becomes.serves;
              file_after = its_becomes.file_after;
              addresses = its_becomes.addresses;
              maps = its_becomes.maps;
            }
              where
                its_becomes : Becomes i (layout_at (layouts_in now) s.slot) (layout_by (kept_entry rows) new_head)
                its_becomes = subst (λ l. Becomes i l (layout_by (kept_entry rows) new_head)) (sym now_was)
                    (subst (λ h. Becomes i (layout_by (kept_entry rows) (Used i.file used.0 used.1)) (layout_by (kept_entry rows) (with_map (range_of i.block.0) bring.page h))) (sym used.2) brings_it)

        with_new : PutsInTurn t v i ok u w
        with_new = record {
          table = between;
          store = two.store;
          ready = two.ready;
          first = inr (record {
            page = bring.page;
            row = one_entry (i.block.0 % head_blocks) a;
            put_is = e;
            brings = bring.is;
            below = page_below;
            whole = is_row;
            unnamed = λ slot q h. nowhere slot q h;
            put = two.fills.put;
            done = λ ready. ap (λ b. if b then record t { maps = slice_set t.maps bring.page (one_entry (i.block.0 % head_blocks) a) } else t) ready;
            stopped = λ stopped. ap (λ b. if b then record t { maps = slice_set t.maps bring.page (one_entry (i.block.0 % head_blocks) a) } else t) stopped;
          });
          whole = λ ready. subst (λ x. PutsWhole x two.store i ok u w) (sym (ap (λ b. if b then record t { maps = slice_set t.maps bring.page (one_entry (i.block.0 % head_blocks) a) } else t) ready)) (second ready);
          stopped = λ stopped. let is = two.stopped stopped in (is.0, is.1 ∙ sym (ap (λ b. if b then record t { maps = slice_set t.maps bring.page (one_entry (i.block.0 % head_blocks) a) } else t) stopped), is.2);
        }

    pub carries_put : Carries t v i ok u w
    carries_put = puts_by t v i ok u w (ap is_gone e) (by (nat_lt i.block.0 120) refl)
      where
        leaf : MayBecome t v i.file i.block.0 a
        leaf = may.leaf a at

        absent : head_map (head_in t.heads s.slot) (range_of i.block.0) ≡ 0 → maps_in t.heads i.file (range_of i.block.0) ≡ false
        absent none = false_from_ne_true (maps_in t.heads i.file (range_of i.block.0)) (λ there.
            let at = passes_at (names_map i.file (range_of i.block.0)) FreeHead t.heads there in
            let own = parts (head_in t.heads at.0) at.1 in
            let slot = may.table.heads.files i.file at.0 s.slot own.0 s.own in
            let some = own.1 in let here = ap (λ k. head_map (head_in t.heads k) (range_of i.block.0)) slot in omega (arith, some, here, none))
          where
            parts : (h : Head) → names_map i.file (range_of i.block.0) h ≡ true → (is_of i.file h ≡ true) × (0 < head_map h (range_of i.block.0))
            parts FreeHead e = absurd (true≢false (sym e))
            parts (Used g xs ms) e = first (file_eq g i.file) (slice_index ms (range_of i.block.0)) e
              where
                first : (b : Bool) (k : ℕ) → (b && nat_lt 0 k) ≡ true → (b ≡ true) × (0 < k)
                first b k e = (grind (arith, e), (let t : nat_lt 0 k ≡ true = grind (arith, e) in grind (arith, nat_tests, t)))

        by : (b : Bool) → nat_lt i.block.0 120 ≡ b → PutsWhole t v i ok u w ⊎ PutsInTurn t v i ok u w
        by true low = inl (in_head (grind (arith, nat_tests, low)))
        by false far = there (head_map (head_in t.heads s.slot) (range_of i.block.0)) refl
          where
            high : head_blocks ≤ i.block.0
            high = grind (arith, nat_tests, far)

            there : (k : ℕ) → head_map (head_in t.heads s.slot) (range_of i.block.0) ≡ k → PutsWhole t v i ok u w ⊎ PutsInTurn t v i ok u w
            there zero none = inr (with_new high none leaf (may.map a at high (absent none)))
            there (suc d) some = inl (in_map high d some)

-- a put names a page
pub put_names : (t : TableView) (v : StoreView) (i : StoredIntention) → MayCarry t v i → i.what ≡ Put → i.address ≡ suc (i.address - 1)
put_names t v i may e = let named = page_of_put i.what i.block.0 i.address i.map may.names e in let at = named.1 in omega (arith, at)
