-- Data pages: one is filled, held, or let go.
use Rattle.jn_files.proofs.Common.{◌≡◌, ◌≢◌, inl, inr, ◌<◌, ℕ, suc, Bool, true, false, List, length, drop, replicate, refl, sym, ap, subst, ◌∙◌, arith, slice_set, slice_index_or, not, ◌&&◌, cases_eq, drop_at, get_or-set_same, get_or-set_other, length-set, FreeNumbers, count_of, is_free_number, with_free, most_maps, Head, head_page, map_page, at_cell, head_map, kept_entry, map_cell, Pages, head_place, data_place, files_of_pages, StoreView, StorePut, IsChoice, TableView, IsTable, AreHeads, IsUnnamed, head_in, row_at, layouts_of, layouts_in, layout_in, HoldsTable, leaf_page, leaves_in, files_in, HasPagesOfTable, Fills, FillsMap, with_touched, IsNamedPage, IsKeptTable, table_view}
use Rattle.jn_files.proofs.Lookup.{map_at_cell}
use Rattle.jn_files.proofs.Said.{files_said, same_leaves, says_choice, leaf_choice, files_first, named_below, map_below, same_leaf, same_only}
use Rattle.jn_files.proofs.Standing.{free_by, kept_by, unnamed_clear}

-- ---- filling

-- a page is put where no layout names a data page
module _ (t : TableView) (v : StoreView) (a : ℕ) (page : List ℕ) (ok : Bool) (w : StoreView) (put : StorePut v (data_place t.counts a) page ok w)
    (is : IsTable t) (below : a < t.counts.leaves) (unnamed : IsUnnamed (layouts_in t) a) (fits : HasPagesOfTable t v) where
  not_a : (slot q b : ℕ) → at_cell (layout_in t slot) q ≡ suc b → b ≢ a
  not_a slot q b e same = unnamed slot q (e ∙ ap suc same)

  not_map : (slot j d : ℕ) → j < most_maps → head_map (head_in t.heads slot) j ≡ suc d → d ≢ a
  not_map slot j d lt e = not_a slot (map_cell j) d (map_at_cell (kept_entry t.maps) t.heads slot j lt ∙ e)

  pub fill_holds : HoldsTable t v → HoldsTable t w
  fill_holds holds = record {
    stored = λ slot lt. same_only v w (head_place t.counts slot) (head_page (head_in t.heads slot))
        (put.others (head_place t.counts slot) (let s = is.slots in omega (arith, s, lt, fits)) (λ e. let s = is.slots in omega (arith, e, s, lt))) (holds.stored slot lt);
    maps = λ slot j d lt e. let low = map_below t.counts t.maps t.heads is.heads slot j d e in
        same_only v w (data_place t.counts d) (map_page (row_at t.maps d)) (put.others (data_place t.counts d) (omega (arith, low, fits)) (λ x. not_map slot j d lt e (omega (arith, x)))) (holds.maps slot j d lt e);
    leaves = λ slot p b lt e. let low = named_below t.counts t.maps t.heads is.heads slot p b e in
        same_leaf v w (data_place t.counts b) (put.others (data_place t.counts b) (omega (arith, low, fits)) (λ x. not_a slot p b e (omega (arith, x)))) (holds.leaves slot p b lt e);
  }

  pub fill_files : HoldsTable t v → (d : Pages) → IsChoice w d → files_of_pages t.counts d ≡ files_in t.counts v
  fill_files holds d choice =
      let after = fill_holds holds in
      let count = put.later.count ∙ fits in
      files_said t.counts t.maps t.heads d is.slots is.few_leaves is.heads (says_choice t.counts t.maps t.heads w is.slots is.few_leaves is.heads count after d choice)
      ∙ same_leaves t.maps t.heads (leaves_in t.counts d) (leaves_in t.counts v.first) (λ slot p b lt e.
      let low = named_below t.counts t.maps t.heads is.heads slot p b e in
      leaf_choice t.counts t.maps t.heads w is.slots is.few_leaves is.heads count after d b choice low (after.leaves slot p b lt e)
      ∙ (put.others (data_place t.counts b) (omega (arith, low, fits)) (λ x. not_a slot p b e (omega (arith, x)))).first)
      ∙ sym (files_first t.counts t.maps t.heads v is.slots is.few_leaves is.heads fits holds)

pub fills : (t : TableView) (v : StoreView) (a : ℕ) (block : List ℕ) (ok : Bool) (w : StoreView) (at : ℕ) (page : List ℕ) → at ≡ data_place t.counts a → page ≡ leaf_page block → StorePut v at page ok w
    → IsTable t → a < t.counts.leaves → IsUnnamed (layouts_in t) a → HasPagesOfTable t v → length block ≡ 448 → (u : TableView) → (ok ≡ true → u ≡ with_touched t a) → (ok ≡ false → u ≡ t) → Fills t v a block ok u w
fills t v a block ok w at page at_is page_is raw is below unnamed fits long u done stopped =
    let put : StorePut v (data_place t.counts a) (leaf_page block) ok w = subst (λ (k : ℕ). StorePut v k (leaf_page block) ok w) at_is (subst (λ (x : List ℕ). StorePut v at x ok w) page_is raw) in
    record {
      done = done;
      stopped = stopped;
      put = put;
      leaf = λ e. let only = put.done e in record { clean = only.first ∙ sym only.second; tail = ap (drop 448) only.first ∙ drop_at block (replicate 64 0) 448 long };
      holds = λ holds. fill_holds t v a (leaf_page block) ok w put is below unnamed fits holds;
      files = λ holds d choice. fill_files t v a (leaf_page block) ok w put is below unnamed fits holds d choice;
    }

pub fills_map : (t : TableView) (v : StoreView) (d : ℕ) (row : List ℕ) (ok : Bool) (w : StoreView) (at : ℕ) (page : List ℕ) → at ≡ data_place t.counts d → page ≡ map_page row → StorePut v at page ok w
    → IsTable t → d < t.counts.leaves → IsUnnamed (layouts_in t) d → HasPagesOfTable t v → FillsMap t v d row ok w
fills_map t v d row ok w at page at_is page_is raw is below unnamed fits =
    let put : StorePut v (data_place t.counts d) (map_page row) ok w = subst (λ (k : ℕ). StorePut v k (map_page row) ok w) at_is (subst (λ (x : List ℕ). StorePut v at x ok w) page_is raw) in
    record {
      put = put;
      holds = λ holds. fill_holds t v d (map_page row) ok w put is below unnamed fits holds;
      files = λ holds pages choice. fill_files t v d (map_page row) ok w put is below unnamed fits holds pages choice;
    }

-- ---- a data page is held, or isn't any more

-- another list of what is held is as long
pub held_view : (pool : ℕ) (heads : List Head) (rows : List (List ℕ)) (held touched : List Bool) (fh fl fl2 : FreeNumbers) (a : ℕ) (now : Bool)
    → table_view pool heads rows (slice_set held a now) touched fh fl2 ≡ record (table_view pool heads rows held touched fh fl) { held = slice_set held a now; free_leaves = fl2 }
held_view pool heads rows held touched fh fl fl2 a now =
    ap (λ (n : ℕ). let t : TableView = record { counts = record { pool = pool; heads = length heads; leaves = n }; heads = heads; maps = rows; held = slice_set held a now; touched = touched; free_heads = fh; free_leaves = fl2 } in t) (length-set held a now)

-- it is free where it is neither held nor named
module _ (pool : ℕ) (heads : List Head) (rows : List (List ℕ)) (held touched named : List Bool) (fh fl : FreeNumbers) (kept : IsKeptTable pool heads rows held touched named fh fl)
    (a : ℕ) (below : a < length held) where
  pub held_set : (now : Bool) (fl2 : FreeNumbers) → count_of fl2 ≡ count_of fl → ((b : ℕ) → b ≢ a → is_free_number fl2 b ≡ is_free_number fl b) → is_free_number fl2 a ≡ (not now && not (slice_index_or named a false))
      → IsKeptTable pool heads rows (slice_set held a now) touched named fh fl2
  held_set now fl2 count others here =
      let n : length (slice_set held a now) ≡ length held = length-set held a now in
      let table = kept.table in
      let few = table.few_leaves in
      let frees = free_by pool heads rows held touched named fh fl kept in
      kept_by pool heads rows (slice_set held a now) touched named fh fl2 (subst (λ (k : ℕ). AreHeads k rows heads) (sym n) table.heads) table.few_heads (omega (arith, n, few)) (table.touches ∙ sym n)
      table.head_count table.free_heads kept.names (record {
        names = kept.pages ∙ sym n;
        count = count ∙ frees.count ∙ sym n;
        each = λ b lt. elim (cases_eq b a) [
          | inl e ↦ rw e (here ∙ ap (λ (x : Bool). not x && not (slice_index_or named a false)) (sym (get_or-set_same held a now false below)))
          | inr ne ↦ others b ne ∙ frees.each b (omega (arith, lt, n)) ∙ ap (λ (x : Bool). not x && not (slice_index_or named b false)) (sym (get_or-set_other held a b now false ne))
        ];
      })

  pub holding : IsKeptTable pool heads rows (slice_set held a true) touched named fh (with_free fl a false)
  holding = held_set true (with_free fl a false) (length-set fl.flags a false) (λ b ne. get_or-set_other fl.flags a b false false ne)
      (get_or-set_same fl.flags a false false (let long = kept.table.leaf_count in omega (arith, long, below)))

  -- it stays named
  pub let_go_named : slice_index_or held a false ≡ true → IsNamedPage (layouts_of rows heads) a → IsKeptTable pool heads rows (slice_set held a false) touched named fh fl
  let_go_named was at = held_set false fl refl (λ b ne. refl)
      ((free_by pool heads rows held touched named fh fl kept).each a below ∙ ap (λ (x : Bool). not x && not (slice_index_or named a false)) was ∙ ap (λ (x : Bool). not x) (sym its_flag))
    where
      its_flag : slice_index_or named a false ≡ true
      its_flag = by (slice_index_or named a false) refl
        where
          by : (b : Bool) → slice_index_or named a false ≡ b → b ≡ true
          by true e = refl
          by false e = absurd (kept.names.clear a (let long = kept.pages in omega (arith, below, long)) e at.slot at.cell at.here)

  -- or it is free
  pub let_go_free : IsUnnamed (layouts_of rows heads) a → IsKeptTable pool heads rows (slice_set held a false) touched named fh (with_free fl a true)
  let_go_free unnamed = held_set false (with_free fl a true) (length-set fl.flags a true) (λ b ne. get_or-set_other fl.flags a b true false ne)
      (get_or-set_same fl.flags a true false (let long = kept.table.leaf_count in omega (arith, long, below))
      ∙ ap (λ (x : Bool). not x) (sym (unnamed_clear rows heads named kept.names a (let long = kept.pages in omega (arith, below, long)) unnamed)))
