-- A table after a put, as the code has it.
use Rattle.jn_files.proofs.Common.{◌≡◌, inl, inr, ◌<◌, ◌≤◌, ◌%◌, ℕ, suc, Bool, true, List, length, drop, refl, sym, ap, subst, ◌∙◌, arith, slice_index, slice_set, cases_eq, length-set, FreeNumbers, count_of, is_free_number, head_blocks, most_blocks, Head, Free, Used, Layout, at_cell, map_cell, kept_entry, layout_by, head_map, with_row, TableView, head_in, is_free, row_at, layout_in, with_leaf, with_map, one_entry, cut_addresses, range_of, IsChanged, AreFree, IsKeptTable, MayPutHead, MaySet, MaySetMap, table_view, head_address, unnamed_one, unnamed_all, unnamed_head}
use Rattle.jn_files.specs.Inside.{Counts}
use Rattle.jn_files.proofs.Between.{Marks, Nothing, One, Two, marks_nothing, marks_one, marks_two}
use Rattle.jn_files.proofs.Freeing.{Clears, clears_as, clears_one, clears_all, clears_nothing}
use Rattle.jn_files.proofs.Laying.{in_head}
use Rattle.jn_files.proofs.Lookup.{layout_is}
use Rattle.jn_files.proofs.Setting.{HeadGoes, clears_head}
use Rattle.jn_files.proofs.Standing.{head_at_slot, head_off_slot, kept_by, changed_to, heads_counted}
use Rattle.jn_files.proofs.Turning.{Turns, turns_sound, turns_named, turns_head, turns_leaf, turns_entry, turns_cut_row, turns_map, held_below, old_entry}

module _ (pool : ℕ) (heads : List Head) (maps : List (List ℕ)) (held touched named : List Bool) (fh fl : FreeNumbers) (is : IsKeptTable pool heads maps held touched named fh fl) where
  abbrev t : TableView
  t = table_view pool heads maps held touched fh fl

  -- ---- any put

  module _ (slot : ℕ) (new_heads : List Head) (rows : List (List ℕ)) (new : Layout) (comes : ℕ → ℕ → Type 0) (goes : ℕ → Type 0) (turns : Turns t slot new_heads rows new comes goes)
      (less named2 : List Bool) (fh2 fl2 : FreeNumbers) (clears : Clears goes named less) (marks : Marks comes less named2) (free : AreFree held named2 fl2)
      (head_count : count_of fh2 ≡ length new_heads) (free_heads : (k : ℕ) → k < length new_heads → is_free_number fh2 k ≡ is_free (head_in new_heads k)) where
    pub turned_kept : IsKeptTable pool new_heads rows held touched named2 fh2 fl2
    turned_kept = kept_by pool new_heads rows held touched named2 fh2 fl2 (turns_sound t slot new_heads rows new comes goes turns is.table) (let few = is.table.few_heads in let n = turns.slots in omega (arith, few, n)) is.table.few_leaves is.table.touches
        head_count free_heads (turns_named t slot new_heads rows new comes goes turns is.table named less named2 clears marks is.names) free

    pub turned_changed : fh2.promised ≡ fh.promised → fl2.promised ≡ fl.promised → IsChanged t new_heads rows (table_view pool new_heads rows held touched fh2 fl2)
    turned_changed heads_promised leaves_promised = changed_to pool heads new_heads maps rows held touched fh fl fh2 fl2 turns.slots heads_promised leaves_promised turned_kept.table

  -- the free heads where no slot comes or goes
  same_free : (slot : ℕ) (h : Head) → slot < length heads → is_free h ≡ is_free (head_in heads slot) → (k : ℕ) → k < length (slice_set heads slot h) → is_free_number fh k ≡ is_free (head_in (slice_set heads slot h) k)
  same_free slot h below same k lt = is.table.free_heads k (let n = length-set heads slot h in omega (arith, n, lt)) ∙ elim (cases_eq k slot) [
    | inl e ↦ ap (λ (j : ℕ). is_free (head_in heads j)) e ∙ sym same ∙ sym (ap is_free (head_at_slot heads slot h k below e))
    | inr ne ↦ ap is_free (sym (head_off_slot heads slot h k ne))
  ]

  same_count : (slot : ℕ) (h : Head) → count_of fh ≡ length (slice_set heads slot h)
  same_count slot h = is.table.head_count ∙ sym (length-set heads slot h)

  -- ---- a head

  module _ (slot : ℕ) (h : Head) (n : ℕ) (may : MayPutHead t slot h n) (named2 : List Bool) (fh2 fl2 : FreeNumbers) (old : Head) (old_is : old ≡ head_in heads slot) (flags : named2 ≡ unnamed_head maps n old named)
      (free : AreFree held named2 fl2) (b : Bool) (b_is : b ≡ is_free h) (counts : Counts fh slot b fh2) (after : List Head) (after_is : after ≡ slice_set heads slot h) where
    head_clears : Clears (HeadGoes maps n (head_in heads slot)) named named2
    head_clears = subst (λ (l : List Bool). Clears (HeadGoes maps n (head_in heads slot)) named l) (sym (flags ∙ ap (λ (x : Head). unnamed_head maps n x named) old_is)) (clears_head maps n (head_in heads slot) named)

    counted : (count_of fh2 ≡ length (slice_set heads slot h)) × ((k : ℕ) → k < length (slice_set heads slot h) → is_free_number fh2 k ≡ is_free (head_in (slice_set heads slot h) k))
    counted = heads_counted heads slot h fh fh2 may.below is.table.head_count is.table.free_heads (subst (λ (x : Bool). Counts fh slot x fh2) b_is counts)

    pub head_kept : IsKeptTable pool after maps held touched named2 fh2 fl2
    head_kept = subst (λ (l : List Head). IsKeptTable pool l maps held touched named2 fh2 fl2) (sym after_is)
        (turned_kept slot (slice_set heads slot h) maps (layout_by (kept_entry maps) h) Nothing (HeadGoes maps n (head_in heads slot)) (turns_head t is.table slot h n may) named2 named2 fh2 fl2 head_clears (marks_nothing named2) free counted.0 counted.1)

    pub head_changed : fl2.promised ≡ fl.promised → IsChanged t (slice_set heads slot h) maps (table_view pool after maps held touched fh2 fl2)
    head_changed promised = subst (λ (l : List Head). IsChanged t (slice_set heads slot h) maps (table_view pool l maps held touched fh2 fl2)) (sym after_is)
        (turned_changed slot (slice_set heads slot h) maps (layout_by (kept_entry maps) h) Nothing (HeadGoes maps n (head_in heads slot)) (turns_head t is.table slot h n may) named2 named2 fh2 fl2 head_clears (marks_nothing named2) free counted.0 counted.1
        counts.promised promised)

  -- ---- one of its first blocks

  leaf_free : (p a : ℕ) (h : Head) → is_free (with_leaf p a h) ≡ is_free h
  leaf_free p a Free = refl
  leaf_free p a (Used f xs ms) = refl

  first_cell : (m : ℕ → ℕ → ℕ) (h : Head) (p : ℕ) → p < head_blocks → at_cell (layout_by m h) p ≡ head_address h p
  first_cell m Free p lt = refl
  first_cell m (Used f xs ms) p lt = in_head m xs ms p lt

  -- the page that stood there has no name, and the one that comes has one
  set_clears : (old : ℕ → Type 0) (address a : ℕ) (named2 : List Bool) → ((b : ℕ) → address ≡ suc b → old b) → ((b : ℕ) → old b → address ≡ suc b) → Clears old named (unnamed_one address named)
  set_clears old address a named2 to from = clears_as (λ b. address ≡ suc b) old named (unnamed_one address named) to from (clears_one address named)

  set_marks : (p a address : ℕ) (named2 : List Bool) → a < length held → named2 ≡ slice_set (unnamed_one address named) a true → Marks (One p a) (unnamed_one address named) named2
  set_marks p a address named2 lt flags = subst (λ (l : List Bool). Marks (One p a) (unnamed_one address named) l) (sym flags)
      (marks_one p a (unnamed_one address named) (let same = (clears_one address named).count in let n = is.pages in omega arith))

  module _ (slot p a : ℕ) (block : p < head_blocks) (may : MaySet t slot p a) (h : Head) (h_is : h ≡ with_leaf p a (head_in heads slot)) (named2 : List Bool) (fl2 : FreeNumbers) (address : ℕ) (address_is : address ≡ head_address (head_in heads slot) p)
      (flags : named2 ≡ slice_set (unnamed_one address named) a true) (free : AreFree held named2 fl2) (after : List Head) (after_is : after ≡ slice_set heads slot h) where
    stood : address ≡ at_cell (layout_in t slot) p
    stood = address_is ∙ sym (first_cell (kept_entry maps) (head_in heads slot) p block) ∙ ap (λ (l : Layout). at_cell l p) (sym (layout_is (kept_entry maps) heads slot))

    leaf_clears : Clears (λ b. at_cell (layout_in t slot) p ≡ suc b) named (unnamed_one address named)
    leaf_clears = set_clears (λ b. at_cell (layout_in t slot) p ≡ suc b) address a named2 (λ b e. sym stood ∙ e) (λ b e. stood ∙ e)

    all_heads : after ≡ slice_set heads slot (with_leaf p a (head_in heads slot))
    all_heads = after_is ∙ ap (slice_set heads slot) h_is

    pub leaf_kept : IsKeptTable pool after maps held touched named2 fh fl2
    leaf_kept = subst (λ (l : List Head). IsKeptTable pool l maps held touched named2 fh fl2) (sym all_heads)
        (turned_kept slot (slice_set heads slot (with_leaf p a (head_in heads slot))) maps (layout_by (kept_entry maps) (with_leaf p a (head_in heads slot))) (One p a) (λ b. at_cell (layout_in t slot) p ≡ suc b) (turns_leaf t is.table slot p a block may)
        (unnamed_one address named) named2 fh fl2 leaf_clears (set_marks p a address named2 (held_below t is.table a may.held) flags) free (same_count slot (with_leaf p a (head_in heads slot)))
        (same_free slot (with_leaf p a (head_in heads slot)) may.below (leaf_free p a (head_in heads slot))))

    pub leaf_changed : fl2.promised ≡ fl.promised → IsChanged t (slice_set heads slot h) maps (table_view pool after maps held touched fh fl2)
    leaf_changed promised = subst (λ (x : Head). IsChanged t (slice_set heads slot x) maps (table_view pool after maps held touched fh fl2)) (sym h_is)
        (subst (λ (l : List Head). IsChanged t (slice_set heads slot (with_leaf p a (head_in heads slot))) maps (table_view pool l maps held touched fh fl2)) (sym all_heads)
        (turned_changed slot (slice_set heads slot (with_leaf p a (head_in heads slot))) maps (layout_by (kept_entry maps) (with_leaf p a (head_in heads slot))) (One p a) (λ b. at_cell (layout_in t slot) p ≡ suc b) (turns_leaf t is.table slot p a block may)
        (unnamed_one address named) named2 fh fl2 leaf_clears (set_marks p a address named2 (held_below t is.table a may.held) flags) free (same_count slot (with_leaf p a (head_in heads slot)))
        (same_free slot (with_leaf p a (head_in heads slot)) may.below (leaf_free p a (head_in heads slot))) refl promised))

  -- ---- a block in a map page

  module _ (slot p a d : ℕ) (high : head_blocks ≤ p) (low : p < most_blocks) (map_is : head_map (head_in heads slot) (range_of p) ≡ suc d) (may : MaySet t slot p a) (row : List ℕ) (row_is : row ≡ slice_set (row_at maps d) (p % head_blocks) (suc a))
      (named2 : List Bool) (fl2 : FreeNumbers) (address : ℕ) (address_is : address ≡ slice_index (row_at maps d) (p % head_blocks))
      (flags : named2 ≡ slice_set (unnamed_one address named) a true) (free : AreFree held named2 fl2) (after : List (List ℕ)) (after_is : after ≡ slice_set maps d row) where
    there_before : address ≡ at_cell (layout_in t slot) p
    there_before = address_is ∙ sym (old_entry t is.table slot p a d high low map_is may)

    entry_clears : Clears (λ b. at_cell (layout_in t slot) p ≡ suc b) named (unnamed_one address named)
    entry_clears = set_clears (λ b. at_cell (layout_in t slot) p ≡ suc b) address a named2 (λ b e. sym there_before ∙ e) (λ b e. there_before ∙ e)

    all_rows : after ≡ slice_set maps d (slice_set (row_at maps d) (p % head_blocks) (suc a))
    all_rows = after_is ∙ ap (slice_set maps d) row_is

    pub entry_kept : IsKeptTable pool heads after held touched named2 fh fl2
    entry_kept = subst (λ (l : List (List ℕ)). IsKeptTable pool heads l held touched named2 fh fl2) (sym all_rows)
        (turned_kept slot heads (slice_set maps d (slice_set (row_at maps d) (p % head_blocks) (suc a))) (with_row (range_of p) (λ k. slice_index (slice_set (row_at maps d) (p % head_blocks) (suc a)) k) (layout_in t slot)) (One p a)
        (λ b. at_cell (layout_in t slot) p ≡ suc b) (turns_entry t is.table slot p a d high low map_is may)
        (unnamed_one address named) named2 fh fl2 entry_clears (set_marks p a address named2 (held_below t is.table a may.held) flags) free is.table.head_count is.table.free_heads)

    pub entry_changed : fl2.promised ≡ fl.promised → IsChanged t heads (slice_set maps d row) (table_view pool heads after held touched fh fl2)
    entry_changed promised = subst (λ (x : List ℕ). IsChanged t heads (slice_set maps d x) (table_view pool heads after held touched fh fl2)) (sym row_is)
        (subst (λ (l : List (List ℕ)). IsChanged t heads (slice_set maps d (slice_set (row_at maps d) (p % head_blocks) (suc a))) (table_view pool heads l held touched fh fl2)) (sym all_rows)
        (turned_changed slot heads (slice_set maps d (slice_set (row_at maps d) (p % head_blocks) (suc a))) (with_row (range_of p) (λ k. slice_index (slice_set (row_at maps d) (p % head_blocks) (suc a)) k) (layout_in t slot)) (One p a)
        (λ b. at_cell (layout_in t slot) p ≡ suc b) (turns_entry t is.table slot p a d high low map_is may)
        (unnamed_one address named) named2 fh fl2 entry_clears (set_marks p a address named2 (held_below t is.table a may.held) flags) free is.table.head_count is.table.free_heads refl promised))

  -- ---- a map page without its blocks from n on

  module _ (slot n d : ℕ) (below : slot < length heads) (high : head_blocks ≤ n) (low : n < most_blocks) (map_is : head_map (head_in heads slot) (range_of n) ≡ suc d) (row : List ℕ) (row_is : row ≡ cut_addresses (n % head_blocks) (row_at maps d))
      (named2 : List Bool) (fl2 : FreeNumbers) (flags : named2 ≡ unnamed_all (drop (n % head_blocks) (row_at maps d)) named) (free : AreFree held named2 fl2) (after : List (List ℕ)) (after_is : after ≡ slice_set maps d row) where
    cut_clears : Clears (λ b. (k : ℕ) × (slice_index (drop (n % head_blocks) (row_at maps d)) k ≡ suc b)) named named2
    cut_clears = subst (λ (l : List Bool). Clears (λ b. (k : ℕ) × (slice_index (drop (n % head_blocks) (row_at maps d)) k ≡ suc b)) named l) (sym flags) (clears_all (drop (n % head_blocks) (row_at maps d)) named)

    rows_after : after ≡ slice_set maps d (cut_addresses (n % head_blocks) (row_at maps d))
    rows_after = after_is ∙ ap (slice_set maps d) row_is

    pub cut_row_kept : IsKeptTable pool heads after held touched named2 fh fl2
    cut_row_kept = subst (λ (l : List (List ℕ)). IsKeptTable pool heads l held touched named2 fh fl2) (sym rows_after)
        (turned_kept slot heads (slice_set maps d (cut_addresses (n % head_blocks) (row_at maps d))) (with_row (range_of n) (λ k. slice_index (cut_addresses (n % head_blocks) (row_at maps d)) k) (layout_in t slot)) Nothing
        (λ b. (k : ℕ) × (slice_index (drop (n % head_blocks) (row_at maps d)) k ≡ suc b)) (turns_cut_row t is.table slot n d below high low map_is)
        named2 named2 fh fl2 cut_clears (marks_nothing named2) free is.table.head_count is.table.free_heads)

    pub cut_row_changed : fl2.promised ≡ fl.promised → IsChanged t heads (slice_set maps d row) (table_view pool heads after held touched fh fl2)
    cut_row_changed promised = subst (λ (x : List ℕ). IsChanged t heads (slice_set maps d x) (table_view pool heads after held touched fh fl2)) (sym row_is)
        (subst (λ (l : List (List ℕ)). IsChanged t heads (slice_set maps d (cut_addresses (n % head_blocks) (row_at maps d))) (table_view pool heads l held touched fh fl2)) (sym rows_after)
        (turned_changed slot heads (slice_set maps d (cut_addresses (n % head_blocks) (row_at maps d))) (with_row (range_of n) (λ k. slice_index (cut_addresses (n % head_blocks) (row_at maps d)) k) (layout_in t slot)) Nothing
        (λ b. (k : ℕ) × (slice_index (drop (n % head_blocks) (row_at maps d)) k ≡ suc b)) (turns_cut_row t is.table slot n d below high low map_is)
        named2 named2 fh fl2 cut_clears (marks_nothing named2) free is.table.head_count is.table.free_heads refl promised))

  -- ---- a map page that comes with a block

  free_map : (j d : ℕ) (h : Head) → is_free (with_map j d h) ≡ is_free h
  free_map j d Free = refl
  free_map j d (Used f xs ms) = refl

  module _ (slot p a d : ℕ) (may : MaySetMap t slot p a d) (h : Head) (h_is : h ≡ with_map (range_of p) d (head_in heads slot)) (row : List ℕ) (row_is : row ≡ one_entry (p % head_blocks) a)
      (some named2 : List Bool) (flags : some ≡ slice_set named a true) (flags2 : named2 ≡ slice_set some d true) (free : AreFree held named2 fl)
      (after : List Head) (after_is : after ≡ slice_set heads slot h) (rows : List (List ℕ)) (rows_are : rows ≡ slice_set maps d row) where
    two_marks : Marks (Two p a (map_cell (range_of p)) d) named named2
    two_marks =
        let first_one : Marks (One p a) named some = subst (λ (l : List Bool). Marks (One p a) named l) (sym flags) (marks_one p a named (let lt = held_below t is.table a may.leaf.held in let n = is.pages in omega arith)) in
        let second_one : Marks (One (map_cell (range_of p)) d) some named2 = subst (λ (l : List Bool). Marks (One (map_cell (range_of p)) d) some l) (sym flags2)
        (marks_one (map_cell (range_of p)) d some (let lt = held_below t is.table d may.map.held in let n = is.pages in let m = first_one.count in omega arith)) in
        marks_two p a (map_cell (range_of p)) d named some named2 first_one second_one

    heads_after : after ≡ slice_set heads slot (with_map (range_of p) d (head_in heads slot))
    heads_after = after_is ∙ ap (slice_set heads slot) h_is

    rows_brought_are : rows ≡ slice_set maps d (one_entry (p % head_blocks) a)
    rows_brought_are = rows_are ∙ ap (slice_set maps d) row_is

    pub map_kept : IsKeptTable pool after rows held touched named2 fh fl
    map_kept = subst (λ (l : List Head). IsKeptTable pool l rows held touched named2 fh fl) (sym heads_after) (subst (λ (l : List (List ℕ)). IsKeptTable pool (slice_set heads slot (with_map (range_of p) d (head_in heads slot))) l held touched named2 fh fl) (sym rows_brought_are)
        (turned_kept slot (slice_set heads slot (with_map (range_of p) d (head_in heads slot))) (slice_set maps d (one_entry (p % head_blocks) a)) (layout_by (kept_entry (slice_set maps d (one_entry (p % head_blocks) a))) (with_map (range_of p) d (head_in heads slot)))
        (Two p a (map_cell (range_of p)) d) (λ b. ⊥) (turns_map t is.table slot p a d may) named named2 fh fl (clears_nothing (λ b. ⊥) named (λ b no_way. no_way)) two_marks free (same_count slot (with_map (range_of p) d (head_in heads slot)))
        (same_free slot (with_map (range_of p) d (head_in heads slot)) may.leaf.below (free_map (range_of p) d (head_in heads slot)))))

    pub map_changed : IsChanged t (slice_set heads slot h) (slice_set maps d row) (table_view pool after rows held touched fh fl)
    map_changed = subst (λ (x : List ℕ). IsChanged t (slice_set heads slot h) (slice_set maps d x) (table_view pool after rows held touched fh fl)) (sym row_is)
        (subst (λ (x : Head). IsChanged t (slice_set heads slot x) (slice_set maps d (one_entry (p % head_blocks) a)) (table_view pool after rows held touched fh fl)) (sym h_is)
        (subst (λ (l : List Head). IsChanged t (slice_set heads slot (with_map (range_of p) d (head_in heads slot))) (slice_set maps d (one_entry (p % head_blocks) a)) (table_view pool l rows held touched fh fl)) (sym heads_after)
        (subst (λ (l : List (List ℕ)). IsChanged t (slice_set heads slot (with_map (range_of p) d (head_in heads slot))) (slice_set maps d (one_entry (p % head_blocks) a)) (table_view pool (slice_set heads slot (with_map (range_of p) d (head_in heads slot))) l held touched fh fl)) (sym rows_brought_are)
        (turned_changed slot (slice_set heads slot (with_map (range_of p) d (head_in heads slot))) (slice_set maps d (one_entry (p % head_blocks) a)) (layout_by (kept_entry (slice_set maps d (one_entry (p % head_blocks) a))) (with_map (range_of p) d (head_in heads slot)))
        (Two p a (map_cell (range_of p)) d) (λ b. ⊥) (turns_map t is.table slot p a d may) named named2 fh fl (clears_nothing (λ b. ⊥) named (λ b no_way. no_way)) two_marks free (same_count slot (with_map (range_of p) d (head_in heads slot)))
        (same_free slot (with_map (range_of p) d (head_in heads slot)) may.leaf.below (free_map (range_of p) d (head_in heads slot))) refl refl))))
