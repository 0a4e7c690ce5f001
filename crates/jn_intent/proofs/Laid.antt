-- What the table is once an intention is carried out, by one put or by two: one slot's layout is another.
use Rattle.jn_intent.proofs.Common.{◌≡◌, ⊎_elim, ◌<◌, ◌≤◌, ◌+◌, ℕ, zero, suc, Bool, true, false, not, ◌&&◌, if◌then◌else◌, List, [], ◌∷◌, length, refl, sym, ◌∙◌, ap, subst, true≢false, arith, get_or-set_same, nat_le, nat_lt, slice_set, slice_index, TableView, IsTable, exists, layouts_in, layouts_of, IsUnnamed, address_after, map_after, serves_for, IsHeadPut, IsPartPut, StoredIntention, Cut, is_fresh, StoreView, PutsOne, PutsWhole, PutsPart, PutsMapPage, PutsInTurn, heads_taken, without_promise, most_blocks, Layout, Unused, Of, at_cell, layout_at, is_layout_of, map_cell, kept_entry, cut_inside, IsNoMap, is_in_range, block-put}
use Rattle.jn_intent.proofs.HeadPuts.{own_map, row_changed}

pub record IsLaid (t : TableView) (i : StoredIntention) (place : ℕ) (new : Layout) (u : TableView) : Type 0 where
  pub carries : IsHeadPut (layouts_in t) i place new
  pub layouts : layouts_in u ≡ slice_set (layouts_in t) place new
  pub counts : u.counts ≡ t.counts
  pub held : u.held ≡ t.held
  pub promised : u.free_heads.promised + heads_taken t i ≡ t.free_heads.promised
  pub table : IsTable u

-- ---- by one put

changed_layouts : (t : TableView) (v : StoreView) (slot : ℕ) (new : Layout) (ok : Bool) (u : TableView) (w : StoreView) → PutsOne t v slot new ok u w → ok ≡ true → layouts_in u ≡ slice_set (layouts_in t) slot new
changed_layouts t v slot new ok u w one done = let is = one.done done in (λ k. layouts_of (is.maps k) (is.heads k)) ∙ one.lays.layouts

pub laid_whole : (t : TableView) (v : StoreView) (i : StoredIntention) (ok : Bool) (u : TableView) (w : StoreView) (p : PutsWhole t v i ok u w) → ok ≡ true → heads_taken t i ≤ t.free_heads.promised → IsLaid t i p.slot p.new u
laid_whole t v i ok u w p done enough = let is = p.one.done done in record {
  carries = p.carries;
  layouts = changed_layouts (without_promise t i) v p.slot p.new ok u w p.one done;
  counts = is.counts;
  held = is.held;
  promised = let e = is.promised_heads in omega (arith, e, enough);
  table = is.table;
}

-- ---- by a fresh map page, and then a head

-- a data page that nothing names is no map page
unnamed_no_map : (t : TableView) (d : ℕ) → IsUnnamed (layouts_in t) d → IsNoMap t.heads d
unnamed_no_map t d unnamed slot j below e = unnamed slot (map_cell j) (own_map t slot j below ∙ e)

pub same_layouts : (t : TableView) (d : ℕ) (row : List ℕ) → IsTable t → d < t.counts.leaves → IsUnnamed (layouts_in t) d → layouts_in (record t { maps = slice_set t.maps d row }) ≡ layouts_in t
same_layouts t d row is below unnamed = block-put (kept_entry t.maps) (kept_entry (slice_set t.maps d row)) t.heads d (λ k. slice_index row k) (row_changed t.maps d row (let count = is.heads.map_rows.count in omega (arith, count, below))) (unnamed_no_map t d unnamed)

-- ---- by a cut in part, and then the whole cut

set_twice : {X : Type 0} (xs : List X) (i : ℕ) (x y : X) → slice_set (slice_set xs i x) i y ≡ slice_set xs i y
set_twice [] zero x y = refl
set_twice [] (suc i) x y = refl
set_twice (z ∷ xs) zero x y = refl
set_twice (z ∷ xs) (suc i) x y = ap (λ l. z ∷ l) (set_twice xs i x y)

module _ (layouts : List Layout) (i : StoredIntention) (range place : ℕ) (part : Layout) (first : IsPartPut layouts i range place part) (slot : ℕ) (new : Layout) (whole : IsHeadPut (slice_set layouts place part) i slot new) where
  there : place < length layouts
  there = below layouts place (first.part.serves)
    where
      below : (ls : List Layout) (k : ℕ) → is_layout_of i.file (layout_at ls k) ≡ true → k < length ls
      below [] zero e = absurd (true≢false (sym e))
      below [] (suc k) e = absurd (true≢false (sym e))
      below (l ∷ ls) zero e = omega arith
      below (l ∷ ls) (suc k) e = let again = below ls k e in omega (arith, again)

  at_part : layout_at (slice_set layouts place part) place ≡ part
  at_part = get_or-set_same layouts place part Unused there

  same_slot : slot ≡ place
  same_slot = sym (whole.only place (ap (is_layout_of i.file) at_part ∙ first.part.file_after))

  now : layout_at (slice_set layouts place part) slot ≡ part
  now = ap (layout_at (slice_set layouts place part)) same_slot ∙ at_part

  pub both_cuts : IsHeadPut layouts i place new
  both_cuts = record {
    there = there;
    names = whole.names;
    range = whole.range;
    only = first.part.only;
    serves = subst (λ w. serves_for w i.file (layout_at layouts place) ≡ true) (sym first.cuts) (cut_serves (layout_at layouts place) first.part.serves);
    file_after = whole.file_after;
    addresses = λ p lt. whole.addresses p lt ∙ ap (λ w. address_after w i.block.0 i.address p (at_cell (layout_at (slice_set layouts place part) slot) p)) first.cuts
        ∙ ap (λ l. address_after Cut i.block.0 i.address p (at_cell l p)) now ∙ ap (λ (k : ℕ). address_after Cut i.block.0 i.address p k) (first.part.cells p lt)
        ∙ cut_again p (at_cell (layout_at layouts place)) ∙ sym (ap (λ w. address_after w i.block.0 i.address p (at_cell (layout_at layouts place) p)) first.cuts);
    maps = λ j lt. whole.maps j lt ∙ ap (λ l. map_after i.what i.block.0 i.map j (at_cell l (map_cell j))) now ∙ ap (λ (k : ℕ). map_after i.what i.block.0 i.map j k) (first.maps j lt);
  }
    where
      cut_serves : (l : Layout) → is_layout_of i.file l ≡ true → serves_for Cut i.file l ≡ true
      cut_serves Unused e = e
      cut_serves (Of g cells) e = e

      cut_again : (p : ℕ) (old : ℕ → ℕ) → (if nat_le i.block.0 p then 0 else cut_inside i.block.0 range old p) ≡ (if nat_le i.block.0 p then 0 else old p)
      cut_again p old = by (nat_le i.block.0 p) (nat_lt p most_blocks) (is_in_range range p)
        where
          by : (b c d : Bool) → (if b then 0 else (if c && (d && b) then 0 else old p)) ≡ (if b then 0 else old p)
          by true c d = refl
          by false true true = refl
          by false true false = refl
          by false false d = refl

  pub both_layouts : slice_set (slice_set layouts place part) slot new ≡ slice_set layouts place new
  both_layouts = ap (λ k. slice_set (slice_set layouts place part) k new) same_slot ∙ set_twice layouts place part new

-- ---- by either pair

pub laid_turn : (t : TableView) (v : StoreView) (i : StoredIntention) (is : IsTable t) (ok : Bool) (u : TableView) (w : StoreView) (p : PutsInTurn t v i ok u w) (ready : p.ready ≡ true) → ok ≡ true → (place : ℕ) × (new : Layout) × IsLaid t i place new u
laid_turn t v i is ok u w p ready done = ⊎_elim parted fresh p.first
  where
    whole : PutsWhole p.table p.store i ok u w
    whole = p.whole ready

    parted : PutsPart t v i p.ready p.table p.store → (place : ℕ) × (new : Layout) × IsLaid t i place new u
    parted first =
        let is_now = first.one.done ready in
        let mid = changed_layouts t v first.slot first.new p.ready p.table p.store first.one ready in
        let laid = laid_whole p.table p.store i ok u w whole done (ap_zero p.table) in
        let carries = subst (λ ls. IsHeadPut ls i whole.slot whole.new) mid laid.carries in (
          first.slot,
          whole.new,
          record {
            carries = both_cuts (layouts_in t) i first.range first.slot first.new first.part whole.slot whole.new carries;
            layouts = laid.layouts ∙ ap (λ ls. slice_set ls whole.slot whole.new) mid ∙ both_layouts (layouts_in t) i first.range first.slot first.new first.part whole.slot whole.new carries;
            counts = laid.counts ∙ is_now.counts;
            held = laid.held ∙ is_now.held;
            promised = let a = laid.promised in let b = is_now.promised_heads in let c = none t in let d = none p.table in omega (arith, a, b, c, d);
            table = laid.table;
          },
        )
      where
        none : (t : TableView) → heads_taken t i ≡ 0
        none t = ap (λ w. if is_fresh w && not (exists t.heads i.file) then 1 else 0) first.part.cuts

        ap_zero : (t : TableView) → heads_taken t i ≤ t.free_heads.promised
        ap_zero t = let e = none t in omega (arith, e)

    fresh : PutsMapPage t v i p.ready p.table p.store → (place : ℕ) × (new : Layout) × IsLaid t i place new u
    fresh first =
        let table_is = first.done ready in
        let mid : layouts_in p.table ≡ layouts_in t = ap layouts_in table_is ∙ same_layouts t first.page first.row is first.below first.unnamed in
        let laid = laid_whole p.table p.store i ok u w whole done (ap_zero p.table) in (
          whole.slot,
          whole.new,
          record {
            carries = subst (λ ls. IsHeadPut ls i whole.slot whole.new) mid laid.carries;
            layouts = laid.layouts ∙ ap (λ ls. slice_set ls whole.slot whole.new) mid;
            counts = laid.counts ∙ ap (λ (x : TableView). x.counts) table_is;
            held = laid.held ∙ ap (λ (x : TableView). x.held) table_is;
            promised = let a = laid.promised in let b = ap (λ (x : TableView). x.free_heads.promised) table_is in let c = none t in let d = none p.table in omega (arith, a, b, c, d);
            table = laid.table;
          },
        )
      where
        none : (t : TableView) → heads_taken t i ≡ 0
        none t = ap (λ w. if is_fresh w && not (exists t.heads i.file) then 1 else 0) first.put_is

        ap_zero : (t : TableView) → heads_taken t i ≤ t.free_heads.promised
        ap_zero t = let e = none t in omega (arith, e)
