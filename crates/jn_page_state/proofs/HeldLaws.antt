-- What each pick says where root, records, heads and their map pages have one candidate each.
use Rattle.jn_page_state.proofs.Common.{if◌then◌else◌, ◌≡◌, ◌<◌, ⊎_elim, ℕ, suc, Bool, true, false, List, [], length, Result, refl, sym, ap, subst, ◌∙◌, arith, nat_lt, cases_eq, cases_lt, nat_tests, get_or_past, slice_index, ServerNo, Head, FreeHead, Record, head_page, map_page, IsHead, FileFits, root_page, Counts, page_count, slot_place, head_place, data_place, NamesMap, root_is_read, Pick, slot_page, record_in, Says, StoreView, IsOnly, IsClean, StoreGot, StoreCleaned, same_shrinks, cleaned_kept, head_in, entry_of, layouts_in, layouts_by, kept_entry, head_map, head_blocks, most_maps, half_of, pages_by, block_on, root_by, epoch_by, IsFrontClean, IsFewer, contents_by, IsHeld, IsMapStored, row_at, held_contents, MapsAreClean, PagePut, RootPut, RecordPut, HeadPut, BlockPut, MapPut, MayPut, MayStand, map_entry, block_entry}
use Rattle.jn_base.specs.declared.device.Stopped.{Stopped}
use Rattle.jn_sets.proofs.Stored.{page_says}
use Rattle.jn_page_state.proofs.Laying.{same_layouts}
use Rattle.jn_page_state.proofs.PageChanges.{contents_as}
use Rattle.jn_page_state.proofs.Saying.{pool_says, heads_say}
use Rattle.jn_page_state.proofs.MapPages.{page_maps}

-- there is no map page where there is no head
pub head_of_map : (heads : List Head) (i j d : ℕ) → head_map (head_in heads i) j ≡ suc d → i < length heads
head_of_map heads i j d t = ⊎_elim (λ lt. lt) (λ past. absurd (nothing (sym (ap (λ h. head_map h j) (get_or_past heads i FreeHead past)) ∙ t))) (cases_lt i (length heads))
  where
    nothing : 0 ≡ suc d → ⊥
    nothing h = omega (arith, h)

module _ (server : ServerNo) (g : Counts) (v : StoreView) (epoch : ℕ) (records : List Record) (heads : List Head) (rows : List (List ℕ)) (held : IsHeld server g v epoch records heads rows) where
  one_half : (k : ℕ) (page : List ℕ) (b : Bool) → IsOnly v k page → (if b then v.second k else v.first k) ≡ page
  one_half k page true only = only.second
  one_half k page false only = only.first

  -- a page with one candidate, by each pick
  by_pick : (c : Pick) (k : ℕ) (page : List ℕ) → k < page_count g → IsOnly v k page → pages_by v c k ≡ page
  by_pick c k page lt only =
      let e : page_count g ≡ v.count = held.count in
      let t : nat_lt k v.count ≡ true = inside k v.count (omega (arith, lt, e)) in
      ap (λ b. if b then half_of v k c else []) t ∙ one_half k page (c k) only
    where
      inside : (a b : ℕ) → a < b → nat_lt a b ≡ true
      inside a b h = grind (arith, nat_tests)

  says : (c : Pick) → Says (pages_by v c) records
  says c slot lt =
      let stored = held.pool slot lt in
      let size : length records ≡ g.pool = held.slots in
      page_says (pages_by v c) slot (record_in records slot) stored.of_format (by_pick c (slot_page slot) _ (omega (arith, lt, size)) stored.only)

  head_by : (c : Pick) (i : ℕ) → i < g.heads → pages_by v c (head_place g i) ≡ head_page (head_in heads i)
  head_by c i lt = by_pick c (head_place g i) (head_page (head_in heads i)) (omega (arith, lt)) (held.heads_stored i lt).only

  heads_by : (c : Pick) (i : ℕ) → i < g.heads → IsHead g.leaves (head_in heads i) × FileFits (head_in heads i) × (pages_by v c (head_place g i) ≡ head_page (head_in heads i))
  heads_by c i lt = let stored = held.heads_stored i lt in (stored.whole, stored.fits, head_by c i lt)

  pub contents_held : (c : Pick) → contents_by g v c ≡ held_contents g v epoch records heads c
  contents_held c = contents_as (contents_by g v c) (held_contents g v epoch records heads c)
      (ap epoch_by (root_is_read (pages_by v c 0) (record (root_by server g epoch) { version = held.version }) held.root_fits (by_pick c 0 (root_page (record (root_by server g epoch) { version = held.version })) (omega arith) held.root)))
      (pool_says g (pages_by v c) records held.slots (says c))
      (heads_say g (pages_by v c) heads held.root_fits.leaves held.places (heads_by c))
      refl

  pub front_held : IsFrontClean g v
  front_held = record {
    root = held.root.first ∙ sym held.root.second;
    pool = λ i lt. let size : length records ≡ g.pool = held.slots in let only = (held.pool i (omega (arith, lt, size))).only in
        subst (IsClean v) (at i) (only.first ∙ sym only.second);
    heads = λ i lt. let only = (held.heads_stored i lt).only in only.first ∙ sym only.second;
  }
    where
      at : (i : ℕ) → slot_page i ≡ slot_place g i
      at i = omega arith

  -- ---- map pages

  -- a map page, by each pick
  pub map_by : (c : Pick) (d : ℕ) (row : List ℕ) → IsMapStored g v d row → pages_by v c (data_place g d) ≡ map_page row
  map_by c d row stored = let below = stored.below in by_pick c (data_place g d) (map_page row) (omega (arith, below)) stored.only

  -- and its entries
  pub entry_by : (c : Pick) (d k : ℕ) (row : List ℕ) → k < head_blocks → IsMapStored g v d row → entry_of (block_on g (pages_by v c)) d k ≡ slice_index row k
  entry_by c d k row below stored = block_entry (pages_by v c (data_place g d)) k below
      ∙ map_entry g.leaves (pages_by v c (data_place g d)) held.root_fits.leaves row stored.whole.count stored.whole.within_leaves (map_by c d row stored) k below

  pub stored_at : (i j d : ℕ) → j < most_maps → head_map (head_in heads i) j ≡ suc d → IsMapStored g v d (row_at rows d)
  stored_at i j d low t = let size : length heads ≡ g.heads = held.places in let there = head_of_map heads i j d t in held.maps_stored i (omega (arith, there, size)) j d low t

  pub layouts_held : (c : Pick) → layouts_in (held_contents g v epoch records heads c) ≡ layouts_by (kept_entry rows) heads
  layouts_held c = same_layouts (kept_entry rows) (entry_of (block_on g (pages_by v c))) heads (λ i j d k low below t. entry_by c d k (row_at rows d) below (stored_at i j d low t))

  -- what a page names as a map page the head does
  pub named_held : (c : Pick) (d : ℕ) → NamesMap g (pages_by v c) d → (i : ℕ) × (j : ℕ) × (j < most_maps) × (head_map (head_in heads i) j ≡ suc d)
  named_held c d n = let stored = held.heads_stored n.head n.is_head in
      (n.head, n.at, n.below, sym (page_maps g.leaves (pages_by v c (head_place g n.head)) (head_in heads n.head) held.root_fits.leaves stored.whole stored.fits (head_by c n.head n.is_head) n.used n.at n.below) ∙ n.names)

  pub maps_held : MapsAreClean g v
  maps_held c d lt n = let at = named_held c d n in let only = (stored_at at.0 at.1 d at.2 at.3).only in only.first ∙ sym only.second

  -- what a put asks of pages
  pub may_put : (put : PagePut) → MayStand g v heads rows put → (c : Pick) → MayPut g (pages_by v c) put
  may_put (HeadPut place h) may c = λ j d low t. let stored = may j d low t in
      record { entries = row_at rows d; row = stored.whole; is_page = map_by c d (row_at rows d) stored }
  may_put (BlockPut d block) may c = λ n. let at = named_held c d n in may at.0 at.1 at.2 at.3
  may_put (RootPut epoch) may c = tt
  may_put (RecordPut slot r) may c = tt
  may_put (MapPut d row) may c = tt

-- ---- steps that bring no candidate

pub got_fewer : (v : StoreView) (i : ℕ) (answer : Result (List ℕ) Stopped) (w : StoreView) → StoreGot v i answer w → IsFewer v w
got_fewer v i answer w step = record { count = step.later.count; shrinks = λ j lt. same_shrinks v w j (step.same j) }

pub cleaned_fewer : (v : StoreView) (i : ℕ) (answer : Result Bool Stopped) (w : StoreView) → StoreCleaned v i answer w → IsFewer v w
cleaned_fewer v i answer w step = record { count = step.later.count; shrinks = λ j lt. cleaned_kept v i answer w step j lt (cases_eq j i) }

pub fewer_refl : (v : StoreView) → IsFewer v v
fewer_refl v = record { count = refl; shrinks = λ j lt x here. here }

pub fewer_trans : (u v w : StoreView) → IsFewer u v → IsFewer v w → IsFewer u w
fewer_trans u v w before after = record {
  count = after.count ∙ before.count;
  shrinks = λ j lt x here. before.shrinks j lt x (after.shrinks j (subst (λ n. j < n) (sym before.count) lt) x here);
}
