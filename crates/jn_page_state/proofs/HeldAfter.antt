-- What a store holds after a put that is done.
use Rattle.jn_page_state.proofs.Common.{◌≡◌, ◌≢◌, ⊎_elim, ◌<◌, ℕ, suc, true, List, [], length, refl, sym, subst, ◌∙◌, ap, arith, slice_set, length-set, ServerNo, Head, FreeHead, Record, Free, head_page, map_page, root_page, format_version, record_page, Counts, page_count, slot_place, head_place, data_place, slot_page, record_in, IsStored, StoreView, IsOnly, head_in, root_by, PagePut, RootPut, RecordPut, HeadPut, BlockPut, MapPut, put_place, IsPagePut, PutStep, IsHeadStored, IsMapStored, HasMapsStored, row_at, IsHeld, MayStand, epoch_after, records_after, heads_after, rows_after}
use Rattle.jn_page_state.proofs.Slots.{at_set}

module _ (server : ServerNo) (g : Counts) (v w : StoreView) (epoch : ℕ) (records : List Record) (heads : List Head) (rows : List (List ℕ)) (held : IsHeld server g v epoch records heads rows) where
  abbrev count : page_count g ≡ v.count
  count = held.count

  module _ (put : PagePut) (step : PutStep server g v put true w) where
    -- another page keeps its one candidate
    kept : (k : ℕ) (page : List ℕ) → k < page_count g → k ≢ put_place g put → IsOnly v k page → IsOnly w k page
    kept k page lt ne only = let same = step.others k (omega (arith, lt, count)) ne in record { first = same.first ∙ only.first; second = same.second ∙ only.second }

    still_counted : page_count g ≡ w.count
    still_counted = count ∙ sym step.later.count

    root_kept : 0 ≢ put_place g put → IsOnly w 0 (root_page (record (root_by server g epoch) { version = held.version }))
    root_kept ne = kept 0 (root_page (record (root_by server g epoch) { version = held.version })) (omega arith) ne held.root

    slot_kept : (slot : ℕ) → slot < length records → slot_place g slot ≢ put_place g put → IsStored w slot (record_in records slot)
    slot_kept slot lt ne =
        let stored = held.pool slot lt in
        let size : length records ≡ g.pool = held.slots in
        record { of_format = stored.of_format; only = kept (slot_page slot) (record_page (record_in records slot)) (omega (arith, lt, size)) (λ e. ne (omega (arith, e))) stored.only }

    head_kept : (place : ℕ) → place < g.heads → head_place g place ≢ put_place g put → IsHeadStored g w place (head_in heads place)
    head_kept place lt ne =
        let stored = held.heads_stored place lt in
        record { whole = stored.whole; fits = stored.fits; only = kept (head_place g place) (head_page (head_in heads place)) (omega (arith, lt)) ne stored.only }

    map_kept : (d : ℕ) (row : List ℕ) → data_place g d ≢ put_place g put → IsMapStored g v d row → IsMapStored g w d row
    map_kept d row ne stored = let below = stored.below in record { below = below; whole = stored.whole; only = kept (data_place g d) (map_page row) (omega (arith, below)) ne stored.only }

    -- where the put is of no data page
    maps_kept : ((d : ℕ) → d < g.leaves → data_place g d ≢ put_place g put) → (h : Head) → HasMapsStored g v rows h → HasMapsStored g w rows h
    maps_kept ne h stored j d low t = let map = stored j d low t in map_kept d (row_at rows d) (ne d map.below) map

  pub held_after : (put : PagePut) → IsPagePut server g put → PutStep server g v put true w → MayStand g v heads rows put
      → IsHeld server g w (epoch_after put epoch) (records_after put records) (heads_after put heads) (rows_after put rows)
  held_after (RootPut later) is step may = record {
    count = still_counted (RootPut later) step;
    version = format_version;
    root_fits = is;
    root = step.done refl;
    slots = held.slots;
    pool = λ slot lt. slot_kept (RootPut later) step slot lt (λ e. omega (arith, e));
    places = held.places;
    heads_stored = λ place lt. head_kept (RootPut later) step place lt (λ e. omega (arith, e));
    pages = held.pages;
    maps_stored = λ place lt. maps_kept (RootPut later) step (λ d low e. omega (arith, e)) (head_in heads place) (held.maps_stored place lt);
  }
  held_after (BlockPut d block) is step may = record {
    count = still_counted (BlockPut d block) step;
    version = held.version;
    root_fits = held.root_fits;
    root = root_kept (BlockPut d block) step (λ e. omega (arith, e));
    slots = held.slots;
    pool = λ slot lt. slot_kept (BlockPut d block) step slot lt (let size : length records ≡ g.pool = held.slots in λ e. omega (arith, e, lt, size));
    places = held.places;
    heads_stored = λ place lt. head_kept (BlockPut d block) step place lt (λ e. omega (arith, e, lt));
    pages = held.pages;
    maps_stored = λ place lt j k low t. map_kept (BlockPut d block) step k (row_at rows k) (λ e. may place j low (t ∙ ap suc (same k e))) (held.maps_stored place lt j k low t);
  }
    where
      same : (k : ℕ) → data_place g k ≡ data_place g d → k ≡ d
      same k e = omega (arith, e)
  held_after (MapPut d row) is step may = record {
    count = still_counted (MapPut d row) step;
    version = held.version;
    root_fits = held.root_fits;
    root = root_kept (MapPut d row) step (λ e. omega (arith, e));
    slots = held.slots;
    pool = λ slot lt. slot_kept (MapPut d row) step slot lt (let size : length records ≡ g.pool = held.slots in λ e. omega (arith, e, lt, size));
    places = held.places;
    heads_stored = λ place lt. head_kept (MapPut d row) step place lt (λ e. omega (arith, e, lt));
    pages = length-set rows d row ∙ held.pages;
    maps_stored = λ place lt j k low t. ⊎_elim
        (λ h. subst (IsMapStored g w k) (sym h.1) (record { below = under k h.0; whole = is.1; only = subst (λ n. IsOnly w n (map_page row)) (at k h.0) (step.done refl) }))
        (λ h. subst (IsMapStored g w k) (sym h.1) (map_kept (MapPut d row) step k (row_at rows k) (λ e. h.0 (same k e)) (held.maps_stored place lt j k low t)))
        (at_set [] rows d row below k);
  }
    where
      below : d < length rows
      below = let low = is.0 in let size : length rows ≡ g.leaves = held.pages in omega (arith, low, size)

      same : (k : ℕ) → data_place g k ≡ data_place g d → k ≡ d
      same k e = omega (arith, e)

      at : (k : ℕ) → k ≡ d → data_place g d ≡ data_place g k
      at k e = omega (arith, e)

      under : (k : ℕ) → k ≡ d → k < g.leaves
      under k e = let low = is.0 in omega (arith, e, low)
  held_after (RecordPut slot r) is step may = record {
    count = still_counted (RecordPut slot r) step;
    version = held.version;
    root_fits = held.root_fits;
    root = root_kept (RecordPut slot r) step (λ e. omega (arith, e));
    slots = length-set records slot r ∙ held.slots;
    pool = λ i lt. ⊎_elim
        (λ h. subst (IsStored w i) (sym h.1) (record { of_format = is.1; only = subst (λ k. IsOnly w k (record_page r)) (at i h.0) (step.done refl) }))
        (λ h. subst (IsStored w i) (sym h.1) (slot_kept (RecordPut slot r) step i (within i lt) (λ e. h.0 (omega (arith, e)))))
        (at_set Free records slot r below i);
    places = held.places;
    heads_stored = λ place lt. head_kept (RecordPut slot r) step place lt (let under = is.0 in λ e. omega (arith, e, under));
    pages = held.pages;
    maps_stored = λ place lt. maps_kept (RecordPut slot r) step (λ d low e. let under = is.0 in omega (arith, e, under)) (head_in heads place) (held.maps_stored place lt);
  }
    where
      below : slot < length records
      below = let under = is.0 in let size : length records ≡ g.pool = held.slots in omega (arith, under, size)

      within : (i : ℕ) → i < length (slice_set records slot r) → i < length records
      within i lt = subst (λ n. i < n) (length-set records slot r) lt

      at : (i : ℕ) → i ≡ slot → slot_place g slot ≡ slot_page i
      at i e = omega (arith, e)
  held_after (HeadPut place h) is step may = record {
    count = still_counted (HeadPut place h) step;
    version = held.version;
    root_fits = held.root_fits;
    root = root_kept (HeadPut place h) step (λ e. omega (arith, e));
    slots = held.slots;
    pool = λ slot lt. slot_kept (HeadPut place h) step slot lt (let size : length records ≡ g.pool = held.slots in λ e. omega (arith, e, lt, size));
    places = length-set heads place h ∙ held.places;
    heads_stored = λ i lt. ⊎_elim
        (λ x. subst (IsHeadStored g w i) (sym x.1) (record { whole = is.1; fits = is.2; only = subst (λ k. IsOnly w k (head_page h)) (at i x.0) (step.done refl) }))
        (λ x. subst (IsHeadStored g w i) (sym x.1) (head_kept (HeadPut place h) step i lt (λ e. x.0 (omega (arith, e)))))
        (at_set FreeHead heads place h below i);
    pages = held.pages;
    maps_stored = λ i lt. ⊎_elim
        (λ x. subst (HasMapsStored g w rows) (sym x.1) (maps_kept (HeadPut place h) step apart h may))
        (λ x. subst (HasMapsStored g w rows) (sym x.1) (maps_kept (HeadPut place h) step apart (head_in heads i) (held.maps_stored i lt)))
        (at_set FreeHead heads place h below i);
  }
    where
      below : place < length heads
      below = let under = is.0 in let size : length heads ≡ g.heads = held.places in omega (arith, under, size)

      at : (i : ℕ) → i ≡ place → head_place g place ≡ head_place g i
      at i e = omega (arith, e)

      apart : (d : ℕ) → d < g.leaves → data_place g d ≢ head_place g place
      apart d low e = let under = is.0 in omega (arith, e, under)
