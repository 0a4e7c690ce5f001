-- A put of any page, as a change of what the pages say.
use Rattle.jn_page_state.proofs.Common.{◌≡◌, ◌≢◌, inl, inr, ◌<◌, ◌^◌, ◌++◌, ℕ, List, refl, sym, ap, subst, ◌∙◌, arith, replicate, cases_eq, take_at, drop_at, ServerNo, Head, IsHead, FileFits, head_page, map_page, IsMapPage, Counts, Pages, slot_place, head_place, data_place, is_used, map_in, NamesMap, IsWholeMap, IsRecordPage, with_page, with_same, with_other, with_block, root_by, format_version, contents_of, IsRootPage, IsHeadPage, IsDataPage, IsOfFormat, PagePut, RootPut, RecordPut, HeadPut, BlockPut, MapPut, put_place, put_page, IsPagePut, MayPut, put_in}
use Rattle.jn_page_state.proofs.MapPages.{row_tail, row_page, page_maps}
use Rattle.jn_page_state.proofs.PageChanges.{record_put, head_put, data_put, root_put}

module _ (server : ServerNo) (g : Counts) (pages : Pages) (format : IsOfFormat server g pages) where
  few : g.leaves < 2 ^ 16
  few = format.root.2.leaves

  pub put_is_read : (put : PagePut) → IsPagePut server g put → contents_of g (with_page pages (put_place g put) (put_page server g put)) ≡ put_in put (contents_of g pages)
  put_is_read (RootPut epoch) is = root_put g pages (root_by server g epoch) is
  put_is_read (RecordPut slot r) is = record_put g pages slot r is.0 is.1
  put_is_read (HeadPut place h) is = head_put g pages place h few is.0 is.1 is.2
  put_is_read (BlockPut d block) is = data_put g pages d (block ++ replicate 64 0) ∙ ap (λ b. with_block (contents_of g pages) d b) (take_at block (replicate 64 0) 448 is.1)
  put_is_read (MapPut d row) is = data_put g pages d (map_page row)

  module _ (k : ℕ) (page : List ℕ) where
    -- a page at another place, or at one of its kind
    other : (P : List ℕ → Type 0) (j : ℕ) → k ≢ j → P (pages j) → P (with_page pages k page j)
    other P j ne p = subst P (sym (with_other pages k page j ne)) p

    either : (P : List ℕ → Type 0) (j : ℕ) → P page → P (pages j) → P (with_page pages k page j)
    either P j new old = elim (cases_eq k j) [
      | inl e ↦ subst P (sym (with_same pages k page j e)) new
      | inr ne ↦ other P j ne old
    ]

    -- a map page that a head other than this one names was named before
    named_before : (d : ℕ) (n : NamesMap g (with_page pages k page) d) → k ≢ head_place g n.head → NamesMap g pages d
    named_before d n ne = let same = with_other pages k page (head_place g n.head) ne in record {
      head = n.head;
      at = n.at;
      is_head = n.is_head;
      used = ap is_used (sym same) ∙ n.used;
      below = n.below;
      names = ap (λ (p : List ℕ). map_in p n.at) (sym same) ∙ n.names;
    }

    -- where no head is put, and at a data page only what may stand there
    maps_kept : ((i : ℕ) → i < g.heads → k ≢ head_place g i) → ((d : ℕ) → k ≡ data_place g d → NamesMap g pages d → IsMapPage g.leaves page) → (d : ℕ) → IsWholeMap g (with_page pages k page) d
    maps_kept apart may d below n = let before = named_before d n (apart n.head n.is_head) in elim (cases_eq k (data_place g d)) [
      | inl e ↦ subst (IsMapPage g.leaves) (sym (with_same pages k page (data_place g d) e)) (may d e before)
      | inr ne ↦ other (IsMapPage g.leaves) (data_place g d) ne (format.maps d below before)
    ]

  -- a head's map pages stand before it does
  head_maps : (place : ℕ) (h : Head) → place < g.heads → IsHead g.leaves h → FileFits h → MayPut g pages (HeadPut place h) → (d : ℕ) → IsWholeMap g (with_page pages (head_place g place) (head_page h)) d
  head_maps place h lt is fits may d below n = other (head_place g place) (head_page h) (IsMapPage g.leaves) (data_place g d) (λ e. omega (arith, e, lt)) (elim (cases_eq (head_place g place) (head_place g n.head)) [
    | inl e ↦ let here = with_same pages (head_place g place) (head_page h) (head_place g n.head) e in
        may n.at d n.below (sym (page_maps g.leaves (head_page h) h few is fits refl (ap is_used (sym here) ∙ n.used) n.at n.below) ∙ ap (λ (p : List ℕ). map_in p n.at) (sym here) ∙ n.names)
    | inr ne ↦ format.maps d below (named_before (head_place g place) (head_page h) d n ne)
  ])

  pub keeps_format : (put : PagePut) → IsPagePut server g put → MayPut g pages put → IsOfFormat server g (with_page pages (put_place g put) (put_page server g put))
  keeps_format (RootPut epoch) is may = record {
    root = either 0 (put_page server g (RootPut epoch)) (IsRootPage server g) 0 (format_version, epoch, is, refl) format.root;
    pool = λ i lt. other 0 (put_page server g (RootPut epoch)) IsRecordPage (slot_place g i) (λ e. omega (arith, e)) (format.pool i lt);
    heads = λ i lt. other 0 (put_page server g (RootPut epoch)) (IsHeadPage g.leaves) (head_place g i) (λ e. omega (arith, e)) (format.heads i lt);
    data_pages = λ d lt. other 0 (put_page server g (RootPut epoch)) IsDataPage (data_place g d) (λ e. omega (arith, e)) (format.data_pages d lt);
    maps = maps_kept 0 (put_page server g (RootPut epoch)) (λ i lt e. omega (arith, e)) (λ d e n. absurd (omega (arith, e)));
  }
  keeps_format (RecordPut slot r) is may = record {
    root = other (slot_place g slot) (put_page server g (RecordPut slot r)) (IsRootPage server g) 0 (λ e. omega (arith, e)) format.root;
    pool = λ i lt. either (slot_place g slot) (put_page server g (RecordPut slot r)) IsRecordPage (slot_place g i) (r, is.1, refl) (format.pool i lt);
    heads = λ i lt. other (slot_place g slot) (put_page server g (RecordPut slot r)) (IsHeadPage g.leaves) (head_place g i) (let below = is.0 in λ e. omega (arith, e, below)) (format.heads i lt);
    data_pages = λ d lt. other (slot_place g slot) (put_page server g (RecordPut slot r)) IsDataPage (data_place g d) (let below = is.0 in λ e. omega (arith, e, below)) (format.data_pages d lt);
    maps = maps_kept (slot_place g slot) (put_page server g (RecordPut slot r)) (let below = is.0 in λ i lt e. omega (arith, e, below)) (let below = is.0 in λ d e n. absurd (omega (arith, e, below)));
  }
  keeps_format (HeadPut place h) is may = record {
    root = other (head_place g place) (put_page server g (HeadPut place h)) (IsRootPage server g) 0 (λ e. omega (arith, e)) format.root;
    pool = λ i lt. other (head_place g place) (put_page server g (HeadPut place h)) IsRecordPage (slot_place g i) (λ e. omega (arith, e, lt)) (format.pool i lt);
    heads = λ i lt. either (head_place g place) (put_page server g (HeadPut place h)) (IsHeadPage g.leaves) (head_place g i) (h, is.1, is.2, refl) (format.heads i lt);
    data_pages = λ d lt. other (head_place g place) (put_page server g (HeadPut place h)) IsDataPage (data_place g d) (let below = is.0 in λ e. omega (arith, e, below)) (format.data_pages d lt);
    maps = head_maps place h is.0 is.1 is.2 may;
  }
  keeps_format (BlockPut d block) is may = record {
    root = other (data_place g d) (put_page server g (BlockPut d block)) (IsRootPage server g) 0 (λ e. omega (arith, e)) format.root;
    pool = λ i lt. other (data_place g d) (put_page server g (BlockPut d block)) IsRecordPage (slot_place g i) (λ e. omega (arith, e, lt)) (format.pool i lt);
    heads = λ i lt. other (data_place g d) (put_page server g (BlockPut d block)) (IsHeadPage g.leaves) (head_place g i) (λ e. omega (arith, e, lt)) (format.heads i lt);
    data_pages = λ k lt. either (data_place g d) (put_page server g (BlockPut d block)) IsDataPage (data_place g k) (drop_at block (replicate 64 0) 448 is.1) (format.data_pages k lt);
    maps = maps_kept (data_place g d) (put_page server g (BlockPut d block)) (λ i lt e. omega (arith, e, lt)) (λ k e n. absurd (may (subst (NamesMap g pages) (let same : k ≡ d = omega (arith, e) in same) n)));
  }
  keeps_format (MapPut d row) is may = record {
    root = other (data_place g d) (put_page server g (MapPut d row)) (IsRootPage server g) 0 (λ e. omega (arith, e)) format.root;
    pool = λ i lt. other (data_place g d) (put_page server g (MapPut d row)) IsRecordPage (slot_place g i) (λ e. omega (arith, e, lt)) (format.pool i lt);
    heads = λ i lt. other (data_place g d) (put_page server g (MapPut d row)) (IsHeadPage g.leaves) (head_place g i) (λ e. omega (arith, e, lt)) (format.heads i lt);
    data_pages = λ k lt. either (data_place g d) (put_page server g (MapPut d row)) IsDataPage (data_place g k) (row_tail row is.1.count) (format.data_pages k lt);
    maps = maps_kept (data_place g d) (put_page server g (MapPut d row)) (λ i lt e. omega (arith, e, lt)) (λ k e n. row_page g.leaves row is.1);
  }
