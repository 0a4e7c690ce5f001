-- What is clean behind the root while a store stands, and after a put of the root or an erasure, done or stopped.
use Rattle.jn_recovery.proofs.Common.{◌≡◌, ◌≢◌, inl, inr, ⊎_elim, ◌<◌, ◌≤◌, ◌+◌, ℕ, Bool, true, false, if◌then◌else◌, List, [], sym, ◌∙◌, ap, subst, arith, cases_eq, get_or-set_same, nat_lt, slice_set, ServerNo, half_of, pages_by, pool_on, IsStanding, IsPutStep, RootPut, RecordPut, IsIdlePut, Contents, front_held, maps_held, contents_held, Head, Record, Free, record_in, record_page, Counts, page_count, slot_place, head_place, data_place, NamesMap, Pick, StoreView, StorePut, IsClean, IsSamePage, IsIdleSlot, IsCleanBehindRoot, is_idle, contents_of, IsFrontClean, put_page, MapsAreClean, is_used, map_in, picks}
use Rattle.jn_page_state.proofs.PagePuts.{put_is_read}

-- a page that stays says the same by each pick
same_by : (v w : StoreView) (k : ℕ) → w.count ≡ v.count → IsSamePage v w k → (c : Pick) → pages_by w c k ≡ pages_by v c k
same_by v w k count same c = ap (λ n. if nat_lt k n then half_of w k c else []) count ∙ ap (λ x. if nat_lt k v.count then x else []) (half (c k))
  where
    half : (b : Bool) → (if b then w.second k else w.first k) ≡ (if b then v.second k else v.first k)
    half true = same.second
    half false = same.first

-- where heads and data pages stay, each map page that is named was named before
maps_stay : (g : Counts) (v w : StoreView) → page_count g ≡ v.count → w.count ≡ v.count → ((k : ℕ) → 1 + g.pool ≤ k → k < v.count → IsSamePage v w k) → MapsAreClean g v → MapsAreClean g w
maps_stay g v w fits count same clean c d lt names =
    let at = same (data_place g d) (omega arith) (omega (arith, fits, lt)) in at.first ∙ clean c d lt before ∙ sym at.second
  where
    its_head : pages_by w c (head_place g names.head) ≡ pages_by v c (head_place g names.head)
    its_head = let there = names.is_head in same_by v w (head_place g names.head) count (same (head_place g names.head) (omega arith) (omega (arith, fits, there))) c

    before : NamesMap g (pages_by v c) d
    before = record {
      head = names.head;
      at = names.at;
      is_head = names.is_head;
      used = ap is_used (sym its_head) ∙ names.used;
      below = names.below;
      names = ap (λ page. map_in page names.at) (sym its_head) ∙ names.names;
    }

module _ (server : ServerNo) (g : Counts) (u : StoreView) (epoch : ℕ) (records : List Record) (heads : List Head) (rows : List (List ℕ)) (standing : IsStanding server g u epoch records heads rows) where
  front : IsFrontClean g u
  front = front_held server g u epoch records heads rows standing.held

  maps : MapsAreClean g u
  maps = maps_held server g u epoch records heads rows standing.held

  pub standing_behind : IsCleanBehindRoot g u
  standing_behind = record { records = λ i lt. inl (front.pool i lt); heads = front.heads; maps = maps }

  -- one page before the heads is put, done or stopped
  module _ (place : ℕ) (page : List ℕ) (ok : Bool) (w : StoreView) (put : StorePut u place page ok w) (low : place < 1 + g.pool) where
    still : (i : ℕ) → i < page_count g → i ≢ place → IsClean u i → IsClean w i
    still i lt ne clean = let same = put.others i (let e = standing.held.count in omega (arith, e, lt)) ne in same.first ∙ clean ∙ sym same.second

    heads_still : (i : ℕ) → i < g.heads → IsClean w (head_place g i)
    heads_still i lt = still (head_place g i) (omega (arith, lt)) (λ e. omega (arith, e, low)) (front.heads i lt)

    maps_still : MapsAreClean g w
    maps_still = maps_stay g u w standing.held.count put.later.count (λ k past lt. put.others k lt (λ e. omega (arith, e, past, low))) maps

  pub root_behind : (later : ℕ) (ok : Bool) (w : StoreView) → StorePut u 0 (put_page server g (RootPut later)) ok w → IsCleanBehindRoot g w
  root_behind later ok w put = record {
    records = λ i lt. inl (still 0 (put_page server g (RootPut later)) ok w put (omega arith) (slot_place g i) (omega (arith, lt)) (λ e. omega (arith, e)) (front.pool i lt));
    heads = heads_still 0 (put_page server g (RootPut later)) ok w put (omega arith);
    maps = maps_still 0 (put_page server g (RootPut later)) ok w put (omega arith);
  }

  module _ (slot : ℕ) (idle : IsIdlePut records slot Free) (ok : Bool) (w : StoreView) (step : IsPutStep server g u (RecordPut slot Free) ok w) where
    low : slot_place g slot < 1 + g.pool
    low = let lt = step.page.0 in omega (arith, lt)

    -- the records before, and with the free one
    abbrev IsIdleIn : List Record → Type 0
    IsIdleIn pool = is_idle pool (record_in pool slot) ≡ true

    freed : IsIdleIn (slice_set records slot Free)
    freed = ap (is_idle (slice_set records slot Free)) (get_or-set_same records slot Free Free idle.there)

    held_pool : (c : Pick) → pool_on g (pages_by u c) ≡ records
    held_pool c = ap (λ (x : Contents). x.pool) (contents_held server g u epoch records heads rows standing.held c)

    slot_idle : IsIdleSlot g w slot
    slot_idle c = ⊎_elim
        (λ old. subst IsIdleIn (sym (ap (pool_on g) old.1 ∙ held_pool old.0)) idle.old_idle)
        (λ new. subst IsIdleIn (sym (ap (λ (x : Contents). x.pool) (ap (contents_of g) new ∙ put_is_read server g (pages_by u c) (standing.recoverable.each c).of_format (RecordPut slot Free) step.page) ∙ ap (λ l. slice_set l slot Free) (held_pool c))) freed)
        (picks u (slot_place g slot) (record_page Free) ok w step.step (let e = standing.held.count in omega (arith, e, low)) c)

    pub erased_behind : IsCleanBehindRoot g w
    erased_behind = record {
      records = λ i lt. ⊎_elim
          (λ same. inr (subst (IsIdleSlot g w) (sym same) slot_idle))
          (λ ne. inl (still (slot_place g slot) (record_page Free) ok w step.step low (slot_place g i) (omega (arith, lt)) (λ e. ne (omega (arith, e))) (front.pool i lt)))
          (cases_eq i slot);
      heads = heads_still (slot_place g slot) (record_page Free) ok w step.step low;
      maps = maps_still (slot_place g slot) (record_page Free) ok w step.step low;
    }
