-- The prepared works, as they are listed in memory.
use Rattle.jn_recovery.proofs.Common.{◌≡◌, ◌<◌, ◌&&◌, ℕ, zero, suc, Bool, true, false, List, [], ◌∷◌, length, map, Option, Some, None, refl, sym, ◌∙◌, ap, subst, find_at, slice_get_within, get_or_from_slice_get, is_some, slice_index_or, option_map, option_and_then, find, list_all, position_or_len, WorkId, work_eq, work_tells, stored_in, with_first, intentions_from, intended, ready_work, prepared_by, works_in, block_on, pages_by, StoredIntention, Record, Free, Intention, Ready, Going, FlagRecord, WorkState, intention_has_page, has_page, StableState, Prepared, record_in, is_prepared, is_intention, IsServing, state, outline, outline_of, name_of, IsTold, TellsWorks, find_by, find-at, find-listed, StoreView, Memory, view_of, next_by, Matches, StoredWork, stored_work, work_by}
use Rattle.jn_recovery.proofs.Standing.{finds}

-- a work with the bytes of its puts
abbrev pub prepared_of : (ℕ → List ℕ) → StoredWork → Prepared
prepared_of blocks s = record (ready_work s.head (map (intended blocks) s.list) s.reads) { going = s.going }

pub works_by : (pool : List Record) (blocks : ℕ → List ℕ) (w : WorkId) (o : Option Record) → prepared_by pool blocks w o ≡ option_map (prepared_of blocks) (option_and_then (work_by pool w) o)
works_by pool blocks w None = refl
works_by pool blocks w (Some Free) = refl
works_by pool blocks w (Some (Intention v u k i)) = refl
works_by pool blocks w (Some (Ready head n reads)) = refl
works_by pool blocks w (Some (Going head n reads)) = refl
works_by pool blocks w (Some (FlagRecord f)) = refl

pub same_outline : (blocks : ℕ → List ℕ) (list : List StoredIntention) → map outline_of list ≡ map outline (map (intended blocks) list)
same_outline blocks [] = refl
same_outline blocks (i ∷ list) = ap (λ l. outline_of i ∷ l) (same_outline blocks list)

-- ---- each intention that stands has a page

found_page : (p : Record → Bool) (pool : List Record) (r : Record) → ((slot : ℕ) → slot < length pool → has_page (record_in pool slot) ≡ true) → find p pool ≡ Some r → has_page r ≡ true
found_page p pool r pages e =
    let at = sym (find_at p pool) ∙ e in
    subst (λ q. has_page q ≡ true) (get_or_from_slice_get pool (position_or_len p pool) r Free at) (pages (position_or_len p pool) (slice_get_within pool (position_or_len p pool) r at))

module _ (pool : List Record) (w : WorkId) (pages : (slot : ℕ) → slot < length pool → has_page (record_in pool slot) ≡ true) where
  pub listed_pages : (order n : ℕ) → list_all intention_has_page (intentions_from pool w order n) ≡ true
  listed_pages order zero = refl
  listed_pages order (suc n) = by (find (is_intention w order) pool) refl (listed_pages (suc order) n)
    where
      by : (o : Option Record) → find (is_intention w order) pool ≡ o → list_all intention_has_page (intentions_from pool w (suc order) n) ≡ true
          → list_all intention_has_page (with_first (option_and_then stored_in o) (intentions_from pool w (suc order) n)) ≡ true
      by None e rest = rest
      by (Some Free) e rest = rest
      by (Some (Intention v u k i)) e rest = ap (λ b. b && list_all intention_has_page (intentions_from pool w (suc order) n)) (found_page (is_intention w order) pool (Intention v u k i) pages e) ∙ rest
      by (Some (Ready head m reads)) e rest = rest
      by (Some (Going head m reads)) e rest = rest
      by (Some (FlagRecord f)) e rest = rest

  -- and so it is with a work's list
  pub stored_pages : (o : Option Record) (s : StoredWork) → option_and_then (work_by pool w) o ≡ Some s → list_all intention_has_page s.list ≡ true
  stored_pages None s e = absurd (cc e)
  stored_pages (Some Free) s e = absurd (cc e)
  stored_pages (Some (Intention v u k i)) s e = absurd (cc e)
  stored_pages (Some (Ready head n reads)) s e = subst (λ (x : StoredWork). list_all intention_has_page x.list ≡ true) (some_is e) (listed_pages 0 n)
    where
      some_is : {A : Type 0} {a b : A} → Some a ≡ Some b → a ≡ b
      some_is e = cc e
  stored_pages (Some (Going head n reads)) s e = subst (λ (x : StoredWork). list_all intention_has_page x.list ≡ true) (some_is e) (listed_pages 0 n)
    where
      some_is : {A : Type 0} {a b : A} → Some a ≡ Some b → a ≡ b
      some_is e = cc e
  stored_pages (Some (FlagRecord f)) s e = absurd (cc e)

module _ (m : Memory) (v : StoreView) (now : Matches m v) (serving : IsServing (view_of m v)) where
  abbrev blocks : ℕ → List ℕ
  blocks = block_on m.table.counts (pages_by v (λ n. false))

  pub works_seen : (w : WorkId) → (state (view_of m v)).works w ≡ works_in m.records (block_on m.table.counts (pages_by v (λ n. false))) w
  works_seen w = ap (λ (x : StableState). x.works w) (finds m.server m.table.counts v m.epoch m.records m.table.heads m.table.maps now.standing (λ n. false))

  pub works_told : (w : WorkId) → (state (view_of m v)).works w ≡ option_map (prepared_of (block_on m.table.counts (pages_by v (λ n. false)))) (option_map stored_work (find_by work_eq name_of m.works w))
  works_told w = works_seen w ∙ works_by m.records (block_on m.table.counts (pages_by v (λ n. false))) w (find (is_prepared w) m.records)
      ∙ sym (ap (option_map (prepared_of (block_on m.table.counts (pages_by v (λ n. false))))) (now.works.each w))

  pages : (slot : ℕ) → slot < length m.records → has_page (record_in m.records slot) ≡ true
  pages slot lt = (now.standing.held.pool slot lt).of_format.whole

  told : (s : WorkState) → find_by work_eq name_of m.works (name_of s) ≡ Some s → IsTold (view_of m v) s
  told s e = record {
    work = prepared_of (block_on m.table.counts (pages_by v (λ n. false))) (stored_work s);
    stands = works_told (name_of s) ∙ ap (λ o. option_map (prepared_of (block_on m.table.counts (pages_by v (λ n. false)))) (option_map stored_work o)) e;
    tid = refl;
    client = refl;
    list = same_outline (block_on m.table.counts (pages_by v (λ n. false))) s.list;
    addresses = stored_pages m.records (name_of s) pages (find (is_prepared (name_of s)) m.records) (stored_work s) (sym (now.works.each (name_of s)) ∙ ap (option_map stored_work) e);
    reads = refl;
    going = refl;
    next = sym (ap next_by e);
  }

  pub tells_works : TellsWorks (view_of m v) m.works
  tells_works = record {
    all = record { different = now.works.differ; all = λ w. find-listed work_eq name_of m.works w ∙ sym (some_is (find_by work_eq name_of m.works w)) ∙ sym (ap is_some (works_told w)) };
    each = λ i d h. told (slice_index_or m.works i d) (find-at work_eq work_tells name_of m.works i d h now.works.differ);
  }
    where
      some_is : (o : Option WorkState) → is_some (option_map (prepared_of (block_on m.table.counts (pages_by v (λ n. false)))) (option_map stored_work o)) ≡ is_some o
      some_is None = refl
      some_is (Some s) = refl
