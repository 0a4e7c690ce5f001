-- A store of a sound image is one from which a recovery may begin.
use Rattle.jn_page_state.proofs.Common.{if◌then◌else◌, ◌≡◌, ⊎_elim, ◌<◌, ◌≤◌, ◌+◌, ℕ, suc, Bool, true, false, [], length, Option, Some, None, refl, sym, ap, subst, ◌∙◌, true≢false, arith, nat_eq, nat_lt, is_some, drop, cases_lt, nat_tests, get_or_past, FileNo, ServerNo, Tid, WorkId, StoredIntention, Free, Intention, root_page, Image, IsSound, page_count, slot_place, head_place, data_place, is_used, file_in, address_in, map_in, entry_in, IsWholeMap, IsMapPage, record_is_read, Pick, record_in, is_prepared, is_flag, IsLoadable, StoreView, IsOnly, Contents, entry_of, layouts_in, layout_at, layout_by, is_layout_of, map_cell, state_in, works_in, flags_in, flag_by, prepared_by, CountsFit, IsStoreOf, record_or_free, record_on, pool_on, head_on, heads_on, block_on, contents_of, state_of, pages_by, half_of, root_by, IsOfFormat, IsHeadPage, PassesOnce, IsCompleteBy, IsSuppliedIn, Intends, Addresses, AddressesDiffer, IsConsistent, IsRecoverable, length-map, Spot, InHead, AsMap, InMap, IsWrittenAt, AddressesOnce}
use Rattle.jn_page_state.proofs.FilesOnPages.{loadable_found}
use Rattle.jn_page_state.proofs.Found.{none_found}
use Rattle.jn_page_state.proofs.Images.{heads_once, listed_files, files_listing}
use Rattle.jn_page_state.proofs.Laying.{entry_cell}
use Rattle.jn_page_state.proofs.PageChanges.{length-listed}
use Rattle.jn_page_state.proofs.MapPages.{listed_at}
use Rattle.jn_page_state.proofs.Spots.{Cell, HeadCell, EntryCell, MapCell, cell_stands, file_stands, map_fits, names_same}

-- ---- without records

module _ (c : Contents) (free : (i : ℕ) → record_in c.pool i ≡ Free) where
  pub no_works : (w : WorkId) → works_in c.pool c.blocks w ≡ None
  no_works w = ap (prepared_by c.pool c.blocks w) (none_found (is_prepared w) Free c.pool (λ j. ap (is_prepared w) (free j)))

  pub no_flags : (t : Tid) → flags_in c.pool t ≡ None
  no_flags t = ap flag_by (none_found (is_flag t) Free c.pool (λ j. ap (is_flag t) (free j)))

  clash : {A : Type 0} (o : Option A) → o ≡ None → is_some o ≡ true → ⊥
  clash None e t = true≢false (sym t)
  clash (Some x) e t = absurd (some_none x e)
    where
      some_none : {A : Type 0} (x : A) → Some x ≡ None → ⊥
      some_none x e = cc

  some : {A : Type 0} (o : Option A) (x : A) → o ≡ Some x → is_some o ≡ true
  some o x e = ap (λ q. is_some q) e

  pub free_loadable : (server : ServerNo) (heads : ℕ) → ((f : FileNo) → PassesOnce (λ i. is_layout_of f (layout_at (layouts_in c) i))) → length c.heads ≤ heads → IsLoadable server heads (state_in c)
  free_loadable server heads once few = let files = files_listing (layouts_in c) once in record {
    orderly = record {
      works_few = record { keys = []; listing = record { different = refl; all = λ w. sym (ap (λ o. is_some o) (no_works w)) }; few = omega arith };
      flags_few = record { keys = []; listing = record { different = refl; all = λ t. sym (ap (λ o. is_some o) (no_flags t)) }; few = omega arith };
      works_given = λ w t. absurd (clash (works_in c.pool c.blocks w) (no_works w) t);
      flags_given = λ u t. absurd (clash (flags_in c.pool u) (no_flags u) t);
      prepared = λ w p e. absurd (clash (works_in c.pool c.blocks w) (no_works w) (some (works_in c.pool c.blocks w) p e));
      apart = λ v w p q ne a b. absurd (clash (works_in c.pool c.blocks v) (no_works v) (some (works_in c.pool c.blocks v) p a));
    };
    works = [];
    files = listed_files (layouts_in c);
    works_all = record { different = refl; all = λ w. sym (ap (λ o. is_some o) (no_works w)) };
    files_all = files.0;
    fits = let few_files = files.1 in let size : length (layouts_in c) ≡ length c.heads = length-map c.heads (layout_by (entry_of c.blocks)) in omega (arith, few, few_files, size);
  }

-- ---- the cells of an image

-- where the address of a cell is written: for an entry of a map page, also where the map page's own is
data IsAt (m : Image) (i q a : ℕ) : Type 0 where
  AtHead : IsWrittenAt m (suc a) (InHead i q) → IsAt m i q a
  AtMap : (j : ℕ) → q ≡ map_cell j → IsWrittenAt m (suc a) (AsMap i j) → IsAt m i q a
  AtEntry : (j d k : ℕ) → q ≡ entry_cell j k → IsWrittenAt m (suc d) (AsMap i j) → IsWrittenAt m (suc a) (InMap d k) → IsAt m i q a

abbrev kind : Spot → ℕ
kind (InHead i k) = 0
kind (AsMap i j) = 1
kind (InMap d k) = 2

abbrev row : Spot → ℕ
row (InHead i k) = i
row (AsMap i j) = i
row (InMap d k) = d

abbrev column : Spot → ℕ
column (InHead i k) = k
column (AsMap i j) = j
column (InMap d k) = k

one_kind : (x y : Spot) → x ≡ y → nat_eq (kind x) (kind y) ≡ true
one_kind x y e = ap (λ z. nat_eq (kind x) (kind z)) (sym e) ∙ grind (arith, nat_tests)

-- so each cell has its own
module _ (m : Image) (once : (a : ℕ) → AddressesOnce m a) where
  one_spot : (a : ℕ) (x y : Spot) → IsWrittenAt m (suc a) x → IsWrittenAt m (suc a) y → x ≡ y
  one_spot a x y u w = once (suc a) (omega arith) x y u w

  apart : (a : ℕ) (x y : Spot) → nat_eq (kind x) (kind y) ≡ false → IsWrittenAt m (suc a) x → IsWrittenAt m (suc a) y → ⊥
  apart a x y ne u w = true≢false (sym (one_kind x y (one_spot a x y u w)) ∙ ne)

  one_cell : (a i j p q : ℕ) → IsAt m i p a → IsAt m j q a → (i ≡ j) × (p ≡ q)
  one_cell a i j p q (AtHead u) (AtHead w) = let e = one_spot a (InHead i p) (InHead j q) u w in (ap row e, ap column e)
  one_cell a i j p q (AtHead u) (AtMap l is w) = absurd (apart a (InHead i p) (AsMap j l) refl u w)
  one_cell a i j p q (AtHead u) (AtEntry l d k is s w) = absurd (apart a (InHead i p) (InMap d k) refl u w)
  one_cell a i j p q (AtMap h is u) (AtHead w) = absurd (apart a (AsMap i h) (InHead j q) refl u w)
  one_cell a i j p q (AtMap h is u) (AtMap l at w) = let e = one_spot a (AsMap i h) (AsMap j l) u w in (ap row e, is ∙ ap map_cell (ap column e) ∙ sym at)
  one_cell a i j p q (AtMap h is u) (AtEntry l d k at s w) = absurd (apart a (AsMap i h) (InMap d k) refl u w)
  one_cell a i j p q (AtEntry h b c is r u) (AtHead w) = absurd (apart a (InMap b c) (InHead j q) refl u w)
  one_cell a i j p q (AtEntry h b c is r u) (AtMap l at w) = absurd (apart a (InMap b c) (AsMap j l) refl u w)
  one_cell a i j p q (AtEntry h b c is r u) (AtEntry l d k at s w) =
      let e = one_spot a (InMap b c) (InMap d k) u w in
      let f = one_spot b (AsMap i h) (AsMap j l) r (subst (λ x. IsWrittenAt m (suc x) (AsMap j l)) (sym (ap row e)) s) in
      (ap row f, is ∙ ap (λ x. entry_cell x c) (ap column f) ∙ ap (λ x. entry_cell l x) (ap column e) ∙ sym at)

-- ---- the image

module _ (s : ServerNo) (m : Image) (sound : IsSound s m) (fit : CountsFit s m.counts) (v : StoreView) (store : IsStoreOf m v) (c : Pick) where
  one_half : (k : ℕ) (b : Bool) → IsOnly v k (m.bytes k) → (if b then v.second k else v.first k) ≡ m.bytes k
  one_half k true only = only.second
  one_half k false only = only.first

  pub page_at : (k : ℕ) → k < page_count m.counts → pages_by v c k ≡ m.bytes k
  page_at k lt = let e : page_count m.counts ≡ v.count = store.count in
      let t : nat_lt k v.count ≡ true = inside k v.count (omega (arith, lt, e)) in
      ap (λ b. if b then half_of v k c else []) t ∙ one_half k (c k) (store.pages k lt)
    where
      inside : (a b : ℕ) → a < b → nat_lt a b ≡ true
      inside a b h = grind (arith, nat_tests)

  head_at : (i : ℕ) → i < m.counts.heads → pages_by v c (head_place m.counts i) ≡ m.bytes (head_place m.counts i)
  head_at i lt = page_at (head_place m.counts i) (omega (arith, lt))

  data_at : (d : ℕ) → d < m.counts.leaves → pages_by v c (data_place m.counts d) ≡ m.bytes (data_place m.counts d)
  data_at d lt = page_at (data_place m.counts d) (omega (arith, lt))

  heads_format : (i : ℕ) → i < m.counts.heads → IsHeadPage m.counts.leaves (pages_by v c (head_place m.counts i))
  heads_format i lt = let h = sound.heads i lt in (h.0, h.1, h.2, head_at i lt ∙ h.4)

  maps_whole : (d : ℕ) → IsWholeMap m.counts (pages_by v c) d
  maps_whole d lt named = subst (IsMapPage m.counts.leaves) (sym (data_at d lt)) (sound.maps d lt (names_same m.counts (pages_by v c) m.bytes head_at d named))

  pub image_format : IsOfFormat s m.counts (pages_by v c)
  image_format = record {
    root = (
      m.version,
      sound.root.0,
      record { version = sound.root.3; server = fit.server_fits; pool = fit.pool; heads = fit.heads; leaves = fit.leaves; epoch = sound.root.1 },
      page_at 0 (omega arith) ∙ sound.root.2 ∙ ap (λ q. root_page (record (root_by q m.counts sound.root.0) { version = m.version })) sound.server,
    );
    pool = λ i lt. (Free, record { whole = refl; fits = tt }, page_at (slot_place m.counts i) (omega (arith, lt)) ∙ sound.pool i lt);
    heads = heads_format;
    data_pages = λ d lt. ap (drop 448) (data_at d lt) ∙ sound.tails d lt;
    maps = maps_whole;
  }

  pub all_free : (i : ℕ) → record_in (pool_on m.counts (pages_by v c)) i ≡ Free
  all_free i = ⊎_elim
      (λ lt. listed_at (record_on m.counts (pages_by v c)) Free 0 m.counts.pool i lt
      ∙ ap (λ k. record_on m.counts (pages_by v c) k) (start i)
      ∙ ap record_or_free (record_is_read (pages_by v c (slot_place m.counts i)) Free refl tt (page_at (slot_place m.counts i) (omega (arith, lt)) ∙ sound.pool i lt)))
      (λ past. get_or_past (pool_on m.counts (pages_by v c)) i Free (let l = length-listed (record_on m.counts (pages_by v c)) 0 m.counts.pool in omega (arith, past, l)))
      (cases_lt i m.counts.pool)
    where
      start : (i : ℕ) → 0 + i ≡ i
      start i = omega arith

  -- the head of a file, on the image
  record HeadFacts (i : ℕ) (f : FileNo) : Type 0 where
    below : i < m.counts.heads
    used : is_used (m.bytes (head_place m.counts i)) ≡ true
    file : file_in (m.bytes (head_place m.counts i)) ≡ f.0

  facts : (i : ℕ) (f : FileNo) → is_layout_of f (layout_at (layouts_in (contents_of m.counts (pages_by v c))) i) ≡ true → HeadFacts i f
  facts i f t = let at = file_stands m.counts (pages_by v c) fit.leaves heads_format (entry_of (block_on m.counts (pages_by v c))) i f t in
      record { below = at.0; used = ap is_used (sym (head_at i at.0)) ∙ at.1; file = ap file_in (sym (head_at i at.0)) ∙ at.2 }

  files_once : (f : FileNo) → PassesOnce (λ i. is_layout_of f (layout_at (layouts_in (contents_of m.counts (pages_by v c))) i))
  files_once f i j a b = let x = facts i f a in let y = facts j f b in sound.files f.0 i j x.below y.below (sound.heads i x.below) (sound.heads j y.below) x.used x.file y.used y.file

  -- a cell with an address, on the image
  written : (i q a : ℕ) → Addresses (layouts_in (contents_of m.counts (pages_by v c))) i q a → IsAt m i q a
  written i q a t = let at = cell_stands m.counts (pages_by v c) fit.leaves heads_format i q a t in by at.0 at.1 (ap is_used (sym (head_at i at.0)) ∙ at.1) at.2
    where
      by : i < m.counts.heads → is_used (pages_by v c (head_place m.counts i)) ≡ true → is_used (m.bytes (head_place m.counts i)) ≡ true → Cell m.counts (pages_by v c) i q (suc a) → IsAt m i q a
      by lt there used (HeadCell low at) = AtHead (record { head = lt; used = used; below = low }, ap (λ page. address_in page q) (sym (head_at i lt)) ∙ at)
      by lt there used (MapCell j low is_at at) = AtMap j is_at (record { head = lt; used = used; below = low }, ap (λ page. map_in page j) (sym (head_at i lt)) ∙ at)
      by lt there used (EntryCell j d k low below is_at names at) =
          let fits = map_fits m.counts (pages_by v c) fit.leaves heads_format i j d lt there low names in
          let named = ap (λ page. map_in page j) (sym (head_at i lt)) ∙ names in
          AtEntry j d k is_at (record { head = lt; used = used; below = low }, named)
          (fits, record { head = i; at = j; is_head = lt; used = used; below = low; names = named }, below, ap (λ page. entry_in page k) (sym (data_at d fits)) ∙ at)

  no_intention : (i : ℕ) (t : StoredIntention) → Intends (pool_on m.counts (pages_by v c)) i t → ⊥
  no_intention i t h = other (sym (all_free i) ∙ h.stands)
    where
      other : {w : WorkId} {u : Tid} {k : ℕ} → Free ≡ Intention w u k t → ⊥
      other e = cc

  image_addresses : AddressesDiffer m.counts.leaves (contents_of m.counts (pages_by v c))
  image_addresses = record {
    heads = λ d i p j q x y. one_cell m sound.addresses d i j p q (written i p d x) (written j q d y);
    works = λ d i j p q t u x y a b. absurd (no_intention i t x);
    works_fit = λ d i p t x a. absurd (no_intention i t x);
    carried = λ d i j p q t x a y. absurd (no_intention i t x);
  }

  image_consistent : IsConsistent m.counts (contents_of m.counts (pages_by v c))
  image_consistent = record {
    distinct = record {
      works = λ w i j a b. absurd (true≢false (sym a ∙ ap (is_prepared w) (all_free i)));
      flags = λ t i j a b. absurd (true≢false (sym a ∙ ap (is_flag t) (all_free i)));
      files = heads_once (entry_of (block_on m.counts (pages_by v c))) (heads_on m.counts (pages_by v c)) files_once;
    };
    complete = λ i. subst (IsCompleteBy (pool_on m.counts (pages_by v c))) (sym (all_free i)) tt;
    supplied = λ i. subst (IsSuppliedIn (heads_on m.counts (pages_by v c)) (pool_on m.counts (pages_by v c))) (sym (all_free i)) tt;
    addresses = image_addresses;
  }

  image_loadable : IsLoadable s m.counts.heads (state_of m.counts (pages_by v c))
  image_loadable = loadable_found s m.counts (pages_by v c) image_format
      (free_loadable (contents_of m.counts (pages_by v c)) all_free s m.counts.heads files_once (let l = length-listed (head_on m.counts (pages_by v c)) 0 m.counts.heads in omega (arith, l)))

pub image_recoverable : (s : ServerNo) (m : Image) (v : StoreView) → IsSound s m → CountsFit s m.counts → IsStoreOf m v → IsRecoverable s m.counts v
image_recoverable s m v sound fit store = record {
  count = store.count;
  each = λ c. record { of_format = image_format s m sound fit v store c; consistent = image_consistent s m sound fit v store c; loadable = image_loadable s m sound fit v store c };
  clean = λ c d lt named. let only = store.pages (data_place m.counts d) (omega (arith, lt)) in only.first ∙ sym only.second;
}
