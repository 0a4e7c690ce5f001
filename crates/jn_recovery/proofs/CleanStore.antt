-- What stands on a store of which root, records and heads are clean, before its map pages are read and after.
use Rattle.jn_recovery.proofs.Common.{◌≡◌, ⊎_elim, ◌<◌, ◌≤◌, ◌+◌, ◌||◌, ℕ, zero, suc, Bool, true, false, if◌then◌else◌, List, [], length, get_or, refl, sym, ◌∙◌, ap, subst, arith, fun_ext, cases_lt, nat_tests, get_or_past, nat_lt, drop, inl, inr, ServerNo, head_in, IsHeadOf, IsHeadStored, found_on, pages_by, half_of, root_by, epoch_by, listed, head_on, head_or_free, heads_on, block_on, IsOfFormat, IsRecoverable, IsStanding, Head, FreeHead, Used, Record, Root, head_page, record_page, root_page, IsRoot, Counts, page_count, slot_place, head_place, data_place, root_is_read, slot_page, record_in, HoldsRecords, IsReadable, IsRecordPage, IsFewer, fewer_recoverable, Pick, StoreView, IsClean, IsOnly, IsSamePage, front_count, head_blocks, most_maps, most_blocks, LoadedFrom, HoldsHeads, layouts_on, IsMapChoice, MapsLoadable, AreRows, HaveOneHead, AreNamedOnce, same_only, layouts_in, entry_of, names_for_block, works_have, contents_of, pool_on, names_block, choice_picked, IsHead, FileFits, IsMapPage, head_at, at_cell, head_map, layout_at, layouts_by, NamesMap, entry_in, Candidate}
use Rattle.jn_page_state.proofs.PageChanges.{length-listed, listed_same}
use Rattle.jn_records.proofs.HeadPages.{used_kind, used_map, map_entry, block_entry}
use Rattle.jn_records.proofs.Heads.{head_is_read}
use Rattle.jn_store.specs.Choices.{IsChoice, Agree}
use Rattle.jn_recovery.proofs.Cells.{at_place, address_at, map_below, cell_fits, same_layouts, named_cell}

-- where no candidate came, each pick finds the pages of one before
pub fewer_pages : (v w : StoreView) → IsFewer v w → (c : Pick) → (b : Pick) × (pages_by w c ≡ pages_by v b)
fewer_pages v w fewer c = let at = choice_picked v (pages_by w c) choice in (at.0, fun_ext (λ k. ⊎_elim (λ lt. at.1 k lt) (λ past. none w (λ n. c n) k (outside k w.count (more k past)) ∙ sym (none v at.0 k (outside k v.count past))) (cases_lt k v.count)))
  where
    inside : (a b : ℕ) → a < b → nat_lt a b ≡ true
    inside a b h = grind (arith, nat_tests, h)

    outside : (a b : ℕ) → b ≤ a → nat_lt a b ≡ false
    outside a b h = grind (arith, nat_tests, h)

    more : (k : ℕ) → v.count ≤ k → w.count ≤ k
    more k past = let e = fewer.count in omega (arith, e, past)

    none : (x : StoreView) (b : Pick) (k : ℕ) → nat_lt k x.count ≡ false → pages_by x b k ≡ []
    none x b k e = ap (λ t. if t then half_of x k b else []) e

    by : (k : ℕ) (t : Bool) → Candidate w k (if t then w.second k else w.first k)
    by k true = inr refl
    by k false = inl refl

    choice : IsChoice v (pages_by w c)
    choice k lt = fewer.shrinks k lt (pages_by w c k) (subst (Candidate w k) (sym (ap (λ t. if t then half_of w k c else []) (inside k w.count (let e = fewer.count in omega (arith, e, lt))))) (by k (c k)))

listed_at : {A : Type 0} (f : ℕ → A) (d : A) (i n k : ℕ) → k < n → get_or (listed f i n) k d ≡ f (i + k)
listed_at f d i zero k lt = absurd (omega (arith, lt))
listed_at f d i (suc n) zero lt = ap f (let e : i ≡ i + 0 = omega arith in e)
listed_at f d i (suc n) (suc k) lt = listed_at f d (suc i) n k (omega (arith, lt)) ∙ ap f (let e : suc i + k ≡ i + suc k = omega arith in e)

-- a head stands on its page with the map pages that it names
map_named : (g : Counts) (pages : ℕ → List ℕ) (place j d : ℕ) (h : Head) → g.leaves < 65536 → place < g.heads → IsHead g.leaves h → FileFits h → pages (head_place g place) ≡ head_page h → j < most_maps → head_map h j ≡ suc d → NamesMap g pages d
map_named g pages place j d FreeHead few lt is fits e below names = absurd (omega (arith, names))
map_named g pages place j d (Used f xs ms) few lt is fits e below names = record {
  head = place;
  at = j;
  is_head = lt;
  used = used_kind g.leaves (pages (head_place g place)) few f xs ms is fits e;
  below = below;
  names = used_map g.leaves (pages (head_place g place)) few f xs ms is fits e j below ∙ names;
}

module _ (server : ServerNo) (g : Counts) (u : StoreView) (recoverable : IsRecoverable server g u) (clean : (i : ℕ) → i < front_count g → IsClean u i) where
  format : IsOfFormat server g (pages_by u (λ n. false))
  format = (recoverable.each (λ n. false)).of_format

  abbrev pub root_version : ℕ
  root_version = (recoverable.each (λ n. false)).of_format.root.0

  abbrev pub root_epoch : ℕ
  root_epoch = (recoverable.each (λ n. false)).of_format.root.1

  abbrev pub root_there : Root
  root_there = record (root_by server g (recoverable.each (λ n. false)).of_format.root.1) { version = (recoverable.each (λ n. false)).of_format.root.0 }

  -- the heads, by whichever pick
  abbrev pub heads_there : List Head
  heads_there = heads_on g (pages_by u (λ n. false))

  within : (k : ℕ) → k < page_count g → k < u.count
  within k lt = subst (λ n. k < n) recoverable.count lt

  inside : (a b : ℕ) → a < b → nat_lt a b ≡ true
  inside a b h = grind (arith, nat_tests)

  page_first : (k : ℕ) → k < page_count g → pages_by u (λ n. false) k ≡ u.first k
  page_first k lt = ap (λ b. if b then u.first k else []) (inside k u.count (within k lt))

  -- a page with one candidate, by each pick
  one_page : (c : Pick) (k : ℕ) → IsClean u k → pages_by u c k ≡ pages_by u (λ n. false) k
  one_page c k e = ap (λ x. if nat_lt k u.count then x else []) (half (c k))
    where
      half : (b : Bool) → (if b then u.second k else u.first k) ≡ u.first k
      half true = sym e
      half false = refl

  only_at : (k : ℕ) (page : List ℕ) → k < front_count g → pages_by u (λ n. false) k ≡ page → IsOnly u k page
  only_at k page lt e = let first : u.first k ≡ page = sym (page_first k (omega (arith, lt))) ∙ e in record { first = first; second = sym (clean k lt) ∙ first }

  pub root_is : IsRoot root_there
  root_is = (recoverable.each (λ n. false)).of_format.root.2

  pub root_only : IsOnly u 0 (root_page root_there)
  root_only = only_at 0 (root_page root_there) (omega arith) (recoverable.each (λ n. false)).of_format.root.3

  pub root_found : (found_on g u (λ n. false)).epoch ≡ root_epoch
  root_found = ap epoch_by (root_is_read (pages_by u (λ n. false) 0) root_there root_is (recoverable.each (λ n. false)).of_format.root.3)

  pub slots_readable : (slot : ℕ) → slot < g.pool → IsReadable u slot
  slots_readable slot lt = record {
    clean = clean (slot_page slot) (omega (arith, lt));
    page = subst IsRecordPage (page_first (slot_page slot) (omega (arith, lt))) (subst (λ k. IsRecordPage (pages_by u (λ n. false) k)) (let e : slot_place g slot ≡ slot_page slot = omega arith in e) (format.pool slot lt));
  }

  -- ---- the heads

  stored : (place : ℕ) → place < g.heads → IsHeadStored g u place (head_in heads_there place)
  stored place lt =
      let at = format.heads place lt in
      let read : head_on g (pages_by u (λ n. false)) place ≡ at.0 = ap head_or_free (head_is_read g.leaves (pages_by u (λ n. false) (head_place g place)) at.0 root_is.leaves at.1 at.2 at.3) in
      let zero_on : 0 + place ≡ place = omega arith in
      subst (IsHeadStored g u place) (sym (listed_at (head_on g (pages_by u (λ n. false))) FreeHead 0 g.heads place lt ∙ ap (head_on g (pages_by u (λ n. false))) zero_on ∙ read))
      (record { whole = at.1; fits = at.2; only = only_at (head_place g place) (head_page at.0) (omega (arith, lt)) at.3 })

  places : length heads_there ≡ g.heads
  places = length-listed (head_on g (pages_by u (λ n. false))) 0 g.heads

  past_heads : (place : ℕ) → g.heads ≤ place → head_in heads_there place ≡ FreeHead
  past_heads place past = get_or_past heads_there place FreeHead (let e = places in omega (arith, past, e))

  each : (place : ℕ) → IsHeadOf g.leaves (head_in heads_there place)
  each place = ⊎_elim
      (λ lt. let at = stored place lt in record { is_head = at.whole; fits = at.fits })
      (λ past. subst (IsHeadOf g.leaves) (sym (past_heads place past)) (record { is_head = record { whole = refl; within_leaves = refl }; fits = tt }))
      (cases_lt place g.heads)

  heads_same : (c : Pick) → heads_on g (pages_by u c) ≡ heads_there
  heads_same c = listed_same (head_on g (pages_by u (λ n. false))) (head_on g (pages_by u c)) 0 g.heads (λ i low high. ap (λ x. head_or_free (head_at x)) (one_page c (head_place g i) (clean (head_place g i) (omega (arith, high)))))

  one_head : HaveOneHead heads_there
  one_head = (recoverable.each (λ n. false)).consistent.distinct.files

  -- ---- their map pages, by each pick

  map_page_below : (place j d : ℕ) → head_map (head_in heads_there place) j ≡ suc d → d < g.leaves
  map_page_below place j d e = map_below g.leaves (head_in heads_there place) j d (each place).is_head.within_leaves e

  whole_map : (c : Pick) (place j d : ℕ) → j < most_maps → head_map (head_in heads_there place) j ≡ suc d → IsMapPage g.leaves (pages_by u c (data_place g d))
  whole_map c place j d below e = ⊎_elim
      (λ lt. let at = stored place lt in
      let page : pages_by u c (head_place g place) ≡ head_page (head_in heads_there place) = one_page c (head_place g place) (clean (head_place g place) (omega (arith, lt))) ∙ page_first (head_place g place) (omega (arith, lt)) ∙ at.only.first in
      (recoverable.each c).of_format.maps d (map_page_below place j d e) (map_named g (pages_by u c) place j d (head_in heads_there place) root_is.leaves lt at.whole at.fits page below e))
      (λ past. let none = ap (λ h. head_map h j) (past_heads place past) in absurd (omega (arith, none, e)))
      (cases_lt place g.heads)

  module _ (c : Pick) (pages : ℕ → List ℕ) (agree : Agree u.count pages (pages_by u c)) where
    data_same : (d : ℕ) → d < g.leaves → pages (data_place g d) ≡ pages_by u c (data_place g d)
    data_same d lt = agree (data_place g d) (within (data_place g d) (omega (arith, lt)))

    layouts_as : layouts_on g heads_there pages ≡ layouts_in (contents_of g (pages_by u c))
    layouts_as =
        same_layouts g.leaves (λ d. entry_in (pages (data_place g d))) (entry_of (block_on g (pages_by u c))) heads_there
        (λ i j d k names low. ap (λ x. entry_in x k) (data_same d (map_page_below i j d names)) ∙ sym (block_entry (pages_by u c (data_place g d)) k low))
        ∙ ap (λ hs. layouts_by (entry_of (block_on g (pages_by u c))) hs) (sym (heads_same c))

    its_map_page : (place j d : ℕ) → j < most_maps → head_map (head_in heads_there place) j ≡ suc d → IsMapPage g.leaves (pages (data_place g d))
    its_map_page place j d below e = subst (IsMapPage g.leaves) (sym (data_same d (map_page_below place j d e))) (whole_map c place j d below e)

    leads : (place j d k : ℕ) → j < most_maps → head_map (head_in heads_there place) j ≡ suc d → k < head_blocks → entry_in (pages (data_place g d)) k ≤ g.leaves
    leads place j d k below e low =
        let at = its_map_page place j d below e in
        let same = map_entry g.leaves (pages (data_place g d)) root_is.leaves at.entries at.row.count at.row.within_leaves at.is_page k low in
        let le = address_at g.leaves at.entries k at.row.within_leaves in omega (arith, same, le)

    cell_leaf : (place p a : ℕ) → at_cell (layout_at (layouts_on g heads_there pages) place) p ≡ suc a → a < g.leaves
    cell_leaf place p a e =
        let le = cell_fits g.leaves (λ d. entry_in (pages (data_place g d))) (head_in heads_there place) p (each place).is_head.within_leaves (λ j d k below names low. leads place j d k below names low) in
        let at = ap (λ l. at_cell l p) (at_place (λ d. entry_in (pages (data_place g d))) heads_there place) in omega (arith, le, at, e)

    named : (place p a : ℕ) → p < most_blocks → at_cell (layout_at (layouts_on g heads_there pages) place) p ≡ suc a → names_block (contents_of g (pages_by u c)) a ≡ true
    named place p a below e =
        ap (λ b. b || works_have (names_for_block (suc a)) (pool_on g (pages_by u c)))
        (named_cell (layouts_in (contents_of g (pages_by u c))) most_blocks place p a below (ap (λ ls. at_cell (layout_at ls place) p) (sym layouts_as) ∙ e))

    map_choice : IsMapChoice g heads_there u pages
    map_choice = record {
      whole = its_map_page;
      once = subst AreNamedOnce (sym layouts_as) (recoverable.each c).consistent.addresses.heads;
      leaves = λ place p a below e. let lt = cell_leaf place p a e in record {
        clean = recoverable.clean c a lt (named place p a below e);
        tail = ap (drop 448) (sym (page_first (data_place g a) (omega (arith, lt)))) ∙ format.data_pages a lt;
      };
    }

  pub loadable : MapsLoadable g heads_there u
  loadable = record {
    slots = places;
    each = each;
    files = one_head;
    stored = λ slot lt. (stored slot (let e = places in omega (arith, lt, e))).only;
    choices = λ pages choice. let at = choice_picked u pages choice in map_choice at.0 pages at.1;
  }

  -- ---- once the map pages are read

  module _ (version epoch : ℕ) (is : IsRoot (record (root_by server g epoch) { version = version })) (only : IsOnly u 0 (root_page (record (root_by server g epoch) { version = version }))) (records : List Record) (size : length records ≡ g.pool) (hold : HoldsRecords records u)
      (z : StoreView) (read : LoadedFrom g heads_there u z) (rows : List (List ℕ)) (are : AreRows g.leaves rows) (holds : HoldsHeads g rows heads_there z) where
    pub front_same : (i : ℕ) → i < front_count g → IsSamePage u z i
    front_same i lt = read.others i (within i (omega (arith, lt))) (λ d e. absurd (omega (arith, lt, e)))

    pub load_fewer : IsFewer u z
    load_fewer = record { count = read.later.count; shrinks = read.fewer }

    pub standing : IsStanding server g z epoch records heads_there rows
    standing = record {
      held = record {
        count = recoverable.count ∙ sym read.later.count;
        version = version;
        root_fits = is;
        root = same_only u z 0 _ (front_same 0 (omega arith)) only;
        slots = size;
        pool = λ slot lt. let at = hold slot lt in record { of_format = at.of_format; only = same_only u z (slot_page slot) (record_page (record_in records slot)) (front_same (slot_page slot) (let e = size in omega (arith, lt, e))) at.only };
        places = places;
        heads_stored = λ place lt. let at = stored place lt in record { whole = at.whole; fits = at.fits; only = same_only u z (head_place g place) (head_page (head_in heads_there place)) (front_same (head_place g place) (omega (arith, lt))) at.only };
        pages = are.count;
        maps_stored = λ place lt j d below e. let there = map_page_below place j d e in let row = are.each d there in record {
          below = there;
          whole = record { count = row.count; within_leaves = row.within_leaves };
          only = holds.maps place j d below e;
        };
      };
      recoverable = fewer_recoverable u z load_fewer server g recoverable;
    }
