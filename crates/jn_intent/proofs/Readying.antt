-- A work is prepared: its intentions are stored, and then its ready record is put.
use Rattle.jn_intent.proofs.Common.{◌≡◌, ◌<◌, ◌≤◌, ◌+◌, ◌-◌, ◌^◌, ◌&&◌, ◌||◌, ℕ, zero, suc, Bool, true, false, not, if◌then◌else◌, List, [], ◌∷◌, ◌++◌, length, map, take, Option, Some, None, refl, sym, ◌∙◌, ap, subst, true≢false, arith, fun_ext, take-length, nat_tests, sum_by-cons, Ok, Err, Result, is_ok, nat_eq, nat_lt, nat_le, position, slice_set, count_by, find, list_all, list_any, FreeNumbers, free_numbers, LockUnit, File, Block, WorkId, work_eq, TableView, IsTable, is_held, with_promised_heads, with_promised_leaves, IsReadyPut, intended, stored_list, prepared_by, heads_name, works_name, held_contents, found_on, block_on, pages_by, RecordPut, IsRecoverable, HasIntentions, IsWholeWork, IsStanding, Makes, readies, found_passes, FullIntention, StoredIntention, What, Fresh, Gone, Cut, Put, Need, Record, Free, Intention, Ready, Going, FlagRecord, WorkHead, WorkState, intention_has_page, names_what_it_needs, is_put, is_put_intention, RecordFits, ascends, reads_have_page, Counts, Pick, AddReady, Changed, made_by, ready_work, at_work, IsRecord, is_free, free_count, is_prepared, Puts, Records, Pages, Heads, Stops, IsPrepared, Accounts, StorageView, IsServing, IsLoadable, needed, state, name_of, Called, MayPrepare, WorkPrepared, shortage, short_of, reached, with_work, is_shortage, find_by, StoreView, StoreLater, IsStop, later_refl, later_trans, stop_since, Memory, accounts_of, view_of, next_by, next_in, held_in, holds_page, stored_by, rubbish_in, Matches, IsMade, IsKeptMemory, is_at, IsPreparing, StopsUnchanged, Begins, ListStored, none_any, step_of, Serves, serves_of, serving_by, may_load, loadable_found, works_seen, listed_pages, same_only, root_page, root_by, IsOnly, lacking, Layout, held_of, layouts_in, layouts_of, most_cells, names_for_block, total, HasMaps, one, slice_get, supplied_in, ◌*◌, MapPlaces, maps_in, names_maps, names_a_map, IsSuppliedBy, layouts_said, layouts_held, ServerNo, PutsFew}
use Rattle.jn_fields.specs.Names.{unit_in_range, unit_has_page}
use Rattle.jn_intent.proofs.PutPages.{puts_none, puts_within, puts_and_one, puts_more, all_puts_and_one}
use Rattle.jn_intent.proofs.LeftMaps.{same_lacking}
use Rattle.jn_intent.proofs.Storing.{lacking_length}
use Rattle.jn_storage.specs.declared.faults.PrepareFault.{PrepareFault}
use Rattle.jn_rows.proofs.Left.{whole-stop}
use Rattle.jn_intent.proofs.ReadyPool.{ready_state, are_fresh, listed_one, ready_flags, ready_free, ready_works, ready_rubbish, ready_names, work_found}
use Rattle.jn_intent.proofs.ReadyStates.{HasRoom, has_room, its_work, serves_ready}
use Rattle.jn_intent.proofs.Naming.{or_first, or_rest}
use Rattle.jn_intent.proofs.StoringPool.{same_work, pool_begins, free_there, stands_free}

-- ---- a list of puts and their pages

first : (b c : Bool) → (b && c) ≡ true → b ≡ true
first b c h = grind (arith, h)

rest : (b c : Bool) → (b && c) ≡ true → c ≡ true
rest b c h = grind (arith, h)

-- what the intentions hold is a page for each put and one for each map page that is named
held_puts : (blocks : ℕ → List ℕ) (layouts : List Layout) (stored : List StoredIntention) → list_all intention_has_page stored ≡ true → ((a : ℕ) → list_any (is_at a) stored ≡ true → heads_name most_cells layouts (suc a) ≡ false)
    → total (held_of layouts) stored ≡ count_by is_put_intention (map (intended blocks) stored) + count_by (λ (b : Bool). b) (names_maps stored)
held_puts blocks layouts [] pages unnamed = refl
held_puts blocks layouts (s ∷ stored) pages unnamed =
    let again = held_puts blocks layouts stored (rest (intention_has_page s) (list_all intention_has_page stored) pages) (λ a h. unnamed a (or_rest (is_at a s) (list_any (is_at a) stored) h)) in
    let b = sum_by-cons (λ (i : FullIntention). if is_put_intention i then 1 else 0) (intended blocks s) (map (intended blocks) stored) in
    let c = sum_by-cons (λ (b : Bool). if b then 1 else 0) (names_a_map s) (names_maps stored) in
    let block = ap one (held_alone s.address (λ a e. its a (or_first (nat_eq s.address (suc a)) (nat_eq s.map (suc a)) (same s.address (suc a) e))) ∙ puts s.what s.address (first (intention_has_page s) (list_all intention_has_page stored) pages)) in
    let map = ap one (held_alone s.map (λ a e. its a (or_rest (nat_eq s.address (suc a)) (nat_eq s.map (suc a)) (same s.map (suc a) e)))) in
    omega (arith, again, b, c, block, map)
  where
    same : (n m : ℕ) → n ≡ m → nat_eq n m ≡ true
    same n m e = grind (arith, nat_tests, e)

    its : (a : ℕ) → is_at a s ≡ true → heads_name most_cells layouts (suc a) ≡ false
    its a h = unnamed a (or_first (is_at a s) (list_any (is_at a) stored) h)

    held_alone : (n : ℕ) → ((a : ℕ) → n ≡ suc a → heads_name most_cells layouts (suc a) ≡ false) → holds_page layouts n ≡ nat_lt 0 n
    held_alone zero none = no (heads_name most_cells layouts 0) (nat_lt 0 0) (grind (arith, nat_tests))
      where
        no : (b c : Bool) → c ≡ false → (c && not b) ≡ c
        no b c h = grind (arith, h)
    held_alone (suc a) none = ap (λ b. nat_lt 0 (suc a) && not b) (none a refl) ∙ yes (nat_lt 0 (suc a))
      where
        yes : (c : Bool) → (c && true) ≡ c
        yes true = refl
        yes false = refl

    puts : (what : What) (a : ℕ) → names_what_it_needs what s.block.0 a s.map ≡ true → nat_lt 0 a ≡ is_put what
    puts Fresh a h = grind (arith, nat_tests, h)
    puts Gone a h = grind (arith, nat_tests, h)
    puts Cut a h = grind (arith, nat_tests, h)
    puts Put a h = grind (arith, nat_tests, h)

-- ---- equal accounts

same_accounts : (a b : Accounts) → a.server ≡ b.server → a.pool ≡ b.pool → a.heads ≡ b.heads → a.leaves ≡ b.leaves → a.free_records ≡ b.free_records → a.free_heads ≡ b.free_heads → a.free_pages ≡ b.free_pages → a.promised_records ≡ b.promised_records
    → a.promised_heads ≡ b.promised_heads → a.rubbish ≡ b.rubbish → a.next ≡ b.next → a.held ≡ b.held → a.maps ≡ b.maps → a.supplied ≡ b.supplied → a ≡ b
same_accounts a b server pool heads leaves free_records free_heads free_pages promised_records promised_heads rubbish next held maps supplied = λ i. record {
  server = server i;
  pool = pool i;
  heads = heads i;
  leaves = leaves i;
  free_records = free_records i;
  free_heads = free_heads i;
  free_pages = free_pages i;
  promised_records = promised_records i;
  promised_heads = promised_heads i;
  rubbish = rubbish i;
  next = next i;
  held = held i;
  maps = maps i;
  supplied = supplied i;
}

-- a table that says the same
standing_of : (server : ServerNo) (x : StoreView) (epoch : ℕ) (records : List Record) (t u : TableView) → u.counts ≡ t.counts → u.heads ≡ t.heads → u.maps ≡ t.maps → IsStanding server t.counts x epoch records t.heads t.maps
    → IsStanding server u.counts x epoch records u.heads u.maps
standing_of server x epoch records t u counts heads maps is = subst (λ g. IsStanding server g x epoch records u.heads u.maps) (sym counts)
    (subst (λ hs. IsStanding server t.counts x epoch records hs u.maps) (sym heads) (subst (λ rows. IsStanding server t.counts x epoch records t.heads rows) (sym maps) is))

-- ---- what a call is that changed or was stopped

called_by : (m n : Memory) (v w : StoreView) (ok : Bool) → n.server ≡ m.server → n.table.counts ≡ m.table.counts → StoreLater v w → w.calls ≤ v.calls + 784 → IsRecoverable m.server m.table.counts w
    → (ok ≡ true → w.stops ≡ v.stops) → (ok ≡ true → IsServing (view_of n w)) → (ok ≡ false → IsStop v w) → Called (view_of m v) 784 ok (view_of n w)
called_by m n v w ok server counts later calls recoverable no_stop serving stop = record {
  later = record { server = server; pool = ap (λ (g : Counts). g.pool) counts; heads = ap (λ (g : Counts). g.heads) counts; leaves = ap (λ (g : Counts). g.leaves) counts; store = later };
  calls = calls;
  loadable = λ c. subst (λ g. IsLoadable m.server m.table.counts.heads (found_on g w c)) (sym counts) (loadable_found m.server m.table.counts w recoverable c);
  no_stop = no_stop;
  serving = serving;
  stop = stop;
}

no_fault : {A E : Type 0} {a : A} {b : E} → ◌≡◌ {A = Result A E} (Ok a) (Err b) → ⊥
no_fault e = cc e

its_fault : {A E : Type 0} {a b : E} → ◌≡◌ {A = Result A E} (Err a) (Err b) → a ≡ b
its_fault e = cc e

-- a stop is no shortage
no_stop : (fault : PrepareFault) → Stops ≡ fault → is_shortage fault ≡ true → ⊥
no_stop fault e short = true≢false (sym short ∙ ap is_shortage (sym e))

-- ---- a preparation begins

-- the heads are promised, and no data page is
abbrev pub promised_table : TableView → ℕ → TableView
promised_table t heads = with_promised_leaves (with_promised_heads t (t.free_heads.promised + heads)) 0

abbrev pub promising : Memory → ℕ → Memory
promising m heads = record m { table = promised_table m.table heads }

no_record : (pool : List Record) (blocks : ℕ → List ℕ) (w : WorkId) (o : Option Record) → find (is_prepared w) pool ≡ o → prepared_by pool blocks w o ≡ None → find (is_prepared w) pool ≡ None
no_record pool blocks w None e none = e
no_record pool blocks w (Some r) e none = absurd (by r (found_passes (is_prepared w) Free pool r e) none)
  where
    by : (r : Record) → is_prepared w r ≡ true → prepared_by pool blocks w (Some r) ≡ None → ⊥
    by Free h none = true≢false (sym h)
    by (Intention v u k i) h none = true≢false (sym h)
    by (Ready head n reads) h none = cc none
    by (Going head n reads) h none = cc none
    by (FlagRecord f) h none = true≢false (sym h)

-- units that were read have a page
units_have_page : (reads : List LockUnit) → list_all (λ u. unit_in_range u) reads ≡ true → list_all (λ u. unit_has_page u) reads ≡ true
units_have_page [] h = refl
units_have_page (u ∷ reads) h = let again = units_have_page reads (rest (unit_in_range u) (list_all (λ u. unit_in_range u) reads) h) in
    both (unit_has_page u) (list_all (λ u. unit_has_page u) reads) (by u (first (unit_in_range u) (list_all (λ u. unit_in_range u) reads) h)) again
  where
    both : (b c : Bool) → b ≡ true → c ≡ true → (b && c) ≡ true
    both b c x y = grind (arith, x, y)

    by : (u : LockUnit) → unit_in_range u ≡ true → unit_has_page u ≡ true
    by (File f) h = refl
    by (Block f p) h = grind (arith, nat_tests, h)

module _ (m : Memory) (v : StoreView) (now : Matches m v) (serving : IsServing (view_of m v)) (head : WorkHead) (list : List FullIntention) (reads : List LockUnit) (may : MayPrepare (view_of m v) head list reads)
    (enough : shortage (accounts_of m) (needed (accounts_of m).maps (state (view_of m v)) list) ≡ None) where
  room : HasRoom (accounts_of m) (needed (accounts_of m).maps (state (view_of m v)) list)
  room = has_room (accounts_of m) (needed (accounts_of m).maps (state (view_of m v)) list) serving.records_fit serving.heads_fit enough

  pub its : IsPrepared (state (view_of m v)).files list reads
  its = its_work (state (view_of m v)) (accounts_of m) head list reads (serves_of m v serving) may.new may.orderly room

  pub reads_page : reads_have_page reads ≡ true
  reads_page = let units = units_have_page reads its.reads_in_range in let few = its.reads_fit in all (nat_le (length reads) 81) (ascends None reads) (list_all (λ u. unit_has_page u) reads) (few_is (length reads) few) its.reads_ascend units
    where
      few_is : (k : ℕ) → k ≤ 40 → nat_le k 81 ≡ true
      few_is k h = grind (arith, nat_tests, h)

      all : (b c d : Bool) → b ≡ true → c ≡ true → d ≡ true → (b && c && d) ≡ true
      all b c d x y z = grind (arith, x, y, z)

  alone : list_any (is_prepared head.work) m.records ≡ false
  alone = none_any (is_prepared head.work) m.records (no_record m.records (block_on m.table.counts (pages_by v (λ n. false))) head.work (find (is_prepared head.work) m.records) refl (sym (works_seen m v now serving head.work) ∙ may.new))

  -- which map pages it lacks
  abbrev lacks : List Bool
  lacks = lacking (maps_in m.table.heads) list

  pub begins : (n : ℕ) → IsTable (promised_table m.table n) → Begins (promising m n) v head.work list (lacking (maps_in m.table.heads) list) m.records (promised_table m.table n) v
  begins n table = record {
    may = record {
      now = record { standing = now.standing; root = now.root; table = table; works = now.works; made = now.made; supplied = now.supplied; flags = now.flags; held = now.held };
      records = let few = room.records in omega (arith, few);
      lacks_are = refl;
      pages = let few = room.pages in omega (arith, few);
      few = its.length_fits;
      order = its.order;
    };
    first = record {
      pool = pool_begins (promising m n) head.work now.works now.flags alone may.no_rubbish;
      pages = record {
        table = table;
        counts = refl;
        heads = refl;
        maps = refl;
        free_heads = refl;
        unpromised = refl;
        held = λ a. none_more (is_held m.table a);
        free = omega arith;
        apart = tt;
        own = λ a h. absurd (true≢false (sym h));
        clean = λ a h. absurd (true≢false (sym h));
        named = refl;
        blocks = λ c. refl;
      };
      store = record { standing = now.standing; root = now.root; unchanged = serving.up; later = later_refl v; calls_few = omega arith; served = record { power = serving.power; stops = refl } };
      written = puts_none _ v;
    };
  }
    where
      none_more : (b : Bool) → b ≡ (b || false)
      none_more true = refl
      none_more false = refl

  -- ---- the list is stored

  module _ (n : ℕ) (stored : List StoredIntention) (records : List Record) (t : TableView) (w : StoreView) where
    -- a stop while it is stored
    pub list_stopped : StopsUnchanged (promising m n) v 768 t w → PutsFew (count_by is_put_intention list + length list) v w → (k : Memory) → k.server ≡ m.server → k.table ≡ t → WorkPrepared {A = Unit {0}} (view_of m v) head list reads (Err Stops) (view_of k w)
    list_stopped s written k server table = record {
      refused = λ fault e short. absurd (no_stop fault (its_fault e) short);
      enough = λ _. enough;
      kept = λ e. absurd (true≢false e);
      called = λ _. called_by m k v w false server (ap (λ (u : TableView). u.counts) table ∙ s.counts) s.later (let few = s.calls_few in omega (arith, few)) s.recoverable (λ e. absurd (true≢false (sym e))) (λ e. absurd (true≢false (sym e))) (λ _. s.stop);
      written = λ _. puts_and_one _ v w written;
      change = λ _. record { done = λ e. absurd (true≢false (sym e)); stop = λ _ c. whole-stop _ _ _ 0 (ap (λ g. found_on g w c) (ap (λ (u : TableView). u.counts) table ∙ s.counts) ∙ s.unchanged c) };
      accounts = λ e. absurd (true≢false (sym e));
    }

    module _ (p : IsPreparing (promising m n) v head.work list lacks stored records t w) (all : length stored ≡ length list) where
      pub slots_below : length records < w.count
      slots_below = let slots = p.store.standing.held.slots in let count = p.store.standing.held.count in omega (arith, slots, count)

      pub slot_left : 0 < free_count records
      slot_left = let before = p.pool.free in let few = room.records in omega (arith, before, few, all)

      module _ (slot : ℕ) (at : position is_free records ≡ Some slot) (whole : IsRecord (Ready head (length list) reads)) where
        taken : take (length stored) list ≡ list
        taken = ap (λ k. take k list) all ∙ take-length list

        lacks_taken : take (length stored) lacks ≡ lacks
        lacks_taken = ap (λ k. take k lacks) (all ∙ sym (lacking_length (maps_in m.table.heads) list)) ∙ take-length lacks

        -- a map page is named exactly where one is lacking
        named : names_maps stored ≡ lacks
        named = p.pages.named ∙ lacks_taken

        full : (c : Pick) → map (intended (block_on m.table.counts (pages_by w c))) stored ≡ list
        full c = p.pages.blocks c ∙ taken

        there : slot < length records
        there = free_there (promising m n) head.work stored records p.pool slot at

        ready_put : (c : Pick) → IsReadyPut records (block_on m.table.counts (pages_by w c)) slot head (length list) list
        ready_put c = record {
          slot_free = record { there = there; free = stands_free (promising m n) head.work stored records p.pool slot at };
          new = p.pool.alone;
          list_stands = ap (map (intended (block_on m.table.counts (pages_by w c)))) (ap (stored_list records head.work) (sym all) ∙ p.pool.first.list_stands) ∙ full c;
        }

        loose : (a : ℕ) → list_any (is_at a) stored ≡ true → heads_name most_cells (layouts_in m.table) (suc a) ≡ false
        loose a h = (p.pages.own a h).unnamed

        unnamed : (c : Pick) (a : ℕ) → list_any (is_at a) stored ≡ true → (heads_name most_cells (layouts_said (held_contents m.table.counts w m.epoch records m.table.heads c)) (suc a) || works_name records (suc a)) ≡ false
        unnamed c a h = let own = p.pages.own a h in
            ap (λ ls. heads_name most_cells ls (suc a) || works_name records (suc a)) (layouts_held m.server m.table.counts w m.epoch records m.table.heads m.table.maps p.store.standing.held c)
            ∙ ap (λ b. b || works_name records (suc a)) own.unnamed ∙ p.pool.names a ∙ sym (now.held a) ∙ own.loose

        its_supply : IsSuppliedBy (maps_in m.table.heads) stored
        its_supply k lack = ap (λ l. slice_get l k) named ∙ sym (ap (λ l. slice_get (lacking (maps_in m.table.heads) l) k) (full (λ n. false))) ∙ sym (ap (λ l. slice_get l k) (same_lacking (block_on m.table.counts (pages_by w (λ n. false))) (maps_in m.table.heads) stored)) ∙ lack

        whole_work : (c : Pick) → IsWholeWork m.table.counts.leaves (held_contents m.table.counts w m.epoch records m.table.heads c) head.work (length list)
        whole_work c = record {
          intentions = subst (HasIntentions records head.work) all p.pool.first.intentions;
          fresh = are_fresh (promising m n) head.work stored records p.pool m.table.counts.leaves (held_contents m.table.counts w m.epoch records m.table.heads c) refl p.pages.apart (λ a h. ((p.pages.own a h).below, unnamed c a h));
          supplied = subst (IsSuppliedBy (maps_in m.table.heads)) (sym (ap (stored_list records head.work) (sym all) ∙ p.pool.first.list_stands)) its_supply;
        }

        serves : Serves (made_by (AddReady head list reads) (state (view_of m v))) (with_work (accounts_of m) head.work (needed (accounts_of m).maps (state (view_of m v)) list) lacks)
        serves = serves_ready (state (view_of m v)) (accounts_of m) head list reads (serves_of m v serving) may.new may.orderly room

        -- what is free then

        work_pages : list_all intention_has_page stored ≡ true
        work_pages = subst (λ l. list_all intention_has_page l ≡ true) p.pool.first.list_stands (listed_pages records head.work (λ k lt. (p.store.standing.held.pool k lt).of_format.whole) 0 (length stored))

        pages_held : total (held_of (layouts_in m.table)) stored ≡ (needed (accounts_of m).maps (state (view_of m v)) list).pages
        pages_held =
            let held = held_puts (block_on m.table.counts (pages_by w (λ n. false))) (layouts_in m.table) stored work_pages loose in
            let puts = ap (count_by is_put_intention) (full (λ n. false)) in let maps = ap (count_by (λ (b : Bool). b)) named in omega (arith, held, puts, maps)

        next_after : next_in (m.works ++ ready_state head stored reads ∷ []) ≡ at_work (next_in m.works) head.work 0
        next_after = fun_ext (λ k. ap next_by (work_found (promising m n) head stored records p.pool slot at (length list) all reads k) ∙ by (work_eq head.work k) (find_by work_eq name_of m.works k))
          where
            by : (b : Bool) (o : Option WorkState) → next_by (if b then Some (ready_state head stored reads) else o) ≡ (if b then 0 else next_by o)
            by true o = refl
            by false o = refl

        held_after : held_in (m.works ++ ready_state head stored reads ∷ []) (layouts_in t) ≡ at_work (held_in m.works (layouts_in m.table)) head.work (needed (accounts_of m).maps (state (view_of m v)) list).pages
        held_after = ap (held_in (m.works ++ ready_state head stored reads ∷ [])) (λ i. layouts_of (p.pages.maps i) (p.pages.heads i))
            ∙ fun_ext (λ k. ap (λ o. total (held_of (layouts_in m.table)) (stored_by o)) (work_found (promising m n) head stored records p.pool slot at (length list) all reads k) ∙ by (work_eq head.work k) (find_by work_eq name_of m.works k))
          where
            by : (b : Bool) (o : Option WorkState) → total (held_of (layouts_in m.table)) (stored_by (if b then Some (ready_state head stored reads) else o)) ≡ (if b then (needed (accounts_of m).maps (state (view_of m v)) list).pages else total (held_of (layouts_in m.table)) (stored_by o))
            by true o = pages_held
            by false o = refl

        supplied_after : supplied_in (m.works ++ ready_state head stored reads ∷ []) ≡ at_work (supplied_in m.works) head.work lacks
        supplied_after = fun_ext (λ k. ap (λ o. names_maps (stored_by o)) (work_found (promising m n) head stored records p.pool slot at (length list) all reads k) ∙ by (work_eq head.work k) (find_by work_eq name_of m.works k))
          where
            by : (b : Bool) (o : Option WorkState) → names_maps (stored_by (if b then Some (ready_state head stored reads) else o)) ≡ (if b then lacks else names_maps (stored_by o))
            by true o = named
            by false o = refl

        free_records_after : free_count (slice_set records slot (Ready head (length list) reads)) ≡ free_count m.records - (length list + 1)
        free_records_after = let less = ready_free (promising m n) head stored records p.pool slot at (length list) all reads in omega (arith, less)

        free_pages_after : free_numbers t.free_leaves ≡ free_numbers m.table.free_leaves - (needed (accounts_of m).maps (state (view_of m v)) list).pages
        free_pages_after = let before = p.pages.free in let puts = ap (count_by is_put_intention) taken in let maps = ap (count_by (λ (b : Bool). b)) lacks_taken in omega (arith, before, puts, maps)

        rubbish_after : rubbish_in (slice_set records slot (Ready head (length list) reads)) (slice_set records slot (Ready head (length list) reads)) ≡ rubbish_in m.records m.records
        rubbish_after = ready_rubbish (promising m n) head stored records p.pool slot at (length list) all reads

        accounts_after : n ≡ (needed (accounts_of m).maps (state (view_of m v)) list).heads → accounts_of (record m { records = slice_set records slot (Ready head (length list) reads); table = t; works = m.works ++ ready_state head stored reads ∷ [] })
            ≡ with_work (accounts_of m) head.work (needed (accounts_of m).maps (state (view_of m v)) list) lacks
        accounts_after n_is = same_accounts _ _ refl (ap (λ (g : Counts). g.pool) p.pages.counts) (ap (λ (g : Counts). g.heads) p.pages.counts) (ap (λ (g : Counts). g.leaves) p.pages.counts) free_records_after (ap free_numbers p.pages.free_heads) free_pages_after refl
            (ap (λ (f : FreeNumbers). f.promised) p.pages.free_heads ∙ ap (λ k. m.table.free_heads.promised + k) n_is) rubbish_after next_after held_after (ap maps_in p.pages.heads) supplied_after

        names_own : (a d : ℕ) → a ≡ suc d → nat_eq a (suc d) ≡ true
        names_own a d e = grind (arith, nat_tests, e)

        module _ (ok : Bool) (new : List Record) (x : StoreView) (puts : Puts records w slot (Ready head (length list) reads) ok new x) where
          makes : Makes m.server m.table.counts w m.epoch records m.table.heads m.table.maps (RecordPut slot (Ready head (length list) reads)) (AddReady head list reads) ok x
          makes = readies m.server m.table.counts w x m.epoch records m.table.heads m.table.maps ok p.store.standing slot head (length list) list reads
              (step_of m.server m.table.counts w slot (Ready head (length list) reads) ok x (let lt = there in let slots = p.store.standing.held.slots in omega (arith, lt, slots)) whole puts.put)
              ready_put whole_work (λ i d s h address lt. p.pages.clean d (listed_one (promising m n) head.work stored records p.pool (names_for_block (suc d)) i s h (names_own s.address d address)))
              (subst (λ y. IsLoadable m.server m.table.counts.heads (made_by (AddReady head list reads) y)) (sym (p.store.unchanged (λ n. false)))
              (may_load (made_by (AddReady head list reads) (state (view_of m v))) (with_work (accounts_of m) head.work (needed (accounts_of m).maps (state (view_of m v)) list) lacks) serves))

          changed : Changed (state (view_of m v)) (AddReady head list reads) ok (found_on m.table.counts x)
          changed = subst (λ y. Changed y (AddReady head list reads) ok (found_on m.table.counts x)) (p.store.unchanged (λ n. false)) makes.change

          later : StoreLater v x
          later = later_trans v w x p.store.later puts.put.later

          few_calls : x.calls ≤ v.calls + 784
          few_calls = let before = p.store.calls_few in let more = puts.put.calls in let few = its.length_fits in omega (arith, before, more, few, all)

          -- the list's pages, and the ready record's
          written_all : PutsFew (count_by is_put_intention list + length list + 1) v x
          written_all = puts_within _ _ v x (all_puts_and_one list (length stored) (omega (arith, all))) (puts_more _ v w x _ p.store.later.count p.written puts.put.others)

          -- a stop at the ready record
          pub ready_stopped : ok ≡ false → (k : Memory) → k.server ≡ m.server → k.table ≡ t → WorkPrepared {A = Unit {0}} (view_of m v) head list reads (Err Stops) (view_of k x)
          ready_stopped stopped k server table = record {
            refused = λ fault e short. absurd (no_stop fault (its_fault e) short);
            enough = λ _. enough;
            kept = λ e. absurd (true≢false e);
            called = λ _. called_by m k v x false server (ap (λ (u : TableView). u.counts) table ∙ p.pages.counts) later few_calls makes.recoverable (λ e. absurd (true≢false (sym e))) (λ e. absurd (true≢false (sym e)))
                (λ _. stop_since v w x p.store.later puts.put.later (puts.put.stop stopped));
            written = λ _. written_all;
            change = λ _. subst (λ g. Changed (state (view_of m v)) (AddReady head list reads) false (found_on g x)) (sym (ap (λ (u : TableView). u.counts) table ∙ p.pages.counts))
                (subst (λ b. Changed (state (view_of m v)) (AddReady head list reads) b (found_on m.table.counts x)) stopped changed);
            accounts = λ e. absurd (true≢false (sym e));
          }

          pub ready_matches : ok ≡ true → Matches (record m { records = slice_set records slot (Ready head (length list) reads); table = t; works = m.works ++ ready_state head stored reads ∷ [] }) x
          ready_matches done = record {
            standing = standing_of m.server x m.epoch (slice_set records slot (Ready head (length list) reads)) m.table t p.pages.counts p.pages.heads p.pages.maps (makes.standing done);
            root = subst (λ g. IsOnly x 0 (root_page (root_by m.server g m.epoch))) (sym p.pages.counts) (same_only w x 0 _ (puts.put.others 0 (let e = p.store.standing.held.count in omega (arith, e)) (λ e. omega (arith, e))) p.store.root);
            table = p.pages.table;
            works = ready_works (promising m n) head stored records p.pool slot at (length list) all reads;
            made = λ k. subst (λ hs. IsMade hs (find_by work_eq name_of (m.works ++ ready_state head stored reads ∷ []) k)) (sym p.pages.heads) (subst (λ o. IsMade m.table.heads o) (sym (work_found (promising m n) head stored records p.pool slot at (length list) all reads k)) (made_still (work_eq head.work k) (find_by work_eq name_of m.works k) (now.made k)));
            supplied = λ k. subst (λ hs. HasMaps (maps_in hs) (find_by work_eq name_of (m.works ++ ready_state head stored reads ∷ []) k)) (sym p.pages.heads)
                (subst (λ o. HasMaps (maps_in m.table.heads) o) (sym (work_found (promising m n) head stored records p.pool slot at (length list) all reads k)) (supplied_still (work_eq head.work k) (find_by work_eq name_of m.works k) (now.supplied k)));
            flags = ready_flags (promising m n) head stored records p.pool slot at (length list) all reads;
            held = λ a. p.pages.held a ∙ ap (λ b. b || list_any (is_at a) stored) (now.held a) ∙ sym (ready_names (promising m n) head stored records p.pool slot at (length list) all reads a);
          }
            where
              -- it has made none so far
              made_still : (b : Bool) (o : Option WorkState) → IsMade m.table.heads o → IsMade m.table.heads (if b then Some (ready_state head stored reads) else o)
              made_still true o is = λ i j lt e fresh. absurd (omega (arith, lt))
              made_still false o is = is

              supplied_still : (b : Bool) (o : Option WorkState) → HasMaps (maps_in m.table.heads) o → HasMaps (maps_in m.table.heads) (if b then Some (ready_state head stored reads) else o)
              supplied_still true o is = its_supply
              supplied_still false o is = is

          pub ready_done : ok ≡ true → n ≡ (needed (accounts_of m).maps (state (view_of m v)) list).heads
              → WorkPrepared {A = Unit {0}} (view_of m v) head list reads (Ok tt) (view_of (record m { records = slice_set records slot (Ready head (length list) reads); table = t; works = m.works ++ ready_state head stored reads ∷ [] }) x)
          ready_done done n_is = record {
            refused = λ fault e short. absurd (no_fault e);
            enough = λ _. enough;
            kept = λ e. absurd (true≢false e);
            called = λ _. called_by m (record m { records = slice_set records slot (Ready head (length list) reads); table = t; works = m.works ++ ready_state head stored reads ∷ [] }) v x true refl p.pages.counts later few_calls makes.recoverable
                (λ _. (puts.put.served done).stops ∙ p.store.served.stops)
                (λ _. serving_by (record m { records = slice_set records slot (Ready head (length list) reads); table = t; works = m.works ++ ready_state head stored reads ∷ [] }) x (made_by (AddReady head list reads) (state (view_of m v)))
                (λ c. ap (λ g. found_on g x c) p.pages.counts ∙ changed.done done c) (puts.put.served done).power
                (subst (Serves (made_by (AddReady head list reads) (state (view_of m v)))) (sym (accounts_after n_is)) serves))
                (λ e. absurd (true≢false e));
            written = λ _. written_all;
            change = λ _. subst (λ g. Changed (state (view_of m v)) (AddReady head list reads) true (found_on g x)) (sym p.pages.counts)
                (subst (λ b. Changed (state (view_of m v)) (AddReady head list reads) b (found_on m.table.counts x)) done changed);
            accounts = λ _. accounts_after n_is;
          }

-- ---- the same of what the code makes

-- what is known once enough is free
pub record Prepares (m : Memory) (v : StoreView) (head : WorkHead) (list : List FullIntention) (reads : List LockUnit) (n : ℕ) : Type 0 where
  pub now : Matches m v
  pub serving : IsServing (view_of m v)
  pub may : MayPrepare (view_of m v) head list reads
  pub enough : shortage (accounts_of m) (needed (accounts_of m).maps (state (view_of m v)) list) ≡ None
  pub heads : n ≡ (needed (accounts_of m).maps (state (view_of m v)) list).heads

pub given : {S : Type 0} (view : S → StoreView) (store : S) (m : Memory) (s : S × Memory) → (store, m) ≡ s → IsKeptMemory m (view store) → (head : WorkHead) (list : List FullIntention) (reads : List LockUnit)
    → IsServing (view_of s.1 (view s.0)) → MayPrepare (view_of s.1 (view s.0)) head list reads → (need : Need) → need ≡ needed (accounts_of s.1).maps (state (view_of s.1 (view s.0))) list → shortage (accounts_of s.1) need ≡ None
    → Prepares m (view store) head list reads need.heads
given {S} view store m s is kept head list reads serving may need need_is enough =
    let serving_now = subst (λ (s : S × Memory). IsServing (view_of s.1 (view s.0))) (sym is) serving in
    let needed_now = subst (λ (s : S × Memory). need ≡ needed (accounts_of s.1).maps (state (view_of s.1 (view s.0))) list) (sym is) need_is in
    let enough_now = subst (λ (s : S × Memory). shortage (accounts_of s.1) need ≡ None) (sym is) enough in
    record {
      now = kept serving_now.power;
      serving = serving_now;
      may = subst (λ (s : S × Memory). MayPrepare (view_of s.1 (view s.0)) head list reads) (sym is) may;
      enough = subst (λ k. shortage (accounts_of m) k ≡ None) needed_now enough_now;
      heads = ap (λ (k : Need). k.heads) needed_now;
    }

module _ (m : Memory) (v : StoreView) (head : WorkHead) (list : List FullIntention) (reads : List LockUnit) (n : ℕ) (h : Prepares m v head list reads n) where
  pub list_few : length list < 2 ^ 8
  list_few = let few = (its m v h.now h.serving head list reads h.may h.enough).length_fits in omega (arith, few)

  pub its_reads : (units : List LockUnit) → units ≡ reads → reads_have_page units ≡ true
  its_reads units is = ap (λ u. reads_have_page u) is ∙ reads_page m v h.now h.serving head list reads h.may h.enough

  -- with the flags that say what the list lacks
  module _ (lacks : List Bool) (lacks_are : lacks ≡ lacking (maps_in m.table.heads) list) where
    pub begun : (t : TableView) → t ≡ promised_table m.table n → IsTable t → Begins (promising m n) v head.work list lacks m.records t v
    begun t is table = subst (λ l. Begins (promising m n) v head.work list l m.records t v) (sym lacks_are)
        (subst (λ t. Begins (promising m n) v head.work list (lacking (maps_in m.table.heads) list) m.records t v) (sym is) (begins m v h.now h.serving head list reads h.may h.enough n (subst IsTable is table)))

    module _ (stored : List StoredIntention) (records : List Record) (t : TableView) (w : StoreView) where
      pub stopped_list : (ok : Bool) → ListStored (promising m n) v head.work list lacks ok stored records t w → ok ≡ false → (k : Memory) → k.server ≡ m.server → k.table ≡ t → WorkPrepared {A = Unit {0}} (view_of m v) head list reads (Err Stops) (view_of k w)
      stopped_list ok s stopped k server table = list_stopped m v h.now h.serving head list reads h.may h.enough n stored records t w (s.stopped stopped) s.written k server table

      module _ (ok : Bool) (is : ListStored (promising m n) v head.work list lacks ok stored records t w) (done : ok ≡ true) where
        s : ListStored (promising m n) v head.work list (lacking (maps_in m.table.heads) list) ok stored records t w
        s = subst (λ l. ListStored (promising m n) v head.work list l ok stored records t w) lacks_are is

        pub insert_there : length records < w.count
        insert_there = slots_below m v h.now h.serving head list reads h.may h.enough n stored records t w (s.done done) (s.all done)

        pub insert_left : 0 < free_count records
        insert_left = slot_left m v h.now h.serving head list reads h.may h.enough n stored records t w (s.done done) (s.all done)

        module _ (units : List LockUnit) (units_are : units ≡ reads) (fits : RecordFits (Ready head (length list) units)) (slot : ℕ) (at : position is_free records ≡ Some slot) (put : Bool) (new : List Record) (x : StoreView)
            (puts : Puts records w slot (Ready head (length list) units) put new x) where
          whole : IsRecord (Ready head (length list) reads)
          whole = subst (λ u. IsRecord (Ready head (length list) u)) units_are (record { whole = its_reads units units_are; fits = fits })

          its_puts : Puts records w slot (Ready head (length list) reads) put new x
          its_puts = subst (λ u. Puts records w slot (Ready head (length list) u) put new x) units_are puts

          pub prepare_stopped : put ≡ false → (k : Memory) → k.server ≡ m.server → k.table ≡ t → WorkPrepared {A = Unit {0}} (view_of m v) head list reads (Err Stops) (view_of k x)
          prepare_stopped stopped k server table =
              ready_stopped m v h.now h.serving head list reads h.may h.enough n stored records t w (s.done done) (s.all done) slot at whole put new x its_puts stopped k server table

          -- done or stopped
          pub prepare_recovers : IsRecoverable m.server t.counts x
          prepare_recovers = subst (λ g. IsRecoverable m.server g x) (sym (s.done done).pages.counts)
              (makes m v h.now h.serving head list reads h.may h.enough n stored records t w (s.done done) (s.all done) slot at whole put new x its_puts).recoverable

          module _ (works : List WorkState) (works_are : works ≡ m.works ++ ready_state head stored reads ∷ []) (was_put : put ≡ true) where
            same : record m { records = slice_set records slot (Ready head (length list) reads); table = t; works = m.works ++ ready_state head stored reads ∷ [] } ≡ record m { records = new; table = t; works = works }
            same = λ i. record m { records = sym (its_puts.done was_put) i; table = t; works = sym works_are i }

            pub prepare_kept : Matches (record m { records = new; table = t; works = works }) x
            prepare_kept = subst (λ k. Matches k x) same (ready_matches m v h.now h.serving head list reads h.may h.enough n stored records t w (s.done done) (s.all done) slot at whole put new x its_puts was_put)

            pub prepare_done : WorkPrepared {A = Unit {0}} (view_of m v) head list reads (Ok tt) (view_of (record m { records = new; table = t; works = works }) x)
            prepare_done = subst (λ k. WorkPrepared {A = Unit {0}} (view_of m v) head list reads (Ok tt) (view_of k x)) same
                (ready_done m v h.now h.serving head list reads h.may h.enough n stored records t w (s.done done) (s.all done) slot at whole put new x its_puts was_put h.heads)

-- the flags say what the list lacks
pub lacks_said : {S : Type 0} (view : S → StoreView) (store : S) (m : Memory) (s : S × Memory) → (store, m) ≡ s → (list : List FullIntention) (flags items : List Bool) → flags ≡ items → items ≡ lacking (accounts_of s.1).maps list → flags ≡ lacking (maps_in m.table.heads) list
lacks_said {S} view store m s is list flags items same e = subst (λ (s : S × Memory). flags ≡ lacking (accounts_of s.1).maps list) (sym is) (same ∙ e)

pub lacks_length : (places : MapPlaces) (list : List FullIntention) (flags : List Bool) → flags ≡ lacking places list → length flags ≡ length list
lacks_length places list flags e = ap (λ (l : List Bool). length l) e ∙ lacking_length places list

-- a list that may be prepared is short
pub list_short : (v : StorageView) (head : WorkHead) (list : List FullIntention) (reads : List LockUnit) → MayPrepare v head list reads → 2 * length list < 2 ^ 32
list_short v head list reads may =
    let fits = (may.orderly.prepared head.work (ready_work head list reads) (ap (λ b. if b then Some (ready_work head list reads) else (state v).works head.work) (same_work head.work))).length_fits in omega (arith, fits)

-- the works in memory
pub works_listed : (new old works : List WorkState) (head : WorkHead) (list stored : List StoredIntention) (units reads : List LockUnit) → new ≡ old ++ ready_state head list units ∷ [] → old ≡ works → list ≡ stored → units ≡ reads → new ≡ works ++ ready_state head stored reads ∷ []
works_listed new old works head list stored units reads is old_is list_is units_are = is ∙ (λ i. old_is i ++ ready_state head (list_is i) (units_are i) ∷ [])

-- ---- too little is free

pub refused_by : (v : StorageView) (head : WorkHead) (list : List FullIntention) (reads : List LockUnit) (fault : PrepareFault) → shortage v.accounts (needed v.accounts.maps (state v) list) ≡ Some fault → (answer : Result (Unit {0}) PrepareFault) (x : PrepareFault) → answer ≡ Err x → x ≡ fault → WorkPrepared v head list reads answer v
refused_by v head list reads fault short answer x is same_fault = record {
  refused = λ other e _. short ∙ ap (λ (f : PrepareFault). Some f) (sym same_fault ∙ its_fault (sym is ∙ e));
  enough = λ e. absurd (true≢false (sym e ∙ unreached));
  kept = λ _. refl;
  called = λ e. absurd (true≢false (sym e ∙ unreached));
  written = λ e. absurd (true≢false (sym e ∙ unreached));
  change = λ e. absurd (true≢false (sym e ∙ unreached));
  accounts = λ e. absurd (true≢false (sym e ∙ ap is_ok is));
}
  where
    some_is : {A : Type 0} {a b : A} → Some a ≡ Some b → a ≡ b
    some_is e = cc e

    no_some : (f : PrepareFault) → ◌≡◌ {A = Option PrepareFault} None (Some f) → ⊥
    no_some f e = cc e

    by : (f : PrepareFault) → reached {A = Unit {0}} (Err f) ≡ false → ◌≡◌ {A = Option PrepareFault} (Some f) (Some fault) → reached {A = Unit {0}} (Err fault) ≡ false
    by f e q = subst (λ g. reached {A = Unit {0}} (Err g) ≡ false) (some_is q) e

    tests : (a b c : Bool) (x y z : PrepareFault) → reached {A = Unit {0}} (Err x) ≡ false → reached {A = Unit {0}} (Err y) ≡ false → reached {A = Unit {0}} (Err z) ≡ false
        → (if a then Some x else if b then Some y else if c then Some z else None) ≡ Some fault → reached {A = Unit {0}} (Err fault) ≡ false
    tests true b c x y z p q r e = by x p e
    tests false true c x y z p q r e = by y q e
    tests false false true x y z p q r e = by z r e
    tests false false false x y z p q r e = absurd (no_some fault e)

    unreached : reached answer ≡ false
    unreached =
        let need = needed v.accounts.maps (state v) list in let records = v.accounts.free_records - v.accounts.promised_records in let heads = v.accounts.free_heads - v.accounts.promised_heads in
        ap reached is ∙ ap (λ (f : PrepareFault). reached {A = Unit {0}} (Err f)) same_fault ∙ tests (nat_lt records need.records) (nat_lt v.accounts.free_pages need.pages) (nat_lt heads need.heads)
        (Records (short_of records need.records)) (Pages (short_of v.accounts.free_pages need.pages)) (Heads (short_of heads need.heads)) refl refl refl short
