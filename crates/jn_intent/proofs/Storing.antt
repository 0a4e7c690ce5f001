-- One intention is stored: a put's block, the map page that it lacks, which is held, and then its record.
use Rattle.jn_intent.proofs.Common.{◌≡◌, one, ◌≢◌, ◌<◌, ◌≤◌, ◌+◌, ◌-◌, ◌*◌, ◌/◌, ◌&&◌, ◌||◌, not, ℕ, zero, suc, Bool, true, false, if◌then◌else◌, List, [], ◌∷◌, ◌++◌, length, Some, refl, sym, ◌∙◌, ap, subst, true≢false, arith, length-append, take-append_seam, false_from_ne_true, nat_tests, slice_get-get_or, sum_by-append, sum_by-cons, sum_by-take-le, Ok, Err, Result, is_ok, IfOk, nat_eq, nat_lt, nat_le, position, slice_get, slice_index_or, count_by, take, replicate, list_any, free_numbers, is_free_number, Stopped, WorkId, TableView, IsTable, IsFreeLeaf, is_held, layouts_in, layouts_of, with_held, bytes_by, heads_name, works_have, works_name, names_for_block, names_address, block_on, pages_by, found_on, RecordPut, BlockPut, IsRecoverable, IsStanding, MakesNothing, standing_state, fills, idles, StoredIntention, FullIntention, What, Fresh, Gone, Cut, Put, Record, IntentionRecord, WorkHead, intention_has_page, names_what_it_needs, AllPlain, Plain, is_put, is_put_intention, RecordFits, record_page, Counts, data_place, page_count, Pick, Unchanged, is_free, slot_page, Puts, state, StoreView, StorePut, IsClean, later_trans, stop_since, Memory, view_of, is_at, stored_as, BlockStored, TakesMap, RecordStored, IntentionStored, MayStore, PagesPreparing, StorePreparing, IsPreparing, StopsUnchanged, ListStored, pages_taken, step_of, same_only, MapPlaces, lacking, places_after, head_blocks, most_cells, FreeNumbers, with_free, sum_by-set, is_past_head, reads_page, FillsPage, leaf_page, PutsFew}
use Rattle.jn_intent.proofs.Naming.{found_cell, found_intention, intention_has, or_first}
use Rattle.jn_intent.proofs.StoringPages.{pages_moved, pages_more, Takes, takes_none, takes_page, takes_touched, take_more}
use Rattle.jn_intent.proofs.PutPages.{puts_within, puts_suc, puts_more, block_puts, next_puts, stored_puts, all_puts}
use Rattle.jn_intent.proofs.StoringPool.{free_there, stored_idle, pool_goes_on}

ok_is : {A E : Type 0} {a b : A} → ◌≡◌ {A = Result A E} (Ok a) (Ok b) → a ≡ b
ok_is e = cc e

-- an intention names what it needs
names_needed : (i : FullIntention) (a map : ℕ) → (is_put i.what ≡ false → a ≡ 0) → (is_put i.what ≡ true → 0 < a) → (lacks : Bool) → (lacks ≡ false → map ≡ 0) → (lacks ≡ true → is_past_head i ≡ true) → Plain i.what i.block i.bytes → intention_has_page (stored_as i a map) ≡ true
names_needed i a map none put lacks no_map past plain = by i.what refl plain lacks refl
  where
    lacks_none : (b : Bool) → lacks ≡ b → is_put i.what ≡ false → map ≡ 0
    lacks_none false e un = no_map e
    lacks_none true e un = absurd (true≢false (sym (past e) ∙ ap (λ b. b && nat_le head_blocks i.block.0) un))

    by : (what : What) → i.what ≡ what → Plain what i.block i.bytes → (b : Bool) → lacks ≡ b → names_what_it_needs i.what i.block.0 a map ≡ true
    by Fresh w plain b e = ap (λ k. names_what_it_needs k i.block.0 a map) w ∙ (let x = none (ap is_put w) in let y = lacks_none b e (ap is_put w) in let z = plain.0 in grind (arith, nat_tests, x, y, z))
    by Gone w plain b e = ap (λ k. names_what_it_needs k i.block.0 a map) w ∙ (let x = none (ap is_put w) in let y = lacks_none b e (ap is_put w) in let z = plain.0 in grind (arith, nat_tests, x, y, z))
    by Cut w plain b e = ap (λ k. names_what_it_needs k i.block.0 a map) w ∙ (let x = none (ap is_put w) in let y = lacks_none b e (ap is_put w) in grind (arith, nat_tests, x, y))
    by Put w plain false e = ap (λ k. names_what_it_needs k i.block.0 a map) w ∙ (let x = put (ap is_put w) in let y = no_map e in grind (arith, nat_tests, x, y))
    by Put w plain true e = ap (λ k. names_what_it_needs k i.block.0 a map) w ∙ (let x = put (ap is_put w) in let y = sym (ap (λ k. is_put k && nat_le head_blocks i.block.0) w) ∙ past e in some_map (nat_eq a 0) (nat_eq map 0) (nat_le head_blocks i.block.0) (grind (arith, nat_tests, x)) y)
      where
        some_map : (p q r : Bool) → p ≡ false → (true && r) ≡ true → (not p && (q || r)) ≡ true
        some_map p q r x y = grind (arith, x, y)

pub page_named : (t : TableView) (v : StoreView) (i : FullIntention) (a : ℕ) (filled : TableView) (w : StoreView) (lacks : Bool) (map : ℕ) (u : TableView) → BlockStored t v i (Ok a) filled w → TakesMap filled lacks map u → (lacks ≡ true → is_past_head i ≡ true)
    → Plain i.what i.block i.bytes → intention_has_page (stored_as i a map) ≡ true
page_named t v i a filled w lacks map u block takes past plain = names_needed i a map (λ e. ok_is (block.none e).0) (λ e. let is = (block.put e).address in omega (arith, is)) lacks (λ e. (takes.none e).0) past plain

-- what the code makes
pub intention_stored : (records : List Record) (t : TableView) (v : StoreView) (head : WorkHead) (order : ℕ) (i : FullIntention) (lacks : Bool) (a : ℕ) (filled : TableView) (between : StoreView) (map : ℕ) (u : TableView) (answer : Result StoredIntention Stopped) (new : List Record) (w : StoreView)
    → BlockStored t v i (Ok a) filled between → IsTable filled → TakesMap filled lacks map u → (lacks ≡ true → is_past_head i ≡ true) → Plain i.what i.block i.bytes → RecordFits (IntentionRecord head.work head.tid order (stored_as i a map)) → (slot : ℕ) → position is_free records ≡ Some slot
    → Puts records between slot (IntentionRecord head.work head.tid order (stored_as i a map)) (is_ok answer) new w → IfOk answer (λ x. x ≡ stored_as i a map) → IntentionStored records t v head order i lacks answer new u w
intention_stored records t v head order i lacks a filled between map u answer new w block table takes past plain fits slot at puts stored = record {
  address = Ok a;
  filled = filled;
  between = between;
  map = map;
  block = block;
  table = table;
  stopped = λ e. absurd (true≢false e);
  takes = λ _. takes;
  recorded = λ b e. subst (λ n. RecordStored records between head order (stored_as i n map) answer new w) (ok_is e)
      (record { slot = slot; free = at; whole = record { whole = page_named t v i a filled between lacks map u block takes past plain; fits = fits }; puts = puts; stored = stored });
}

-- and where the block's put was stopped
pub block_stopped : (records : List Record) (t : TableView) (v : StoreView) (head : WorkHead) (order : ℕ) (i : FullIntention) (lacks : Bool) (e : Stopped) (u : TableView) (w : StoreView) (answer : Result StoredIntention Stopped) → is_ok answer ≡ false
    → BlockStored t v i (Err e) u w → IsTable u → IntentionStored records t v head order i lacks answer records u w
block_stopped records t v head order i lacks e u w answer stopped block table = record {
  address = Err e;
  filled = u;
  between = w;
  map = 0;
  block = block;
  table = table;
  stopped = λ _. (stopped, refl, refl);
  takes = λ done. absurd (true≢false (sym done));
  recorded = λ a done. absurd (no_ok done);
}
  where
    no_ok : {a : ℕ} → ◌≡◌ {A = Result ℕ Stopped} (Err e) (Ok a) → ⊥
    no_ok e = cc e

-- ---- what is found stays

module _ (m : Memory) (v : StoreView) (n : ℕ) (records : List Record) (w : StoreView) (s : StorePreparing m v n records w) (x : StoreView) (i : ℕ) (page : List ℕ) where
  same_state : Unchanged (standing_state m.table.counts w) (found_on m.table.counts x) → Unchanged (state (view_of m v)) (found_on m.table.counts x)
  same_state unchanged c = unchanged c ∙ s.unchanged (λ n. false)

  store_on : StorePut w i page true x → 0 ≢ i → (now : List Record) → Unchanged (standing_state m.table.counts w) (found_on m.table.counts x) → IsStanding m.server m.table.counts x m.epoch now m.table.heads m.table.maps → StorePreparing m v (n + 16) now x
  store_on put apart now unchanged standing = record {
    standing = standing;
    root = same_only w x 0 _ (put.others 0 (let e = s.standing.held.count in omega (arith, e)) apart) s.root;
    unchanged = same_state unchanged;
    later = later_trans v w x s.later put.later;
    calls_few = let before = s.calls_few in let more = put.calls in omega (arith, before, more);
    served = record { power = (put.served refl).power; stops = (put.served refl).stops ∙ s.served.stops };
  }

  store_stops : StorePut w i page false x → (t : TableView) → t.counts ≡ m.table.counts → Unchanged (standing_state m.table.counts w) (found_on m.table.counts x) → IsRecoverable m.server m.table.counts x → StopsUnchanged m v (n + 16) t x
  store_stops put t counts unchanged recoverable = record {
    recoverable = recoverable;
    unchanged = same_state unchanged;
    later = later_trans v w x s.later put.later;
    calls_few = let before = s.calls_few in let more = put.calls in omega (arith, before, more);
    stop = stop_since v w x s.later put.later (put.stop refl);
    counts = counts;
  }

store_within : (m : Memory) (v : StoreView) (n k : ℕ) (records : List Record) (w : StoreView) → n ≤ k → StorePreparing m v n records w → StorePreparing m v k records w
store_within m v n k records w le s = record { standing = s.standing; root = s.root; unchanged = s.unchanged; later = s.later; calls_few = let few = s.calls_few in omega (arith, le, few); served = s.served }

pub stops_within : (m : Memory) (v : StoreView) (n k : ℕ) (t : TableView) (w : StoreView) → n ≤ k → StopsUnchanged m v n t w → StopsUnchanged m v k t w
stops_within m v n k t w le s = record { recoverable = s.recoverable; unchanged = s.unchanged; later = s.later; calls_few = let few = s.calls_few in omega (arith, le, few); stop = s.stop; counts = s.counts }

-- ---- one intention more

module _ (m : Memory) (v : StoreView) (head : WorkHead) (list : List FullIntention) (lacks : List Bool) (stored : List StoredIntention) (records : List Record) (t : TableView) (w : StoreView) (p : IsPreparing m v head.work list lacks stored records t w) (held : (a : ℕ) → is_held m.table a ≡ works_name m.records (suc a)) where
  module _ (d : ℕ) (least : is_free_number t.free_leaves d ≡ true) (block : List ℕ) (whole : length block ≡ 448) (ok : Bool) (x : StoreView) (put : StorePut w (data_place m.table.counts d) (leaf_page block) ok x) where
    free_leaf : IsFreeLeaf t d
    free_leaf = (p.pages.table.free_leaves d).0 least

    leaf_below : d < m.table.counts.leaves
    leaf_below = subst (λ (g : Counts). d < g.leaves) p.pages.counts free_leaf.below

    neither : (b c : Bool) → (b || c) ≡ false → (b ≡ false) × (c ≡ false)
    neither b c h = (grind (arith, h), grind (arith, h))

    not_yet : (is_held m.table d ≡ false) × (list_any (is_at d) stored ≡ false)
    not_yet = neither (is_held m.table d) (list_any (is_at d) stored) (sym (p.pages.held d) ∙ free_leaf.loose)

    -- the state doesn't follow from it
    unread : reads_page (layouts_in m.table) records d ≡ false
    unread = joined (heads_name most_cells (layouts_in m.table) (suc d)) (works_have (names_for_block (suc d)) records) unnamed (false_from_ne_true (works_have (names_for_block (suc d)) records) (λ named.
        let it = found_intention (names_for_block (suc d)) records named in
        true≢false (sym (intention_has (names_address (suc d)) records it.0 it.1 it.2 (or_first (nat_eq it.1.address (suc d)) (nat_eq it.1.map (suc d)) it.3)) ∙ p.pool.names d ∙ sym (held d) ∙ not_yet.0)))
      where
        joined : (b c : Bool) → b ≡ false → c ≡ false → (b || c) ≡ false
        joined b c x y = grind (arith, x, y)

        unnamed : heads_name most_cells (layouts_in m.table) (suc d) ≡ false
        unnamed = ap (λ ls. heads_name most_cells ls (suc d)) (λ k. layouts_of (sym p.pages.maps k) (sym p.pages.heads k)) ∙ false_from_ne_true (heads_name most_cells (layouts_in t) (suc d)) (λ named.
            let it = found_cell most_cells (layouts_in t) (suc d) named in free_leaf.unnamed it.0 it.1 it.3)

    fill_makes : MakesNothing m.server m.table.counts w m.epoch records m.table.heads m.table.maps (BlockPut d block) ok x
    fill_makes = fills m.server m.table.counts w x m.epoch records m.table.heads m.table.maps ok p.store.standing d block (record { page = (leaf_below, whole); step = put }) unread

  -- the data page of a put
  pub block_stops : (i : FullIntention) (e : Stopped) (u : TableView) (x : StoreView) → BlockStored t w i (Err e) u x → StopsUnchanged m v (32 * length stored + 16) u x
  block_stops i e u x block = by (is_put i.what) refl
    where
      no_ok : {A E : Type 0} {a : A} {b : E} → ◌≡◌ {A = Result A E} (Err b) (Ok a) → ⊥
      no_ok e = cc e

      by : (b : Bool) → is_put i.what ≡ b → StopsUnchanged m v (32 * length stored + 16) u x
      by false none = absurd (no_ok (block.none none).0)
      by true some =
          let f = block.put some in
          let put = subst (λ (g : Counts). StorePut w (data_place g f.page) (leaf_page i.bytes) false x) p.pages.counts f.fills.put in
          let makes = fill_makes f.page f.least.is_free_itself i.bytes f.whole false x put in
          store_stops m v (32 * length stored) records w p.store x (data_place m.table.counts f.page) (leaf_page i.bytes) put u (ap (λ (u : TableView). u.counts) (f.fills.stopped refl) ∙ p.pages.counts) makes.unchanged makes.recoverable

  module _ (i : FullIntention) (at : slice_get list (length stored) ≡ Some i) (plain : Plain i.what i.block i.bytes) (lack : Bool) (lacks_at : slice_get lacks (length stored) ≡ Some lack) (a : ℕ) (filled : TableView) (x : StoreView) (block : BlockStored t w i (Ok a) filled x) (filled_table : IsTable filled)
      (map_address : ℕ) (u : TableView) (takes : TakesMap filled lack map_address u) (table : IsTable u) where
    -- what its block's page is
    record HasBlock : Type 0 where
      pub took : Takes t a filled
      pub put_is : nat_lt 0 a ≡ is_put i.what
      pub before : PagesPreparing m list lacks stored t x
      pub bytes : (c : Pick) → bytes_by (block_on m.table.counts (pages_by x c)) i.what a ≡ i.bytes
      pub clean : (d : ℕ) → a ≡ suc d → IsClean x (data_place m.table.counts d)
      pub store : StorePreparing m v (32 * length stored + 16) records x

    no_page : is_put i.what ≡ false → HasBlock
    no_page none = let none_put = block.none none in let zero_is = ok_is none_put.0 in record {
      took = subst (λ n. Takes t n filled) (sym zero_is) (subst (λ r. Takes t 0 r) (sym none_put.1) (takes_none t));
      put_is = ap (nat_lt 0) zero_is ∙ (let h : nat_lt 0 0 ≡ false = grind (arith, nat_tests) in h) ∙ sym none;
      before = subst (λ y. PagesPreparing m list lacks stored t y) (sym none_put.2) p.pages;
      bytes = λ c. ap (λ (n : ℕ). bytes_by (block_on m.table.counts (pages_by x c)) i.what n) zero_is ∙ by c i.what none plain;
      clean = λ d e. absurd (omega (arith, e, zero_is));
      store = subst (λ y. StorePreparing m v (32 * length stored + 16) records y) (sym none_put.2) (store_within m v (32 * length stored) (32 * length stored + 16) records w (omega arith) p.store);
    }
      where
        by : (c : Pick) (what : What) → is_put what ≡ false → Plain what i.block i.bytes → bytes_by (block_on m.table.counts (pages_by x c)) what 0 ≡ i.bytes
        by c Fresh none plain = sym plain.1
        by c Gone none plain = sym plain.1
        by c Cut none plain = sym plain
        by c Put none plain = absurd (true≢false none)

    a_page : is_put i.what ≡ true → HasBlock
    a_page some = record {
      took = subst (λ n. Takes t n filled) (sym f.address) (subst (λ r. Takes t (suc f.page) r) (sym (f.fills.done refl)) (takes_touched t (suc f.page) f.page (with_held t f.page) (takes_page t p.pages.table f.page f.least.is_free_itself)));
      put_is = ap (nat_lt 0) f.address ∙ (let h : nat_lt 0 (suc f.page) ≡ true = grind (arith, nat_tests) in h) ∙ sym some;
      before = pages_moved m list lacks stored t w x p.pages put.later.count (λ b h. put.others (data_place m.table.counts b) (let below = (p.pages.own b h).below in omega (arith, below, fits)) (λ e. other b h (omega (arith, e))));
      bytes = λ c. ap (λ (n : ℕ). bytes_by (block_on m.table.counts (pages_by x c)) i.what n) f.address ∙ its_bytes c i.what some;
      clean = λ d e. subst (λ k. IsClean x (data_place m.table.counts k)) (let s : suc f.page ≡ suc d = sym f.address ∙ e in omega (arith, s)) ((put.done refl).first ∙ sym (put.done refl).second);
      store = store_on m v (32 * length stored) records w p.store x (data_place m.table.counts f.page) (leaf_page i.bytes) put (λ e. omega (arith, e)) records makes.unchanged (makes.standing refl);
    }
      where
        f : FillsPage t w i.bytes (Ok a) filled x
        f = block.put some

        put : StorePut w (data_place m.table.counts f.page) (leaf_page i.bytes) true x
        put = subst (λ (g : Counts). StorePut w (data_place g f.page) (leaf_page i.bytes) true x) p.pages.counts f.fills.put

        fits : page_count m.table.counts ≡ w.count
        fits = p.store.standing.held.count

        makes : MakesNothing m.server m.table.counts w m.epoch records m.table.heads m.table.maps (BlockPut f.page i.bytes) true x
        makes = fill_makes f.page f.least.is_free_itself i.bytes f.whole true x put

        other : (b : ℕ) → list_any (is_at b) stored ≡ true → b ≡ f.page → ⊥
        other b h e = true≢false (sym h ∙ subst (λ k. list_any (is_at k) stored ≡ false) (sym e) (not_yet f.page f.least.is_free_itself i.bytes f.whole true x put).1)

        filled_block : (c : Pick) → block_on m.table.counts (pages_by x c) f.page ≡ i.bytes
        filled_block c = ap (λ (b : Bool). take 448 (if b then (if c (data_place m.table.counts f.page) then x.second (data_place m.table.counts f.page) else x.first (data_place m.table.counts f.page)) else [])) inside
            ∙ ap (take 448) (half (c (data_place m.table.counts f.page))) ∙ ap (λ n. take n (leaf_page i.bytes)) (sym f.whole) ∙ take-append_seam i.bytes (replicate 64 0)
          where
            inside : nat_lt (data_place m.table.counts f.page) x.count ≡ true
            inside = let count = put.later.count in let lt = leaf_below f.page f.least.is_free_itself i.bytes f.whole true x put in below_count (data_place m.table.counts f.page) x.count (omega (arith, count, lt, fits))
              where
                below_count : (a b : ℕ) → a < b → nat_lt a b ≡ true
                below_count a b h = grind (arith, nat_tests)

            half : (b : Bool) → (if b then x.second (data_place m.table.counts f.page) else x.first (data_place m.table.counts f.page)) ≡ leaf_page i.bytes
            half true = (put.done refl).second
            half false = (put.done refl).first

        its_bytes : (c : Pick) (what : What) → is_put what ≡ true → bytes_by (block_on m.table.counts (pages_by x c)) what (suc f.page) ≡ i.bytes
        its_bytes c Fresh h = absurd (true≢false (sym h))
        its_bytes c Gone h = absurd (true≢false (sym h))
        its_bytes c Cut h = absurd (true≢false (sym h))
        its_bytes c Put h = filled_block c

    has_block : HasBlock
    has_block = by (is_put i.what) refl
      where
        by : (b : Bool) → is_put i.what ≡ b → HasBlock
        by true e = a_page e
        by false e = no_page e

    -- the map page that it lacks
    took_map : Takes filled map_address u × (nat_lt 0 map_address ≡ lack)
    took_map = by lack refl
      where
        by : (b : Bool) → lack ≡ b → Takes filled map_address u × (nat_lt 0 map_address ≡ lack)
        by false e = let none = takes.none e in (
          subst (λ n. Takes filled n u) (sym none.0) (subst (λ r. Takes filled 0 r) (sym none.1) (takes_none filled)),
          ap (nat_lt 0) none.0 ∙ (let h : nat_lt 0 0 ≡ false = grind (arith, nat_tests) in h) ∙ sym e,
        )
        by true e = let page = takes.page e in (
          subst (λ n. Takes filled n u) (sym page.address_is) (subst (λ r. Takes filled (suc page.page) r) (sym page.held) (takes_page filled filled_table page.page page.least.is_free_itself)),
          ap (nat_lt 0) page.address_is ∙ (let h : nat_lt 0 (suc page.page) ≡ true = grind (arith, nat_tests) in h) ∙ sym e,
        )

    pages_on : PagesPreparing m list lacks (stored ++ stored_as i a map_address ∷ []) u x
    pages_on = pages_more m list lacks stored t filled u x has_block.before i at lack lacks_at a map_address has_block.took took_map.0 table has_block.put_is took_map.1
        (λ c. ap (λ (bytes : List ℕ). let y : FullIntention = record { what = i.what; file = i.file; block = i.block; bytes = bytes } in y) (has_block.bytes c)) has_block.clean

    -- and its record
    module _ (answer : Result StoredIntention Stopped) (new : List Record) (y : StoreView) (r : RecordStored records x head (length stored) (stored_as i a map_address) answer new y) where
      there : r.slot < m.table.counts.pool
      there = let lt = free_there m head.work stored records p.pool r.slot r.free in let slots = p.store.standing.held.slots in omega (arith, lt, slots)

      record_makes : MakesNothing m.server m.table.counts x m.epoch records m.table.heads m.table.maps (RecordPut r.slot (IntentionRecord head.work head.tid (length stored) (stored_as i a map_address))) (is_ok answer) y
      record_makes = idles m.server m.table.counts x y m.epoch records m.table.heads m.table.maps (is_ok answer) has_block.store.standing r.slot (IntentionRecord head.work head.tid (length stored) (stored_as i a map_address))
          (step_of m.server m.table.counts x r.slot (IntentionRecord head.work head.tid (length stored) (stored_as i a map_address)) (is_ok answer) y there r.whole r.puts.put) (stored_idle m head.work stored records p.pool r.slot r.free head.tid (stored_as i a map_address))

      block_written : PutsFew (count_by is_put_intention (take (length stored) list) + length stored + (if is_put i.what then 1 else 0)) v x × (x.count ≡ v.count)
      block_written = block_puts _ t v w i (Ok a) filled x p.store.later.count p.written block

      pub record_stops : is_ok answer ≡ false → StopsUnchanged m v (32 * length stored + 32) u y
      record_stops stopped =
          let put = subst (λ b. StorePut x (slot_page r.slot) (record_page (IntentionRecord head.work head.tid (length stored) (stored_as i a map_address))) b y) stopped r.puts.put in
          stops_within m v (32 * length stored + 16 + 16) (32 * length stored + 32) u y (omega arith)
          (store_stops m v (32 * length stored + 16) records x has_block.store y (slot_page r.slot) (record_page (IntentionRecord head.work head.tid (length stored) (stored_as i a map_address))) put u pages_on.counts record_makes.unchanged record_makes.recoverable)

      pub record_on : (s : StoredIntention) → answer ≡ Ok s → IsPreparing m v head.work list lacks (stored ++ s ∷ []) new u y
      record_on s done =
          let ok : is_ok answer ≡ true = ap is_ok done in
          let same : s ≡ stored_as i a map_address = subst (λ (q : Result StoredIntention Stopped). IfOk q (λ z. z ≡ stored_as i a map_address)) done r.stored in
          let put = subst (λ b. StorePut x (slot_page r.slot) (record_page (IntentionRecord head.work head.tid (length stored) (stored_as i a map_address))) b y) ok r.puts.put in
          let is_now = r.puts.done ok in
          let store = store_on m v (32 * length stored + 16) records x has_block.store y (slot_page r.slot) (record_page (IntentionRecord head.work head.tid (length stored) (stored_as i a map_address))) put (λ e. omega (arith, e)) _ record_makes.unchanged (record_makes.standing ok) in
          subst (λ z. IsPreparing m v head.work list lacks (stored ++ z ∷ []) new u y) (sym same) (subst (λ l. IsPreparing m v head.work list lacks (stored ++ stored_as i a map_address ∷ []) l u y) (sym is_now) (record {
            pool = pool_goes_on m head.work stored records p.pool r.slot r.free head.tid (stored_as i a map_address);
            pages = pages_moved m list lacks (stored ++ stored_as i a map_address ∷ []) u x y pages_on put.later.count (λ b h. put.others (data_place m.table.counts b)
                (let below = (pages_on.own b h).below in let count = has_block.store.standing.held.count in omega (arith, below, count)) (λ e. let lt = there in omega (arith, e, lt)));
            store = store_within m v (32 * length stored + 16 + 16) (32 * length (stored ++ stored_as i a map_address ∷ [])) _ y (let l = length-append stored (stored_as i a map_address ∷ []) in omega (arith, l)) store;
            written = puts_within _ _ v y (stored_puts list stored (stored_as i a map_address) i at) (puts_more _ v x y _ block_written.1 block_written.0 r.puts.put.others);
          }))

-- ---- the same of what the code makes

module _ (m : Memory) (v : StoreView) (head : WorkHead) (list : List FullIntention) (lacks : List Bool) (stored : List StoredIntention) (records : List Record) (t : TableView) (w : StoreView) (p : IsPreparing m v head.work list lacks stored records t w) (held : (a : ℕ) → is_held m.table a ≡ works_name m.records (suc a))
    (i : FullIntention) (at : slice_get list (length stored) ≡ Some i) (plain : Plain i.what i.block i.bytes) (lack : Bool) (lacks_at : slice_get lacks (length stored) ≡ Some lack) (answer : Result StoredIntention Stopped) (new : List Record) (u : TableView) (y : StoreView)
    (is : IntentionStored records t w head (length stored) i lack answer new u y) (table : IsTable u) where
  pub goes_on : (s : StoredIntention) → answer ≡ Ok s → IsPreparing m v head.work list lacks (stored ++ s ∷ []) new u y
  goes_on s done = by is.address refl is.block
    where
      by : (a : Result ℕ Stopped) → is.address ≡ a → BlockStored t w i a is.filled is.between → IsPreparing m v head.work list lacks (stored ++ s ∷ []) new u y
      by (Ok a) e block = record_on m v head list lacks stored records t w p held i at plain lack lacks_at a is.filled is.between block is.table is.map u (is.takes (ap is_ok e)) table answer new y (is.recorded a e) s done
      by (Err a) e block = absurd (true≢false (sym (ap is_ok done) ∙ (is.stopped (ap is_ok e)).0))

  pub stops_here : is_ok answer ≡ false → StopsUnchanged m v (32 * length stored + 32) u y
  stops_here stopped = by is.address refl is.block
    where
      by : (a : Result ℕ Stopped) → is.address ≡ a → BlockStored t w i a is.filled is.between → StopsUnchanged m v (32 * length stored + 32) u y
      by (Ok a) e block = record_stops m v head list lacks stored records t w p held i at plain lack lacks_at a is.filled is.between block is.table is.map u (is.takes (ap is_ok e)) table answer new y (is.recorded a e) stopped
      by (Err a) e block = let same = is.stopped (ap is_ok e) in
          subst (λ z. StopsUnchanged m v (32 * length stored + 32) u z) (sym same.2) (subst (λ r. StopsUnchanged m v (32 * length stored + 32) r is.between) (sym same.1)
          (stops_within m v (32 * length stored + 16) (32 * length stored + 32) is.filled is.between (omega arith) (block_stops m v head list lacks stored records t w p held i a is.filled is.between block)))

  -- which pages are put, done or stopped
  pub puts_here : PutsFew (count_by is_put_intention (take (suc (length stored)) list) + suc (length stored)) v y
  puts_here = subst (λ n. PutsFew n v y) (next_puts list (length stored) i at) (by is.address refl is.block)
    where
      by : (a : Result ℕ Stopped) → is.address ≡ a → BlockStored t w i a is.filled is.between → PutsFew (suc (count_by is_put_intention (take (length stored) list) + length stored + (if is_put i.what then 1 else 0))) v y
      by (Ok a) e block = let before = block_puts _ t v w i (Ok a) is.filled is.between p.store.later.count p.written block in let r = is.recorded a e in
          puts_more _ v is.between y _ before.1 before.0 r.puts.put.others
      by (Err a) e block = let before = block_puts _ t v w i (Err a) is.filled is.between p.store.later.count p.written block in
          puts_suc _ v y (subst (λ z. PutsFew (count_by is_put_intention (take (length stored) list) + length stored + (if is_put i.what then 1 else 0)) v z) (sym (is.stopped (ap is_ok e)).2) before.0)

-- ---- all of them

pub plain_at : (list : List FullIntention) (k : ℕ) (d : FullIntention) → AllPlain list → k < length list → Plain (slice_index_or list k d).what (slice_index_or list k d).block (slice_index_or list k d).bytes
plain_at [] k d plain lt = absurd (omega (arith, lt))
plain_at (i ∷ list) zero d plain lt = plain.0
plain_at (i ∷ list) (suc k) d plain lt = plain_at list k d plain.1 (omega (arith, lt))

pub lacking_length : (places : MapPlaces) (list : List FullIntention) → length (lacking places list) ≡ length list
lacking_length places [] = refl
lacking_length places (i ∷ list) = ap suc (lacking_length (places_after i places) list)

-- what lacks a map page stands past the head's blocks
pub lacks_past : (places : MapPlaces) (list : List FullIntention) (k : ℕ) (d : FullIntention) → k < length list → slice_index_or (lacking places list) k false ≡ true → is_past_head (slice_index_or list k d) ≡ true
lacks_past places [] k d lt h = absurd (omega (arith, lt))
lacks_past places (i ∷ list) zero d lt h = first (is_put i.what) (nat_le head_blocks i.block.0) (places i.file (i.block.0 / head_blocks - 1)) h
  where
    first : (a b c : Bool) → (a && b && not c) ≡ true → (a && b) ≡ true
    first a b c h = grind (arith, h)
lacks_past places (i ∷ list) (suc k) d lt h = lacks_past (places_after i places) list k d (omega (arith, lt)) h

module _ (m : Memory) (v : StoreView) (head : WorkHead) (list : List FullIntention) (lacks : List Bool) (may : MayStore m v head.work list lacks) (stored : List StoredIntention) (records : List Record) (t : TableView) (w : StoreView) (p : IsPreparing m v head.work list lacks stored records t w)
    (order : ℕ) (longer : length stored ≡ order) (lt : order < length list) (d : FullIntention) (b : Bool) (lacks_is : slice_get lacks order ≡ Some b) (answer : Result StoredIntention Stopped) (new : List Record) (u : TableView) (y : StoreView)
    (is : IntentionStored records t w head order (slice_index_or list order d) b answer new u y) (table : IsTable u) where
  at : slice_get list (length stored) ≡ Some (slice_index_or list order d)
  at = ap (slice_get list) longer ∙ slice_get-get_or list order d lt

  lacks_at : slice_get lacks (length stored) ≡ Some b
  lacks_at = ap (slice_get lacks) longer ∙ lacks_is

  its : IntentionStored records t w head (length stored) (slice_index_or list order d) b answer new u y
  its = subst (λ n. IntentionStored records t w head n (slice_index_or list order d) b answer new u y) (sym longer) is

  pub list_on : (s : StoredIntention) → answer ≡ Ok s → IsPreparing m v head.work list lacks (stored ++ s ∷ []) new u y
  list_on s done = goes_on m v head list lacks stored records t w p may.now.held (slice_index_or list order d) at (plain_at list order d may.order.plain lt) b lacks_at answer new u y its table s done

  pub list_stops : is_ok answer ≡ false → (c : Bool) → c ≡ false → ListStored m v head.work list lacks c stored new u y
  list_stops stopped c e = record {
    all = λ ok. absurd (true≢false (sym ok ∙ e));
    done = λ ok. absurd (true≢false (sym ok ∙ e));
    stopped = λ _. stops_within m v (32 * length stored + 32) 768 u y (let few = may.few in omega (arith, longer, lt, few))
        (stops_here m v head list lacks stored records t w p may.now.held (slice_index_or list order d) at (plain_at list order d may.order.plain lt) b lacks_at answer new u y its table stopped);
    written = puts_within _ _ v y (all_puts list (suc (length stored)) (omega (arith, longer, lt)))
        (puts_here m v head list lacks stored records t w p may.now.held (slice_index_or list order d) at (plain_at list order d may.order.plain lt) b lacks_at answer new u y its table);
  }

-- enough data pages are left for the next intention
pub pages_left : (m : Memory) (v : StoreView) (work : WorkId) (list : List FullIntention) (lacks : List Bool) (stored : List StoredIntention) (records : List Record) (t : TableView) (w : StoreView) → MayStore m v work list lacks → IsPreparing m v work list lacks stored records t w
    → (order : ℕ) → length stored ≡ order → order < length list → (d : FullIntention) (b : Bool) → slice_get lacks order ≡ Some b → (if is_put (slice_index_or list order d).what then 1 else 0) + (if b then 1 else 0) ≤ free_numbers t.free_leaves
pages_left m v work list lacks stored records t w may p order longer lt d b lacks_is =
    let free = p.pages.free in let enough = may.pages in
    let at : pages_taken list lacks (length stored) ≡ pages_taken list lacks order = ap (pages_taken list lacks) longer in
    let puts = ap (count_by is_put_intention) (take_more list order (slice_index_or list order d) (slice_get-get_or list order d lt)) in
    let split = sum_by-append (λ (x : FullIntention). if is_put_intention x then 1 else 0) (take order list) (slice_index_or list order d ∷ []) in
    let last = sum_by-cons (λ (x : FullIntention). if is_put_intention x then 1 else 0) (slice_index_or list order d) [] in
    let maps = ap (count_by (λ (b : Bool). b)) (take_more lacks order b lacks_is) in
    let maps_split = sum_by-append (λ (b : Bool). if b then 1 else 0) (take order lacks) (b ∷ []) in
    let maps_last = sum_by-cons (λ (b : Bool). if b then 1 else 0) b [] in
    let most = sum_by-take-le (λ (i : FullIntention). if is_put_intention i then 1 else 0) list (suc order) in
    let most_maps = sum_by-take-le (λ (b : Bool). if b then 1 else 0) lacks (suc order) in
    omega (arith, free, enough, at, puts, split, last, maps, maps_split, maps_last, most, most_maps)

-- ---- the pages that one intention takes

-- a put has a page for its block
pub block_page : (i : FullIntention) (lacks : Bool) (t : TableView) → (if is_put i.what then 1 else 0) + (if lacks then 1 else 0) ≤ free_numbers t.free_leaves → is_put i.what ≡ true → 0 < free_numbers t.free_leaves
block_page i lacks t enough put = let some = ap one put in omega (arith, enough, some)

-- one that is free less
free_within : (xs : List Bool) (d : ℕ) → slice_index_or xs d false ≡ true → d < length xs
free_within [] d h = absurd (true≢false (sym h))
free_within (x ∷ xs) zero h = omega arith
free_within (x ∷ xs) (suc d) h = let again = free_within xs d h in omega (arith, again)

free_less : (f : FreeNumbers) (d : ℕ) → is_free_number f d ≡ true → free_numbers (with_free f d false) + 1 ≡ free_numbers f
free_less f d free = let e = sum_by-set (λ (free : Bool). if free then 1 else 0) f.flags d false false (free_within f.flags d free) in grind (arith, e, free)

-- and then one for its map page
pub map_page : (i : FullIntention) (lacks : Bool) (t : TableView) (v : StoreView) (a : ℕ) (u : TableView) (w : StoreView) → BlockStored t v i (Ok a) u w → (if is_put i.what then 1 else 0) + (if lacks then 1 else 0) ≤ free_numbers t.free_leaves → lacks ≡ true → 0 < free_numbers u.free_leaves
map_page i lacks t v a u w block enough lack = by (is_put i.what) refl
  where
    some : one lacks ≡ 1
    some = ap one lack

    by : (b : Bool) → is_put i.what ≡ b → 0 < free_numbers u.free_leaves
    by false e = let same = (block.none e).1 in let free = ap (λ (x : TableView). free_numbers x.free_leaves) same in omega (arith, free, enough, some)
    by true e =
        let f = block.put e in
        let free = free_less t.free_leaves f.page f.least.is_free_itself in
        let held = ap (λ (x : TableView). free_numbers x.free_leaves) (f.fills.done refl) in
        let puts = ap one e in omega (arith, free, enough, some, puts, held)
