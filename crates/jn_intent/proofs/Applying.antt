-- A work's next intention is carried out, by one put, by two or by none.
use Rattle.jn_intent.proofs.Common.{◌≡◌, ◌≢◌, ◌⊎◌, inl, inr, ⊎_elim, ◌<◌, ◌≤◌, ◌+◌, ◌-◌, ◌/◌, ℕ, suc, Bool, true, false, not, ◌&&◌, ◌||◌, if◌then◌else◌, List, [], ◌∷◌, length, map, drop, Option, Some, None, Result, Ok, refl, sym, ◌∙◌, ap, subst, true≢false, arith, fun_ext, cases_eq, false_from_ne_true, nat_tests, get_or_read, sum_by-cons, slice_get-map, slice_get_within, nat_lt, nat_le, nat_eq, is_ok, is_some, slice_get, slice_set, slice_index_or, option_map, find, list_all, list_any, free_numbers, is_free_number, Stopped, FileNo, Block, WorkId, file_eq, work_eq, file_tells, work_tells, unit_eq, Files, change, written, TableView, IsTable, IsFreeLeaf, exists, layouts_in, kept_entry, intended, bytes_by, heads_name, works_have, names_for_block, held_contents, found_on, Intends, IsRecoverable, IsStanding, passes_at, FullIntention, StoredIntention, What, Fresh, Gone, Cut, Put, WorkState, intention_has_page, names_what_it_needs, is_fresh, is_put, is_put_intention, Counts, StableState, Pick, Changed, CarryOut, made_by, at_work, is_prepared, record_in, has_page, state, name_of, next_of, Called, CountsOn, PageTaken, PageStands, StepApplied, find_by, are_different, IsListing, total, is_in, but, is_in-but, total-but, total-same, IsServing, IsLoadable, file_there, is_stored, intentions_of, list_of, find-set, keys-set, made_there, there-after, StoreView, IsOnly, Carries, PutsWhole, PutsInTurn, MayCarry, heads_taken, is_gone, is_gone_already, counted_on, Matches, IsKeptMemory, IsMade, AreMade, HasMaps, HaveMaps, stored_work, Memory, accounts_of, view_of, next_by, next_in, stored_by, held_of, held_in, one, listed_length, serves_of, serving_by, loadable_found, there_found, prepared_of, stored_pages, root_page, root_by, Layout, Unused, at_cell, layout_at, is_layout_of, map_cell, maps_in, lacks_map, places_after, head_blocks, most_cells, behind, bare, has_map_after, is_in_range, names_maps, IsSuppliedBy, change_by, names_file, is_past_head, most_pages, map_eq, has_map, layouts_said, maps_fit}
use Rattle.jn_page_state.proofs.HeadLaws.{gone_law}
use Rattle.jn_files.proofs.Lookup.{maps_absent}
use Rattle.jn_storage.proofs.Laws.{called_not}
use Rattle.jn_intent.proofs.CarriedPuts.{IsCarried, carried_once, carried_twice}
use Rattle.jn_intent.proofs.CarryStates.{IsCountedOn, carried_loadable, serves_carried}
use Rattle.jn_intent.proofs.Census.{cell_below}
use Rattle.jn_intent.proofs.HeadPuts.{own_layout, absent_none}
use Rattle.jn_intent.proofs.HeldPages.{put_layout, named_before, other_holds, taken, in_its_place, in_place}
use Rattle.jn_intent.proofs.Laid.{IsLaid, laid_whole, laid_turn}
use Rattle.jn_intent.proofs.LeftMaps.{rest_supplied, more_supplied, same_supplied, file_named, left_at}
use Rattle.jn_intent.proofs.Listed.{not_map_cell}
use Rattle.jn_intent.proofs.MapsAfter.{map_before, maps_after}
use Rattle.jn_intent.proofs.Naming.{found_cell, cell_named, found_intention, given_cell, page_of_put}
use Rattle.jn_intent.proofs.NetOrder.{one_first, not_both}
use Rattle.jn_intent.proofs.NextIntention.{its_work, its_stands, next_seen, at_full, its_slot, page_fits, page_held, brought, pages_two, its_supply, together, same_bytes, taken_is, may_carry}
use Rattle.jn_intent.proofs.Numbers.{how_many, flags_count, more_pass}
use Rattle.jn_intent.proofs.PutListings.{blocks_grow, maps_grow}
use Rattle.jn_intent.proofs.Removing.{found_work}
use Rattle.jn_intent.proofs.WorkPages.{first_blocks, its_list, work_told, census, state_found, layouts_kept, pages_differ, ranged}

-- ---- the listed works

-- a work has carried out one intention more, and the others are as they were
pub record IsSteppedTo (old : List WorkState) (work : WorkId) (s : WorkState) (new : List WorkState) : Type 0 where
  pub names : map name_of new ≡ map name_of old
  pub found : (w : WorkId) → find_by work_eq name_of new w ≡ (if work_eq work w then Some (counted_on s) else find_by work_eq name_of old w)

pub stepped_at : (old new : List WorkState) (work : WorkId) (s : WorkState) (i : ℕ) → i < length old → are_different work_eq (map name_of old) ≡ true → name_of s ≡ work → slice_index_or old i s ≡ s → slice_index_or old i (counted_on s) ≡ s
    → new ≡ slice_set old i (counted_on s) → IsSteppedTo old work s new
stepped_at old new work s i below differ name at again is = record {
  names = ap (map name_of) is ∙ keys-set name_of old i (counted_on s) (ap name_of (sym again));
  found = λ w. ap (λ l. find_by work_eq name_of l w) is ∙ find-set work_eq work_tells name_of old i (counted_on s) w below differ (ap name_of (sym again)) ∙ ap (λ k. if work_eq k w then Some (counted_on s) else find_by work_eq name_of old w) name;
}

-- ---- the pages that a work holds

held_most : (layouts : List Layout) (blocks : ℕ → List ℕ) (list : List StoredIntention) → list_all intention_has_page list ≡ true → total (held_of layouts) list ≤ most_pages (map (intended blocks) list)
held_most layouts blocks [] pages = omega arith
held_most layouts blocks (i ∷ list) pages =
    let a = sum_by-cons (λ (i : FullIntention). if is_put_intention i then 1 else 0) (intended blocks i) (map (intended blocks) list) in
    let b = sum_by-cons (λ (i : FullIntention). if is_past_head i then 1 else 0) (intended blocks i) (map (intended blocks) list) in
    let again = held_most layouts blocks list (grind (arith, pages)) in
    let here = by i.what i.block.0 i.address i.map (not (heads_name most_cells layouts i.address)) (not (heads_name most_cells layouts i.map)) (grind (arith, pages)) in omega (arith, a, b, again, here)
  where
    most : (b : Bool) → one b ≤ 1
    most true = omega arith
    most false = omega arith

    none : (a : ℕ) (b : Bool) → nat_eq a 0 ≡ true → one (nat_lt 0 a && b) ≡ 0
    none a b e = grind (arith, nat_tests, e)

    by : (w : What) (n a m : ℕ) (b c : Bool) → names_what_it_needs w n a m ≡ true → one (nat_lt 0 a && b) + one (nat_lt 0 m && c) ≤ one (is_put w) + one (is_put w && nat_le head_blocks n)
    by Fresh n a m b c h = let x = none a b (grind (arith, h)) in let y = none m c (grind (arith, h)) in omega (arith, x, y)
    by Gone n a m b c h = let x = none a b (grind (arith, h)) in let y = none m c (grind (arith, h)) in omega (arith, x, y)
    by Cut n a m b c h = let x = none a b (grind (arith, h)) in let y = none m c (grind (arith, h)) in omega (arith, x, y)
    by Put n a m b c h = let x = most (nat_lt 0 a && b) in let y = past (nat_eq m 0) (nat_le head_blocks n) refl refl (grind (arith, h)) in omega (arith, x, y)
      where
        past : (p q : Bool) → nat_eq m 0 ≡ p → nat_le head_blocks n ≡ q → (p || q) ≡ true → one (nat_lt 0 m && c) ≤ one (true && nat_le head_blocks n)
        past true q e f h = let x = none m c e in omega (arith, x)
        past false true e f h = let x = ap one f in let y = most (nat_lt 0 m && c) in let z : one (true && nat_le head_blocks n) ≡ one (nat_le head_blocks n) = refl in omega (arith, x, y, z)
        past false false e f h = absurd (true≢false (sym h))

-- ---- the call

module _ (m : Memory) (v : StoreView) (now : Matches m v) (serving : IsServing (view_of m v)) (work : WorkId) (s : WorkState) (here : find_by work_eq name_of m.works work ≡ Some s) where
  -- none is left
  pub none_left : slice_get s.list s.next ≡ None → StepApplied (view_of m v) work (Ok false) (view_of m v)
  none_left none = record {
    called = called_not (view_of m v) 32 serving;
    none_left = λ e. (refl, refl);
    carried = λ i e. absurd (no_next i (sym seen ∙ e));
    done = λ i e is. absurd (no_next i (sym seen ∙ e));
    put = λ i e put is. absurd (no_next i (sym seen ∙ e));
  }
    where
      seen : next_of (view_of m v) work ≡ None
      seen = next_seen m v now serving work s here ∙ ap (option_map (intended (first_blocks m v))) none

      no_next : (i : FullIntention) → None ≡ Some i → ⊥
      no_next i e = cc e

  module _ (i : StoredIntention) (at : slice_get s.list s.next ≡ Some i) where
    abbrev full : FullIntention
    full = intended (first_blocks m v) i

    abbrev before : StableState
    before = state (view_of m v)

    pub next_is : next_of (view_of m v) work ≡ Some (intended (first_blocks m v) i)
    next_is = next_seen m v now serving work s here ∙ ap (option_map (intended (first_blocks m v))) at

    its_next : next_in m.works work ≡ s.next
    its_next = ap next_by here

    stands : before.works work ≡ Some (its_work m v now serving work s here)
    stands = its_stands m v now serving work s here

    there : slice_get (its_work m v now serving work s here).list s.next ≡ Some full
    there = at_full m v now serving work s here i at

    -- what is held for the work then: its page is taken, or it is in its place already
    abbrev PutHolds : TableView → Type 0
    PutHolds u = (total (held_of (layouts_in u)) s.list + 1 + one (lacks_map (maps_in m.table.heads) (bare i)) ≡ total (held_of (layouts_in m.table)) s.list)
        ⊎ ((before.files (Block i.file i.block) ≡ Some full.bytes) × (total (held_of (layouts_in u)) s.list ≡ total (held_of (layouts_in m.table)) s.list) × (lacks_map (maps_in m.table.heads) (bare i) ≡ false))

    -- what the table and the store are then
    record IsStepped (u : TableView) (w : StoreView) : Type 0 where
      pub counts : u.counts ≡ m.table.counts
      pub held : u.held ≡ m.table.held
      pub promised : u.free_heads.promised + heads_taken m.table i ≡ m.table.free_heads.promised
      pub table : IsTable u
      pub free : free_numbers m.table.free_leaves ≤ free_numbers u.free_leaves
      pub others_hold : (o : WorkId) → work ≢ o → total (held_of (layouts_in u)) (stored_by (find_by work_eq name_of m.works o)) ≡ total (held_of (layouts_in m.table)) (stored_by (find_by work_eq name_of m.works o))
      pub maps : maps_in u.heads ≡ places_after (bare i) (maps_in m.table.heads)
      pub put_holds : i.what ≡ Put → PutHolds u
      pub standing : IsStanding m.server u.counts w m.epoch m.records u.heads u.maps
      pub root : IsOnly w 0 (root_page (root_by m.server u.counts m.epoch))
      pub found : (c : Pick) → found_on u.counts w c ≡ made_by (CarryOut work full) before
      pub power : w.power ≡ true

    may : MayCarry m.table v i
    may = may_carry m v now serving work s here i at

    its : (slot : ℕ) × Intends m.records slot i
    its = its_slot m v now serving work s here i at

    its_loadable : IsLoadable m.server m.table.counts.heads (made_by (CarryOut work full) before)
    its_loadable = carried_loadable before (accounts_of m) work (its_work m v now serving work s here) s.next full (serves_of m v serving) stands there

    -- ---- by puts

    module _ (ok : Bool) (u : TableView) (w : StoreView) where
      -- what the store is
      carried_by : PutsWhole m.table v i ok u w ⊎ PutsInTurn m.table v i ok u w → IsCarried 32 m.server m.table.counts m.epoch m.records before work full v ok u w
      carried_by (inl p) = let is = carried_once m.server m.epoch m.records its.0 work i full its.1 m.table v now.standing now.table (same_bytes m v now serving work s here i at) its_loadable ok u w p in record {
        counts = is.counts;
        later = is.later;
        calls = let few = is.calls in omega (arith, few);
        changed = is.changed;
        recoverable = is.recoverable;
        served = is.served;
        stop = is.stop;
        standing = is.standing;
        root = is.root;
      }
      carried_by (inr p) = carried_twice m.server m.epoch m.records its.0 work i full its.1 m.table v now.standing now.table (same_bytes m v now serving work s here i at) its_loadable ok u w
          (λ a e. page_fits m v now serving work s here i at a i.block.0 (inl (e, refl)))
          (λ a d address map. pages_two m v now serving work s here i at a d address map)
          (λ d map. false_from_ne_true (works_have (names_for_block (suc d)) m.records) (λ named.
          let it = found_intention (names_for_block (suc d)) m.records named in
          not_map_cell it.1.block.0 (i.block.0 / head_blocks - 1) (ranged m v now it.0 it.1 it.2)
          ((pages_differ m v now).works d it.0 its.0 it.1.block.0 (map_cell (i.block.0 / head_blocks - 1)) it.1 i it.2 its.1 (inl (equal it.1.address (suc d) it.3, refl)) (inr (map, refl))).1)) p
        where
          equal : (a b : ℕ) → nat_eq a b ≡ true → a ≡ b
          equal a b e = grind (arith, nat_tests, e)

      -- what the table is
      laid_by : (p : PutsWhole m.table v i ok u w ⊎ PutsInTurn m.table v i ok u w) → ok ≡ true → (place : ℕ) × (new : Layout) × IsLaid m.table i place new u
      laid_by (inl p) done = (p.slot, p.new, laid_whole m.table v i ok u w p done may.promised)
      laid_by (inr p) done = by p.ready refl
        where
          by : (b : Bool) → p.ready ≡ b → (place : ℕ) × (new : Layout) × IsLaid m.table i place new u
          by true ready = laid_turn m.table v i now.table ok u w p ready done
          by false stopped = absurd (true≢false (sym done ∙ (p.stopped stopped).0))

      module _ (place : ℕ) (new : Layout) (laid : IsLaid m.table i place new u) where
        -- no page is taken
        still_free : (a : ℕ) → is_free_number m.table.free_leaves a ≡ true → is_free_number u.free_leaves a ≡ true
        still_free a e = (laid.table.free_leaves a).1 (record {
          below = subst (λ (g : Counts). a < g.leaves) (sym laid.counts) free.below;
          loose = ap (λ h. slice_index_or h a false) laid.held ∙ free.loose;
          unnamed = λ slot q d. ⊎_elim
              (λ old. let it = found_cell most_cells (layouts_in m.table) (suc a) old in free.unnamed it.0 it.1 it.3)
              (λ own. let cell = given_cell i a own in true≢false (sym (page_held m v now serving work s here i at a cell.0 cell.1) ∙ free.loose))
              (named_before m v now serving work s here i at place new laid.carries a
              (ap (λ ls. heads_name most_cells ls (suc a)) (sym laid.layouts) ∙ cell_named most_cells (layouts_in u) a slot q (cell_below (kept_entry u.maps) u.heads slot q a d) d));
        })
          where
            free : IsFreeLeaf m.table a
            free = (now.table.free_leaves a).0 e

        -- where a map page comes, the intention names one
        brings : (j : ℕ) → i.what ≡ Put → is_in_range j i.block.0 ≡ true → at_cell (layout_at (layouts_in m.table) place) (map_cell j) ≡ 0 → i.map ≢ 0
        brings j put range none zero_map =
            let it = brought m v now serving work s here i at lacks in let e = it.1 in omega (arith, e, zero_map)
          where
            own : is_layout_of i.file (layout_at (layouts_in m.table) place) ≡ true
            own = put_layout i.what i.file (layout_at (layouts_in m.table) place) put laid.carries.serves

            its_range : i.block.0 / head_blocks - 1 ≡ j
            its_range = grind (arith, nat_tests, range)

            far : nat_le head_blocks i.block.0 ≡ true
            far = let high : 120 ≤ i.block.0 = grind (arith, nat_tests, range) in grind (arith, nat_tests, high)

            absent : maps_in m.table.heads i.file (i.block.0 / head_blocks - 1) ≡ false
            absent = map_before m.table now.table i place new laid.carries (i.block.0 / head_blocks - 1) own ∙ ap (λ (k : ℕ). nat_lt 0 (at_cell (layout_at (layouts_in m.table) place) (map_cell k))) its_range
                ∙ ap (nat_lt 0) none ∙ no_lt
              where
                no_lt : nat_lt 0 0 ≡ false
                no_lt = grind (arith, nat_tests)

            lacks : lacks_map (maps_in m.table.heads) (bare i) ≡ true
            lacks = ap (λ w. is_put w && nat_le head_blocks i.block.0 && not (maps_in m.table.heads i.file (i.block.0 / head_blocks - 1))) put ∙ all (nat_le head_blocks i.block.0) (maps_in m.table.heads i.file (i.block.0 / head_blocks - 1)) far absent
              where
                all : (b c : Bool) → b ≡ true → c ≡ false → (true && b && not c) ≡ true
                all b c x y = grind (arith, x, y)

        put_holds_by : i.what ≡ Put → PutHolds u
        put_holds_by put = subst (λ ls. (total (held_of ls) s.list + 1 + one (lacks_map (maps_in m.table.heads) (bare i)) ≡ total (held_of (layouts_in m.table)) s.list)
            ⊎ ((before.files (Block i.file i.block) ≡ Some full.bytes) × (total (held_of ls) s.list ≡ total (held_of (layouts_in m.table)) s.list) × (lacks_map (maps_in m.table.heads) (bare i) ≡ false))) (sym laid.layouts) (⊎_elim
            (λ e. let same = stands_there e in inr (stored e, same.0, same.1))
            (λ ne. inl (taken m v now serving work s here i at place new laid.carries put named.0 named.1 ne))
            (cases_eq (at_cell (layout_at (layouts_in m.table) place) i.block.0) (suc named.0)))
          where
            named : (a : ℕ) × (i.address ≡ suc a)
            named = page_of_put i.what i.block.0 i.address i.map may.names put

            stands_there : at_cell (layout_at (layouts_in m.table) place) i.block.0 ≡ suc named.0 → (total (held_of (slice_set (layouts_in m.table) place new)) s.list ≡ total (held_of (layouts_in m.table)) s.list) × (lacks_map (maps_in m.table.heads) (bare i) ≡ false)
            stands_there e = in_its_place m v now serving work s here i at place new laid.carries put named.0 named.1 e

            stored : at_cell (layout_at (layouts_in m.table) place) i.block.0 ≡ suc named.0 → before.files (Block i.file i.block) ≡ Some full.bytes
            stored e = in_place m v now serving work s here i at place new laid.carries put named.0 named.1 ∙ ap (behind (first_blocks m v)) e
                ∙ ap (λ (b : List ℕ). Some b) (sym (ap (λ w. bytes_by (first_blocks m v) w i.address) put ∙ ap (bytes_by (first_blocks m v) Put) named.1))

        stepped_by : ok ≡ true → IsCarried 32 m.server m.table.counts m.epoch m.records before work full v ok u w → IsStepped u w
        stepped_by done is = record {
          counts = laid.counts;
          held = laid.held;
          promised = laid.promised;
          table = laid.table;
          free =
              let old = flags_count m.table.free_leaves.flags in let new_flags = flags_count u.free_leaves.flags in
              let long = ap (how_many (λ a. is_free_number m.table.free_leaves a)) now.table.leaf_count in
              let also = ap (how_many (λ a. is_free_number u.free_leaves a)) (laid.table.leaf_count ∙ ap (λ (g : Counts). g.leaves) laid.counts) in
              let more = more_pass (λ a. is_free_number m.table.free_leaves a) (λ a. is_free_number u.free_leaves a) m.table.counts.leaves still_free in omega (arith, old, new_flags, long, also, more);
          others_hold = λ o ne. ap (λ ls. total (held_of ls) (stored_by (find_by work_eq name_of m.works o))) laid.layouts ∙ other_holds m v now serving work s here i at place new laid.carries o ne;
          maps = maps_after m.table now.table i place new laid.carries u laid.table laid.layouts brings;
          put_holds = put_holds_by;
          standing = subst (λ g. IsStanding m.server g w m.epoch m.records u.heads u.maps) (sym laid.counts) (is.standing done);
          root = subst (λ g. IsOnly w 0 (root_page (root_by m.server g m.epoch))) (sym laid.counts) (is.root (root_page (root_by m.server m.table.counts m.epoch)) done now.root);
          found = λ c. ap (λ g. found_on g w c) laid.counts ∙ is.changed.done done c;
          power = (is.served done).power;
        }

      stepped_put : PutsWhole m.table v i ok u w ⊎ PutsInTurn m.table v i ok u w → ok ≡ true → IsStepped u w
      stepped_put puts done = let laid = laid_by puts done in stepped_by laid.0 laid.1 laid.2 done (carried_by puts)

    -- ---- by none

    absent_file : is_gone_already m.table i ≡ true → exists m.table.heads i.file ≡ false
    absent_file gone = not_there (is_gone i.what) (exists m.table.heads i.file) gone
      where
        not_there : (c b : Bool) → (c && not b) ≡ true → b ≡ false
        not_there c b e = grind (arith, e)

    is_gone_so : (w : What) (b : Bool) → (is_gone w && not b) ≡ true → w ≡ Gone
    is_gone_so Gone b e = refl
    is_gone_so Fresh b e = absurd (true≢false (sym e))
    is_gone_so Cut b e = absurd (true≢false (sym e))
    is_gone_so Put b e = absurd (true≢false (sym e))

    gone_same : is_gone_already m.table i ≡ true → before ≡ made_by (CarryOut work full) before
    gone_same gone = state_found m v now
        ∙ gone_law (held_contents m.table.counts v m.epoch m.records m.table.heads (λ n. false)) i (is_gone_so i.what (exists m.table.heads i.file) gone) absent
        ∙ ap (made_by (CarryOut work full)) (sym (state_found m v now))
      where
        absent : list_any (is_layout_of i.file) (layouts_said (held_contents m.table.counts v m.epoch m.records m.table.heads (λ n. false))) ≡ false
        absent = ap (list_any (is_layout_of i.file)) (layouts_kept m v now) ∙ false_from_ne_true (list_any (is_layout_of i.file) (layouts_in m.table)) (λ there.
            let it = passes_at (is_layout_of i.file) Unused (layouts_in m.table) there in
            true≢false (sym (sym (own_layout m.table i.file it.0) ∙ it.1) ∙ absent_none i.file m.table.heads (absent_file gone) it.0))

    -- no map page of it is there
    gone_maps : is_gone_already m.table i ≡ true → maps_in m.table.heads ≡ places_after (bare i) (maps_in m.table.heads)
    gone_maps gone = fun_ext (λ f. fun_ext (λ j. ⊎_elim
        (λ same. ap (λ g. maps_in m.table.heads g j) (sym same.1) ∙ maps_absent i.file m.table.heads j (absent_file gone) ∙ sym (ap (λ b. if b then has_map_after i.what i.block.0 j (maps_in m.table.heads f j) else maps_in m.table.heads f j) same.0
        ∙ ap (λ w. has_map_after w i.block.0 j (maps_in m.table.heads f j)) (is_gone_so i.what (exists m.table.heads i.file) gone)))
        (λ ne. sym (ap (λ b. if b then has_map_after i.what i.block.0 j (maps_in m.table.heads f j) else maps_in m.table.heads f j) ne.0))
        (file_tells i.file f)))

    stepped_none : is_gone_already m.table i ≡ true → IsStepped m.table v
    stepped_none gone = record {
      counts = refl;
      held = refl;
      promised = let none = takes_none i.what (exists m.table.heads i.file) gone in omega (arith, none);
      table = now.table;
      free = omega arith;
      others_hold = λ o ne. refl;
      maps = gone_maps gone;
      put_holds = λ put. absurd (gone_not_put i.what (exists m.table.heads i.file) gone put);
      standing = now.standing;
      root = now.root;
      found = λ c. serving.up c ∙ gone_same gone;
      power = serving.power;
    }
      where
        gone_not_put : (w : What) (b : Bool) → (is_gone w && not b) ≡ true → w ≡ Put → ⊥
        gone_not_put w b e put = true≢false (sym (subst (λ w. (is_gone w && not b) ≡ true) put e))

        takes_none : (w : What) (b : Bool) → (is_gone w && not b) ≡ true → one (is_fresh w && not b) ≡ 0
        takes_none Gone b e = refl
        takes_none Fresh b e = absurd (true≢false (sym e))
        takes_none Cut b e = refl
        takes_none Put b e = refl

    -- ---- what is kept in memory then

    module _ (u : TableView) (w : StoreView) (is : IsStepped u w) (works : List WorkState) (stepped : IsSteppedTo m.works work s works) where
      there_after : (f : FileNo) → exists u.heads f ≡ made_there i.what (file_eq i.file f) (exists m.table.heads f)
      there_after f = there_found m.server u.counts w m.epoch m.records u.heads u.maps is.standing f ∙ ap (λ (y : StableState). file_there y.files f) (is.found (λ n. false)) ∙ there-after full before.files f
          ∙ ap (made_there i.what (file_eq i.file f)) (sym (there_found m.server m.table.counts v m.epoch m.records m.table.heads m.table.maps now.standing f))

      -- no file goes but that of a removal
      still_there : (f : FileNo) → exists m.table.heads f ≡ true → (i.what ≡ Gone → i.file ≡ f → ⊥) → exists u.heads f ≡ true
      still_there f old other = there_after f ∙ by i.what refl
        where
          by : (k : What) → i.what ≡ k → made_there k (file_eq i.file f) (exists m.table.heads f) ≡ true
          by Fresh e = either (file_eq i.file f) (exists m.table.heads f) old
            where
              either : (b c : Bool) → c ≡ true → (b || c) ≡ true
              either b c e = grind (arith, e)
          by Gone e = ⊎_elim (λ h. absurd (other e h.1)) (λ h. kept (file_eq i.file f) (exists m.table.heads f) h.0 old) (file_tells i.file f)
            where
              kept : (b c : Bool) → b ≡ false → c ≡ true → (not b && c) ≡ true
              kept b c x y = grind (arith, x, y)
          by Cut e = old
          by Put e = old

      -- the full intentions of a list
      full_at : (t : WorkState) (k : ℕ) (j : StoredIntention) → slice_get t.list k ≡ Some j → slice_get (prepared_of (first_blocks m v) (stored_work t)).list k ≡ Some (intended (first_blocks m v) j)
      full_at t k j e = slice_get-map (intended (first_blocks m v)) t.list k ∙ ap (option_map (intended (first_blocks m v))) e

      not_put : (k : What) → is_fresh k ≡ true → is_put k ≡ false
      not_put Fresh e = refl
      not_put Gone e = refl
      not_put Cut e = refl
      not_put Put e = absurd (true≢false (sym e))

      made_own : IsMade u.heads (Some (counted_on s))
      made_own k j lt e fresh = ⊎_elim (λ same. last k same e) (λ ne. earlier k (omega (arith, lt, ne)) e) (cases_eq k s.next)
        where
          some_is : {A : Type 0} {a b : A} → Some a ≡ Some b → a ≡ b
          some_is e = cc e

          made_now : (t : WorkState) → find_by work_eq name_of m.works work ≡ Some t → IsMade m.table.heads (Some t)
          made_now t e = subst (λ o. IsMade m.table.heads o) e (now.made work)

          last : (k : ℕ) → k ≡ s.next → slice_get s.list k ≡ Some j → exists u.heads j.file ≡ true
          last k same e =
              let is_it : i ≡ j = some_is (sym at ∙ ap (slice_get s.list) (sym same) ∙ e) in
              subst (λ (x : StoredIntention). exists u.heads x.file ≡ true) is_it (there_after i.file ∙ by i.what (ap (λ (x : StoredIntention). is_fresh x.what) is_it ∙ fresh))
            where
              by : (k : What) → is_fresh k ≡ true → made_there k (file_eq i.file i.file) (exists m.table.heads i.file) ≡ true
              by Fresh e = let same : file_eq i.file i.file ≡ true = grind (arith, nat_tests) in either (file_eq i.file i.file) (exists m.table.heads i.file) same
                where
                  either : (b c : Bool) → b ≡ true → (b || c) ≡ true
                  either b c e = grind (arith, e)
              by Gone e = absurd (true≢false (sym e))
              by Cut e = absurd (true≢false (sym e))
              by Put e = absurd (true≢false (sym e))

          earlier : (k : ℕ) → k < s.next → slice_get s.list k ≡ Some j → exists u.heads j.file ≡ true
          earlier k less e = still_there j.file (made_now s here k j less e fresh) (λ gone same.
              let one_is = one_first (its_work m v now serving work s here).list s.next k full (intended (first_blocks m v) j) (serving.orderly.prepared work (its_work m v now serving work s here) stands).order.order there (full_at s k j e) same (ap is_put gone) (not_put j.what fresh) in
              true≢false (sym fresh ∙ sym (ap (λ (x : FullIntention). is_fresh x.what) one_is) ∙ ap is_fresh gone))

      made_other : (o : WorkId) → work ≢ o → (t : Option WorkState) → find_by work_eq name_of m.works o ≡ t → IsMade m.table.heads t → IsMade u.heads t
      made_other o ne None e made = tt
      made_other o ne (Some t) e made = λ k j lt at_k fresh. still_there j.file (made k j lt at_k fresh) (λ gone same.
          not_both (its_work m v now serving work s here) (prepared_of (first_blocks m v) (stored_work t)) s.next k full (intended (first_blocks m v) j)
          (serving.orderly.apart work o (its_work m v now serving work s here) (prepared_of (first_blocks m v) (stored_work t)) ne stands
          (work_told m v now o ∙ ap (λ o. option_map (prepared_of (first_blocks m v)) (option_map stored_work o)) e))
          there (full_at t k j at_k) same (ap is_put gone) (not_put j.what fresh))

      made_after : AreMade u.heads works
      made_after o = subst (λ t. IsMade u.heads t) (sym (stepped.found o)) (by (work_eq work o) refl)
        where
          differs : (o : WorkId) → work_eq work o ≡ false → work ≢ o
          differs o e = let t = work_tells work o in grind (arith, e)

          by : (b : Bool) → work_eq work o ≡ b → IsMade u.heads (if b then Some (counted_on s) else find_by work_eq name_of m.works o)
          by true e = made_own
          by false e = made_other o (differs o e) (find_by work_eq name_of m.works o) refl (now.made o)

      -- each put that is left names a map page where it finds none
      supplied_own : HasMaps (places_after (bare i) (maps_in m.table.heads)) (Some (counted_on s))
      supplied_own = subst (λ n. IsSuppliedBy (places_after (bare i) (maps_in m.table.heads)) (drop n s.list)) (let e : suc s.next ≡ s.next + 1 = omega arith in e)
          (rest_supplied (maps_in m.table.heads) i (drop (suc s.next) s.list) (its_supply m v now serving work s here i at))

      supplied_other : (o : WorkId) → work ≢ o → (t : Option WorkState) → find_by work_eq name_of m.works o ≡ t → HasMaps (maps_in m.table.heads) t → HasMaps (places_after (bare i) (maps_in m.table.heads)) t
      supplied_other o ne None e has = tt
      supplied_other o ne (Some t) e has = by i.what refl
        where
          grows : (f : FileNo) (j : ℕ) → i.what ≡ Put → maps_in m.table.heads f j ≡ true → places_after (bare i) (maps_in m.table.heads) f j ≡ true
          grows f j put there = ap (λ w. if file_eq i.file f then has_map_after w i.block.0 j (maps_in m.table.heads f j) else maps_in m.table.heads f j) put ∙ more (file_eq i.file f) (maps_in m.table.heads f j) (is_in_range j i.block.0) there
            where
              more : (b c d : Bool) → c ≡ true → (if b then c || d else c) ≡ true
              more true c d h = grind (arith, h)
              more false c d h = h

          -- another work's files are others
          stays : is_put i.what ≡ false → (f : FileNo) (j : ℕ) → names_file (map bare (drop t.next t.list)) f ≡ true → places_after (bare i) (maps_in m.table.heads) f j ≡ maps_in m.table.heads f j
          stays un f j named =
              let it = file_named (drop t.next t.list) f named in let index = left_at t.list t.next it.0 it.1 it.2 in
              ⊎_elim
              (λ same. absurd (true≢false (sym (ap is_put (together m v now serving work s here i at o ne t e index.0 it.1 index.1 (same.1 ∙ sym it.3)).0) ∙ un)))
              (λ other. ap (λ b. if b then has_map_after i.what i.block.0 j (maps_in m.table.heads f j) else maps_in m.table.heads f j) other.0)
              (file_tells i.file f)

          by : (k : What) → i.what ≡ k → IsSuppliedBy (places_after (bare i) (maps_in m.table.heads)) (drop t.next t.list)
          by Put k = more_supplied (drop t.next t.list) (maps_in m.table.heads) (places_after (bare i) (maps_in m.table.heads)) (λ f j there. grows f j k there) has
          by Fresh k = same_supplied (drop t.next t.list) (maps_in m.table.heads) (places_after (bare i) (maps_in m.table.heads)) (stays (ap is_put k)) has
          by Gone k = same_supplied (drop t.next t.list) (maps_in m.table.heads) (places_after (bare i) (maps_in m.table.heads)) (stays (ap is_put k)) has
          by Cut k = same_supplied (drop t.next t.list) (maps_in m.table.heads) (places_after (bare i) (maps_in m.table.heads)) (stays (ap is_put k)) has

      supplied_after : HaveMaps (maps_in u.heads) works
      supplied_after o = subst (λ places. HasMaps places (find_by work_eq name_of works o)) (sym is.maps) (subst (λ t. HasMaps (places_after (bare i) (maps_in m.table.heads)) t) (sym (stepped.found o)) (by (work_eq work o) refl))
        where
          differs : (o : WorkId) → work_eq work o ≡ false → work ≢ o
          differs o e = let t = work_tells work o in grind (arith, e)

          by : (b : Bool) → work_eq work o ≡ b → HasMaps (places_after (bare i) (maps_in m.table.heads)) (if b then Some (counted_on s) else find_by work_eq name_of m.works o)
          by true e = supplied_own
          by false e = supplied_other o (differs o e) (find_by work_eq name_of m.works o) refl (now.supplied o)

      -- a field of a work that stays
      same_field : {A : Type 0} (g : Option WorkState → A) → g (Some (counted_on s)) ≡ g (Some s) → (o : WorkId) → g (find_by work_eq name_of works o) ≡ g (find_by work_eq name_of m.works o)
      same_field g e o = ap g (stepped.found o) ∙ by (work_eq work o) refl
        where
          same : (o : WorkId) → work_eq work o ≡ true → work ≡ o
          same o e = let t = work_tells work o in grind (arith, e)

          by : (b : Bool) → work_eq work o ≡ b → g (if b then Some (counted_on s) else find_by work_eq name_of m.works o) ≡ g (find_by work_eq name_of m.works o)
          by true c = e ∙ ap g (sym here) ∙ ap (λ k. g (find_by work_eq name_of m.works k)) (same o c)
          by false c = refl

      stepped_matches : Matches (record m { table = u; works = works }) w
      stepped_matches = record {
        standing = is.standing;
        root = is.root;
        table = is.table;
        works = record {
          differ = subst (λ ks. are_different work_eq ks ≡ true) (sym stepped.names) now.works.differ;
          each = λ o. same_field (option_map stored_work) refl o ∙ now.works.each o;
        };
        made = made_after;
        supplied = supplied_after;
        flags = now.flags;
        held = λ a. ap (λ h. slice_index_or h a false) is.held ∙ now.held a;
      }

      -- ---- what is free

      its_pages : (o : WorkId) → total (held_of (layouts_in u)) (stored_by (find_by work_eq name_of m.works o)) ≤ most_pages (list_of before o)
      its_pages o = by (find_by work_eq name_of m.works o) refl
        where
          pages : (slot : ℕ) → slot < length m.records → has_page (record_in m.records slot) ≡ true
          pages slot lt = (now.standing.held.pool slot lt).of_format.whole

          by : (t : Option WorkState) → find_by work_eq name_of m.works o ≡ t → total (held_of (layouts_in u)) (stored_by t) ≤ most_pages (list_of before o)
          by None e = omega arith
          by (Some t) e = subst (λ l. total (held_of (layouts_in u)) t.list ≤ most_pages l)
              (sym (ap intentions_of (work_told m v now o ∙ ap (λ o. option_map (prepared_of (first_blocks m v)) (option_map stored_work o)) e)))
              (held_most (layouts_in u) (first_blocks m v) t.list
              (stored_pages m.records o pages (find (is_prepared o) m.records) (stored_work t) (sym (now.works.each o) ∙ ap (option_map stored_work) e)))

      next_after : next_in works ≡ at_work (next_in m.works) work (s.next + 1)
      next_after = fun_ext (λ o. ap next_by (stepped.found o) ∙ by (work_eq work o) (find_by work_eq name_of m.works o))
        where
          by : (b : Bool) (t : Option WorkState) → next_by (if b then Some (counted_on s) else t) ≡ (if b then s.next + 1 else next_by t)
          by true t = refl
          by false t = refl

      new_state : state (view_of (record m { table = u; works = works }) w) ≡ made_by (CarryOut work full) before
      new_state = is.found (λ n. false)

      all_works : IsListing work_eq (λ o. is_some ((state (view_of (record m { table = u; works = works }) w)).works o)) (serves_of m v serving).counted.works
      all_works = subst (λ (y : StableState). IsListing work_eq (λ o. is_some (y.works o)) (serves_of m v serving).counted.works) (sym new_state) (serves_of m v serving).counted.works_all

      counted : IsCountedOn before (accounts_of m) work (its_work m v now serving work s here) s.next full (serves_of m v serving) stands there (accounts_of (record m { table = u; works = works }))
      counted =
          let all = census (record m { table = u; works = works }) w stepped_matches (serves_of m v serving).counted.works all_works in
          record {
            server = refl;
            pool = ap (λ (g : Counts). g.pool) is.counts;
            heads = ap (λ (g : Counts). g.heads) is.counts;
            free_records = refl;
            promised_records = refl;
            rubbish = refl;
            promised_heads = let taken = taken_is m v now serving work s here i at in let e = is.promised in omega (arith, taken, e);
            next = next_after;
            files = all.0;
            blocks = all.1;
            maps = all.2;
            files_all = subst (λ (y : StableState). IsListing file_eq (file_there y.files) all.0) new_state all.3.files_all;
            heads_used = all.3.heads;
            blocks_all = subst (λ (y : StableState). IsListing unit_eq (is_stored y.files) all.1) new_state all.3.blocks_all;
            maps_all = all.3.maps_all;
            pages = all.3.pages;
            held_fits = λ o. subst (λ n. n ≤ most_pages (list_of before o)) (sym (same_field (λ t. total (held_of (layouts_in u)) (stored_by t)) refl o)) (its_pages o);
            maps_fit = λ f j h. maps_fit u is.table f j h;
          }

      stepped_serving : IsServing (view_of (record m { table = u; works = works }) w)
      stepped_serving = serving_by (record m { table = u; works = works }) w (made_by (CarryOut work full) before) is.found is.power
          (serves_carried before (accounts_of m) work (its_work m v now serving work s here) s.next full (serves_of m v serving) stands there (accounts_of (record m { table = u; works = works })) counted)

      -- the same intention with its bytes
      counts_on : CountsOn (accounts_of m) work full (accounts_of (record m { table = u; works = works }))
      counts_on = record {
        next = next_after ∙ ap (λ n. at_work (next_in m.works) work (n + 1)) (sym its_next);
        free_records = refl;
        promised_records = refl;
        rubbish = refl;
        free_pages = is.free;
        others_hold = λ o ne. same_field (λ t. total (held_of (layouts_in u)) (stored_by t)) refl o ∙ is.others_hold o (differs_by o ne);
        supplied = fun_ext (λ o. same_field (λ t. names_maps (stored_by t)) refl o);
        maps = is.maps;
      }
        where
          differs_by : (o : WorkId) → work_eq work o ≡ false → work ≢ o
          differs_by o e = let t = work_tells work o in grind (arith, e)

      own_held : held_in works (layouts_in u) work ≡ total (held_of (layouts_in u)) s.list
      own_held = same_field (λ t. total (held_of (layouts_in u)) (stored_by t)) refl work ∙ ap (λ t. total (held_of (layouts_in u)) (stored_by t)) here

      held_before : held_in m.works (layouts_in m.table) work ≡ total (held_of (layouts_in m.table)) s.list
      held_before = ap (λ t. total (held_of (layouts_in m.table)) (stored_by t)) here

      -- what a put makes free, by what is counted before and after
      abbrev keys : List WorkId
      keys = (serves_of m v serving).counted.works

      keys_all : IsListing work_eq (λ o. is_some (before.works o)) (serves_of m v serving).counted.works
      keys_all = (serves_of m v serving).counted.works_all

      held_moves : total (held_in works (layouts_in u)) (serves_of m v serving).counted.works + total (held_of (layouts_in m.table)) s.list ≡ total (held_in m.works (layouts_in m.table)) (serves_of m v serving).counted.works + total (held_of (layouts_in u)) s.list
      held_moves =
          let split_then = total-but work_eq work_tells (held_in works (layouts_in u)) work keys keys_all.different listed in
          let split_before = total-but work_eq work_tells (held_in m.works (layouts_in m.table)) work keys keys_all.different listed in
          let rest = total-same work_eq work_tells (held_in works (layouts_in u)) (held_in m.works (layouts_in m.table)) (but work_eq work keys)
          (λ o h. same_field (λ t. total (held_of (layouts_in u)) (stored_by t)) refl o ∙ is.others_hold o (differs o (is_in work_eq o keys) (sym (is_in-but work_eq work_tells work o keys) ∙ h))) in
          let own = own_held in let was = held_before in omega (arith, split_then, split_before, rest, own, was)
        where
          listed : is_in work_eq work keys ≡ true
          listed = keys_all.all work ∙ ap is_some stands

          differs : (o : WorkId) (b : Bool) → (b && not (work_eq work o)) ≡ true → work ≢ o
          differs o b h = let t = work_tells work o in grind (arith, h)

      pages_then : i.what ≡ Put → free_numbers u.free_leaves + total (held_of (layouts_in u)) s.list + 1 + one (lacks_map (maps_in m.table.heads) (bare i))
          ≡ free_numbers m.table.free_leaves + total (held_of (layouts_in m.table)) s.list + one (is_stored before.files (Block i.file i.block))
      pages_then put =
          let all = census (record m { table = u; works = works }) w stepped_matches keys all_works in
          let was = census m v now keys keys_all in
          let blocks = blocks_grow i.file i.block full.bytes before.files was.1 all.1 was.3.blocks_all (subst (λ (files : Files). IsListing unit_eq (is_stored files) all.1) files_then all.3.blocks_all) in
          let maps = maps_grow i put (maps_in m.table.heads) was.2 all.2 was.3.maps_all (subst (λ places. IsListing map_eq (has_map places) all.2) is.maps all.3.maps_all) in
          let pages = all.3.pages in let pages_before = was.3.pages in let leaves = ap (λ (g : Counts). g.leaves) is.counts in let moves = held_moves in
          omega (arith, blocks, maps, pages, pages_before, leaves, moves)
        where
          files_then : (state (view_of (record m { table = u; works = works }) w)).files ≡ change (written i.file i.block full.bytes) before.files
          files_then = ap (λ (y : StableState). y.files) new_state ∙ ap (λ w. change (change_by w i.file i.block full.bytes) before.files) put

      puts_on : i.what ≡ Put → PageTaken (accounts_of m) work full (is_stored before.files (Block i.file i.block)) (accounts_of (record m { table = u; works = works }))
          ⊎ PageStands before full (accounts_of m) work (accounts_of (record m { table = u; works = works }))
      puts_on put = ⊎_elim
          (λ h. inl (record {
            held = (let a = own_held in let b = held_before in omega (arith, h, a, b));
            free_pages = (let all = pages_then put in omega (arith, h, all));
          }))
          (λ h. inr (record {
            stands = h.0;
            held = own_held ∙ h.1 ∙ sym held_before;
            free_pages = (let all = pages_then put in let same = h.1 in let none = ap one h.2 in let some = ap (λ o. one (is_some o)) h.0 in omega (arith, all, same, none, some));
          }))
          (is.put_holds put)

      -- it is done
      stepped_done : Called (view_of m v) 32 true (view_of (record m { table = u; works = works }) w) → StepApplied (view_of m v) work (Ok true) (view_of (record m { table = u; works = works }) w)
      stepped_done called = record {
        called = called;
        none_left = λ e. absurd (true≢false (sym (ap is_some next_is) ∙ ap is_some e));
        carried = λ j e. subst (λ j. Changed before (CarryOut work j) true (found_on u.counts w)) (some_is (sym next_is ∙ e)) (record { done = λ d. is.found; stop = λ d. absurd (true≢false d) });
        done = λ j e d. (refl, subst (λ j. CountsOn (accounts_of m) work j (accounts_of (record m { table = u; works = works }))) (some_is (sym next_is ∙ e)) counts_on);
        put = λ j e put d. subst (λ j. PageTaken (accounts_of m) work j (is_stored before.files (Block j.file j.block)) (accounts_of (record m { table = u; works = works })) ⊎ PageStands before j (accounts_of m) work (accounts_of (record m { table = u; works = works })))
            (some_is (sym next_is ∙ e)) (puts_on (is_put_so i.what (ap (λ (j : FullIntention). is_put j.what) (some_is (sym next_is ∙ e)) ∙ put)));
      }
        where
          is_put_so : (w : What) → is_put w ≡ true → w ≡ Put
          is_put_so Put e = refl
          is_put_so Fresh e = absurd (true≢false (sym e))
          is_put_so Gone e = absurd (true≢false (sym e))
          is_put_so Cut e = absurd (true≢false (sym e))

          some_is : {A : Type 0} {a b : A} → Some a ≡ Some b → a ≡ b
          some_is e = cc e

    -- ---- what the code makes

    pub next_few : s.next < 255
    next_few =
        let its = its_list m v now work s here in
        let lt = slice_get_within s.list s.next i at in
        let long = ap (λ (l : List StoredIntention). length l) its.list_is in
        let all = listed_length m.records work 0 its.count (λ k low high. its.has.all k (omega (arith, high))) in
        let few = its.few in omega (arith, lt, long, all, few)

    called_carried : (ok : Bool) (u : TableView) (w : StoreView) → IsCarried 32 m.server m.table.counts m.epoch m.records before work full v ok u w → (n : Memory) → n.server ≡ m.server → n.table ≡ u → (ok ≡ true → IsServing (view_of n w)) → Called (view_of m v) 32 ok (view_of n w)
    called_carried ok u w is n server table serves = record {
      later = record { server = server; pool = ap (λ (g : Counts). g.pool) counts; heads = ap (λ (g : Counts). g.heads) counts; leaves = ap (λ (g : Counts). g.leaves) counts; store = is.later };
      calls = let few = is.calls in omega (arith, few);
      loadable = λ c. subst (λ g. IsLoadable m.server m.table.counts.heads (found_on g w c)) (sym counts) (loadable_found m.server m.table.counts w is.recoverable c);
      no_stop = λ done. (is.served done).stops;
      serving = serves;
      stop = is.stop;
    }
      where
        counts : n.table.counts ≡ m.table.counts
        counts = ap (λ (t : TableView). t.counts) table ∙ is.counts

    module _ (u : TableView) (w : StoreView) where
      pub carried_done : (works : List WorkState) → IsSteppedTo m.works work s works → (ok : Bool) → ok ≡ true → Carries m.table v i ok u w
          → Matches (record m { table = u; works = works }) w × StepApplied (view_of m v) work (Ok true) (view_of (record m { table = u; works = works }) w)
      carried_done works stepped ok done c = by (is_gone_already m.table i) refl
        where
          none : is_gone_already m.table i ≡ true → Matches (record m { works = works }) v × StepApplied (view_of m v) work (Ok true) (view_of (record m { works = works }) v)
          none e =
              let is = stepped_none e in
              let same = called_not (view_of (record m { works = works }) v) 32 (stepped_serving m.table v is works stepped) in (
                stepped_matches m.table v is works stepped,
                stepped_done m.table v is works stepped (record {
                  later = record { server = refl; pool = refl; heads = refl; leaves = refl; store = same.later.store };
                  calls = same.calls;
                  loadable = same.loadable;
                  no_stop = same.no_stop;
                  serving = same.serving;
                  stop = same.stop;
                }),
              )

          by : (b : Bool) → is_gone_already m.table i ≡ b → Matches (record m { table = u; works = works }) w × StepApplied (view_of m v) work (Ok true) (view_of (record m { table = u; works = works }) w)
          by true e =
              let same = c.nothing e in
              subst (λ t. Matches (record m { table = t; works = works }) w × StepApplied (view_of m v) work (Ok true) (view_of (record m { table = t; works = works }) w)) (sym same.1)
              (subst (λ x. Matches (record m { works = works }) x × StepApplied (view_of m v) work (Ok true) (view_of (record m { works = works }) x)) (sym same.2) (none e))
          by false e =
              let is = stepped_put ok u w (c.puts e) done in (
                stepped_matches u w is works stepped,
                stepped_done u w is works stepped
                    (subst (λ b. Called (view_of m v) 32 b (view_of (record m { table = u; works = works }) w)) done
                    (called_carried ok u w (carried_by ok u w (c.puts e)) (record m { table = u; works = works }) refl refl (λ d. stepped_serving u w is works stepped))),
              )

      pub carried_stopped : (ok : Bool) → ok ≡ false → Carries m.table v i ok u w → (answer : Result Bool Stopped) → is_ok answer ≡ ok → StepApplied (view_of m v) work answer (view_of (record m { table = u }) w)
      carried_stopped ok stopped c answer same = by (is_gone_already m.table i) refl
        where
          some_is : {A : Type 0} {a b : A} → Some a ≡ Some b → a ≡ b
          some_is e = cc e

          by : (b : Bool) → is_gone_already m.table i ≡ b → StepApplied (view_of m v) work answer (view_of (record m { table = u }) w)
          by true e = absurd (true≢false (sym (c.nothing e).0 ∙ stopped))
          by false e =
              let is = carried_by ok u w (c.puts e) in
              record {
                called = subst (λ b. Called (view_of m v) 32 b (view_of (record m { table = u }) w)) (sym same)
                    (called_carried ok u w is (record m { table = u }) refl refl (λ d. absurd (true≢false (sym d ∙ stopped))));
                none_left = λ e. absurd (true≢false (sym (ap is_some next_is) ∙ ap is_some e));
                carried = λ j e. subst (λ j. Changed before (CarryOut work j) (is_ok answer) (found_on u.counts w)) (some_is (sym next_is ∙ e))
                    (subst (λ b. Changed before (CarryOut work full) b (found_on u.counts w)) (sym same) (subst (λ g. Changed before (CarryOut work full) ok (found_on g w)) (sym is.counts) is.changed));
                done = λ j e d. absurd (true≢false (sym d ∙ same ∙ stopped));
                put = λ j e put d. absurd (true≢false (sym d ∙ same ∙ stopped));
              }

      pub carried_dark : (ok : Bool) → ok ≡ false → Carries m.table v i ok u w → w.power ≡ false
      carried_dark ok stopped c = by (is_gone_already m.table i) refl
        where
          by : (b : Bool) → is_gone_already m.table i ≡ b → w.power ≡ false
          by true e = absurd (true≢false (sym (c.nothing e).0 ∙ stopped))
          by false e = ((carried_by ok u w (c.puts e)).stop stopped).dark

      pub carried_recovers : (ok : Bool) → ok ≡ false → Carries m.table v i ok u w → IsRecoverable m.server u.counts w
      carried_recovers ok stopped c = by (is_gone_already m.table i) refl
        where
          by : (b : Bool) → is_gone_already m.table i ≡ b → IsRecoverable m.server u.counts w
          by true e = absurd (true≢false (sym (c.nothing e).0 ∙ stopped))
          by false e = let is = carried_by ok u w (c.puts e) in subst (λ g. IsRecoverable m.server g w) (sym is.counts) is.recoverable

-- ---- the same of what the code makes

module _ (m : Memory) (v : StoreView) (kept : IsKeptMemory m v) (serving : IsServing (view_of m v)) (work : WorkId) (l : List WorkState) (same : l ≡ m.works) (k : ℕ) (found : (k < length l) × ((d : WorkState) → work_eq (slice_index_or l k d).head.work work ≡ true))
    (s : WorkState) (at : s ≡ slice_index_or m.works k s) (o : Option StoredIntention) (next : o ≡ slice_get s.list s.next) where
  its_place : (k < length m.works) × ((d : WorkState) → work_eq (slice_index_or m.works k d).head.work work ≡ true)
  its_place = subst (λ l. (k < length l) × ((d : WorkState) → work_eq (slice_index_or l k d).head.work work ≡ true)) same found

  listed : find_by work_eq name_of m.works work ≡ Some s
  listed = found_work m.works k work s (kept serving.power).works.differ its_place.0 its_place.1 (sym at)

  pub apply_none : o ≡ None → StepApplied (view_of m v) work (Ok false) (view_of m v)
  apply_none e = none_left m v (kept serving.power) serving work s listed (sym next ∙ e)

  module _ (i : StoredIntention) (some : o ≡ Some i) where
    pub apply_may : MayCarry m.table v i
    apply_may = may_carry m v (kept serving.power) serving work s listed i (sym next ∙ some)

    same_state : (xs : List WorkState) → xs ≡ m.works → (t : WorkState) → slice_index_or xs k t ≡ t → t ≡ s
    same_state xs e t h = get_or_read m.works k t its_place.0 (sym h ∙ ap (λ l. slice_index_or l k t) e) s ∙ sym at

    pub apply_few : (xs : List WorkState) → xs ≡ m.works → (t : WorkState) → slice_index_or xs k t ≡ t → t.next < 255
    apply_few xs e t h = subst (λ (t : WorkState). t.next < 255) (sym (same_state xs e t h)) (next_few m v (kept serving.power) serving work s listed i (sym next ∙ some))

    module _ (u : TableView) (w : StoreView) (ok : Bool) (c : Carries m.table v i ok u w) where
      pub apply_stopped : ok ≡ false → (answer : Result Bool Stopped) → is_ok answer ≡ ok → StepApplied (view_of m v) work answer (view_of (record m { table = u }) w)
      apply_stopped stopped answer e = carried_stopped m v (kept serving.power) serving work s listed i (sym next ∙ some) u w ok stopped c answer e

      pub apply_dark : ok ≡ false → IsKeptMemory (record m { table = u }) w
      apply_dark stopped power = absurd (true≢false (sym power ∙ carried_dark m v (kept serving.power) serving work s listed i (sym next ∙ some) u w ok stopped c))

      pub apply_recovers : ok ≡ false → IsRecoverable m.server u.counts w
      apply_recovers stopped = carried_recovers m v (kept serving.power) serving work s listed i (sym next ∙ some) u w ok stopped c

      pub apply_done : ok ≡ true → (xs works : List WorkState) → xs ≡ m.works → ((t : WorkState) → slice_index_or xs k t ≡ t → works ≡ slice_set xs k (counted_on t))
          → Matches (record m { table = u; works = works }) w × StepApplied (view_of m v) work (Ok true) (view_of (record m { table = u; works = works }) w)
      apply_done done xs works e is = carried_done m v (kept serving.power) serving work s listed i (sym next ∙ some) u w works
          (stepped_at m.works works work s k its_place.0 (kept serving.power).works.differ name (sym at) (sym (get_or_read m.works k s its_place.0 at (counted_on s)))
          (is s (ap (λ l. slice_index_or l k s) e ∙ sym at) ∙ ap (λ l. slice_set l k (counted_on s)) e)) ok done c
        where
          name : name_of s ≡ work
          name = let t = work_tells (name_of s) work in let h = subst (λ (x : WorkState). work_eq x.head.work work ≡ true) (sym at) (its_place.1 s) in grind (arith, h)
