-- A prepared work is removed, by one put of its record.
use Rattle.jn_intent.proofs.Common.{◌≡◌, ◌≢◌, ⊎_elim, ◌<◌, ◌≤◌, ◌+◌, ◌-◌, ◌^◌, ℕ, suc, Bool, true, false, not, ◌&&◌, if◌then◌else◌, List, [], length, map, Option, Some, None, refl, sym, ◌∙◌, ap, subst, true≢false, arith, fun_ext, length-map, is_some, position, slice_set, slice_index_or, filter, option_map, option_and_then, find, list_any, FreeNumbers, free_numbers, WorkId, work_eq, work_tells, TableView, IsTable, layouts_in, layouts_of, maps_in, with_promised_heads, intended, stored_list, prepared_by, works_name, held_contents, block_on, pages_by, found_on, RecordPut, IsRecoverable, IsConsistent, IsStanding, Makes, removes, found_any, FullIntention, StoredIntention, Record, Free, WorkState, record_page, Counts, Changed, Prepared, RemoveWork, made_by, is_ready, is_going, record_in, slot_page, is_free, is_prepared, Puts, is_in, are_different, IsServing, IsLoadable, file_there, intentions_of, list_of, state, name_of, WorkRemoved, find_by, find-at, find-kept, find-listed, keys-kept, different-kept, total, total-but, StoreView, Memory, accounts_of, view_of, next_by, stored_by, held_of, rubbish_in, Matches, IsKeptMemory, IsMade, HasMaps, WorksMatch, stored_work, work_by, pages_let_go, MayLetGo, heads_needed, is_at, ArePagesApart, listed_length, gone_found, prepared_gone, removed_rubbish, removed_names, free_record, position_at, none_position, step_of, free_less, work_stays, flags_stay, Serves, serves_of, serving_by, may_load, called_put, consistent, works_seen, works_told, prepared_of, IsRemoved, serves_removed, same_only, root_page, root_by, IsOnly, heads_of, names_maps}
use Rattle.jn_recovery.proofs.HeadsNeeded.{heads_are}
use Rattle.jn_intent.proofs.LettingGo.{AreLetGo, let_go, table_taken}
use Rattle.jn_intent.proofs.Listed.{names_after}
use Rattle.jn_intent.proofs.Reading.{there_seen}
use Rattle.jn_intent.proofs.WorkPages.{pages_differ, kept_apart, named_by_list}
use Rattle.jn_intent.proofs.WorkRecords.{IsWorkRecord, work_record}

pub is_ready_some : (o : Option Prepared) → is_ready o ≡ true → is_some o ≡ true
is_ready_some None e = absurd (true≢false (sym e))
is_ready_some (Some p) e = refl

pub is_going_some : (o : Option Prepared) → is_going o ≡ true → is_some o ≡ true
is_going_some None e = absurd (true≢false (sym e))
is_going_some (Some p) e = refl

-- a work where it is listed
pub found_work : (works : List WorkState) (i : ℕ) (work : WorkId) (s : WorkState) → are_different work_eq (map name_of works) ≡ true → i < length works → ((d : WorkState) → work_eq (slice_index_or works i d).head.work work ≡ true)
    → slice_index_or works i s ≡ s → find_by work_eq name_of works work ≡ Some s
found_work works i work s differ below named is =
    let at = find-at work_eq work_tells name_of works i s below differ in
    let h = named s in
    let same : name_of (slice_index_or works i s) ≡ work = (let t = work_tells (name_of (slice_index_or works i s)) work in grind (arith, h)) in
    subst (λ w. find_by work_eq name_of works w ≡ Some (slice_index_or works i s)) same at ∙ ap (λ (x : WorkState). Some x) is

abbrev pub given_back : Memory → List StoredIntention → TableView
given_back m list = pages_let_go list (with_promised_heads m.table (m.table.free_heads.promised - heads_needed m.table.heads list))

abbrev pub without_work : Memory → ℕ → WorkId → List StoredIntention → Memory
without_work m slot work list = record m { records = slice_set m.records slot Free; table = given_back m list; works = filter (λ (s : WorkState). not (work_eq work (name_of s))) m.works }

module _ (m : Memory) (v : StoreView) (kept : IsKeptMemory m v) (serving : IsServing (view_of m v)) (work : WorkId) (some : is_some ((state (view_of m v)).works work) ≡ true) where
  now : Matches m v
  now = kept serving.power

  pub work_slotted : position (is_prepared work) m.records ≡ None → ⊥
  work_slotted none = true≢false (sym some ∙ ap is_some (works_seen m v now serving work ∙ ap (prepared_by m.records (block_on m.table.counts (pages_by v (λ n. false))) work) (none_position (is_prepared work) m.records none)))

  pub work_listed : is_in work_eq work (map name_of m.works) ≡ false → ⊥
  work_listed none = true≢false (sym some ∙ ap is_some (works_told m v now serving work) ∙ by (find_by work_eq name_of m.works work) (sym (find-listed work_eq name_of m.works work) ∙ none))
    where
      by : (o : Option WorkState) → is_some o ≡ false → is_some (option_map (prepared_of (block_on m.table.counts (pages_by v (λ n. false)))) (option_map stored_work o)) ≡ false
      by None e = refl
      by (Some s) e = absurd (true≢false e)

  module _ (slot : ℕ) (at : position (is_prepared work) m.records ≡ Some slot) where
    there : slot < length m.records
    there = (position_at (is_prepared work) m.records Free slot at).0

    stands : is_prepared work (record_in m.records slot) ≡ true
    stands = (position_at (is_prepared work) m.records Free slot at).1

    said : IsConsistent m.table.counts (held_contents m.table.counts v m.epoch m.records m.table.heads (λ n. false))
    said = consistent m.server m.table.counts v m.epoch m.records m.table.heads m.table.maps now.standing

    its : IsWorkRecord m.records work (record_in m.records slot)
    its = work_record m.records work (record_in m.records slot) stands (said.complete slot) (now.standing.held.pool slot there).of_format.fits

    pub work_used : is_free (record_in m.records slot) ≡ false
    work_used = its.used

    prepared : list_any (is_prepared work) m.records ≡ true
    prepared = found_any (is_prepared work) Free m.records (record_in m.records slot) (position_at (is_prepared work) m.records Free slot at).2

    module _ (s : WorkState) (here : find_by work_eq name_of m.works work ≡ Some s) where
      list_is : s.list ≡ stored_list m.records work its.count
      list_is = its.listed (stored_work s) (sym (ap (option_and_then (work_by m.records work)) (position_at (is_prepared work) m.records Free slot at).2) ∙ sym (now.works.each work) ∙ ap (option_map stored_work) here)

      pub list_few : length s.list < 2 ^ 8
      list_few = let e = ap (λ (l : List StoredIntention). length l) list_is in let n = listed_length m.records work 0 its.count (λ k low high. its.has.all k (omega (arith, high))) in let few = its.few in omega (arith, e, n, few)

      full : list_of (state (view_of m v)) work ≡ map (intended (block_on m.table.counts (pages_by v (λ n. false)))) s.list
      full = ap intentions_of (works_told m v now serving work ∙ ap (λ o. option_map (prepared_of (block_on m.table.counts (pages_by v (λ n. false)))) (option_map stored_work o)) here)

      full_length : length (list_of (state (view_of m v)) work) ≡ its.count
      full_length = ap (λ (l : List FullIntention). length l) full ∙ length-map s.list (intended (block_on m.table.counts (pages_by v (λ n. false)))) ∙ ap (λ (l : List StoredIntention). length l) list_is
          ∙ listed_length m.records work 0 its.count (λ k low high. its.has.all k (omega (arith, high)))

      heads_is : heads_of (list_of (state (view_of m v)) work) (file_there (state (view_of m v)).files) ≡ heads_needed m.table.heads s.list
      heads_is = ap (λ l. heads_of l (file_there (state (view_of m v)).files)) full
          ∙ heads_are (block_on m.table.counts (pages_by v (λ n. false))) m.table.heads (file_there (state (view_of m v)).files) (there_seen m v kept serving) s.list

      pub heads_enough : heads_needed m.table.heads s.list ≤ m.table.free_heads.promised
      heads_enough =
          let whole = total-but work_eq work_tells (λ w. heads_of (list_of (state (view_of m v)) w) (file_there (state (view_of m v)).files)) work serving.counted.works serving.counted.works_all.different (serving.counted.works_all.all work ∙ some) in
          let own = heads_is in let all = serving.counted.promises in omega (arith, whole, own, all)

      gone : AreLetGo (with_promised_heads m.table (m.table.free_heads.promised - heads_needed m.table.heads s.list)) s.list (given_back m s.list)
      gone = let taken = table_taken m.table now.table in
          let_go s.list (with_promised_heads m.table (m.table.free_heads.promised - heads_needed m.table.heads s.list))
          (subst (λ o. ArePagesApart (stored_by o)) here (kept_apart m v now work))
          (record { there = taken.there; taken = taken.taken })
          (λ a h. now.held a ∙ named_by_list m v now work a (ap (λ o. list_any (is_at a) (stored_by o)) here ∙ h))

      -- no layout changes
      layouts_stay : layouts_in (given_back m s.list) ≡ layouts_in m.table
      layouts_stay = λ k. layouts_of (gone.only.maps k) (gone.only.heads k)

      pub may_let_go : MayLetGo s.list (with_promised_heads m.table (m.table.free_heads.promised - heads_needed m.table.heads s.list))
      may_let_go = gone.may

      kept_found : (w : WorkId) → find_by work_eq name_of (filter (λ (t : WorkState). not (work_eq work (name_of t))) m.works) w ≡ (if not (work_eq work w) then find_by work_eq name_of m.works w else None)
      kept_found w = find-kept work_eq work_tells name_of (λ k. not (work_eq work k)) m.works w

      removed : IsRemoved (state (view_of m v)) (accounts_of m) work (accounts_of (without_work m slot work s.list))
      removed = record {
        server = refl;
        pool = ap (λ (g : Counts). g.pool) gone.only.counts;
        heads = ap (λ (g : Counts). g.heads) gone.only.counts;
        leaves = ap (λ (g : Counts). g.leaves) gone.only.counts;
        counts = record {
          free_records = free_less m.records slot there its.used;
          promised_records = refl;
          free_heads = ap free_numbers gone.only.free_heads;
          free_pages = gone.free ∙ ap (λ n. free_numbers m.table.free_leaves + n) (sym (ap (λ o. total (held_of (layouts_in m.table)) (stored_by o)) here));
          next = fun_ext (λ w. ap next_by (kept_found w) ∙ next_at (work_eq work w) (find_by work_eq name_of m.works w));
          held = fun_ext (λ w. ap (λ o. total (held_of (layouts_in (given_back m s.list))) (stored_by o)) (kept_found w)
              ∙ ap (λ ls. total (held_of ls) (stored_by (if not (work_eq work w) then find_by work_eq name_of m.works w else None))) layouts_stay
              ∙ held_at (work_eq work w) (find_by work_eq name_of m.works w));
          supplied = fun_ext (λ w. ap (λ o. names_maps (stored_by o)) (kept_found w) ∙ supplied_at (work_eq work w) (find_by work_eq name_of m.works w));
          maps = ap maps_in gone.only.heads;
          rubbish_more = removed_rubbish m.records slot work there stands (said.distinct.works work) its.others prepared its.count its.has (its.no_rubbish m.records) (its.not_of work)
              ∙ ap (λ n. length (rubbish_in m.records m.records) + n) (sym full_length);
          rubbish_names = removed_names m.records slot work there stands (said.distinct.works work) its.others prepared;
        };
        promised_heads =
            let kept_heads = ap (λ (f : FreeNumbers). f.promised) gone.only.free_heads in let own = heads_is in let enough = heads_enough in omega (arith, kept_heads, own, enough);
      }
        where
          next_at : (b : Bool) (o : Option WorkState) → next_by (if not b then o else None) ≡ (if b then 0 else next_by o)
          next_at true o = refl
          next_at false o = refl

          held_at : (b : Bool) (o : Option WorkState) → total (held_of (layouts_in m.table)) (stored_by (if not b then o else None)) ≡ (if b then 0 else total (held_of (layouts_in m.table)) (stored_by o))
          held_at true o = refl
          held_at false o = refl

          supplied_at : (b : Bool) (o : Option WorkState) → names_maps (stored_by (if not b then o else None)) ≡ (if b then [] else names_maps (stored_by o))
          supplied_at true o = refl
          supplied_at false o = refl

      serves : Serves (made_by (RemoveWork work) (state (view_of m v))) (accounts_of (without_work m slot work s.list))
      serves = serves_removed (state (view_of m v)) (accounts_of m) (accounts_of (without_work m slot work s.list)) work (serves_of m v serving) some removed

      works_left : WorksMatch (slice_set m.records slot Free) (filter (λ (t : WorkState). not (work_eq work (name_of t))) m.works)
      works_left = record {
        differ = subst (λ ks. are_different work_eq ks ≡ true) (sym (keys-kept name_of (λ k. not (work_eq work k)) m.works)) (different-kept work_eq (λ k. not (work_eq work k)) (map name_of m.works) now.works.differ);
        each = λ w. ap (option_map stored_work) (kept_found w) ∙ ⊎_elim (λ h. own w h.1 h.0) (λ h. other w h.1 h.0) (work_tells work w);
      }
        where
          own : (w : WorkId) → work ≡ w → work_eq work w ≡ true → option_map stored_work (if not (work_eq work w) then find_by work_eq name_of m.works w else None) ≡ option_and_then (work_by (slice_set m.records slot Free) w) (find (is_prepared w) (slice_set m.records slot Free))
          own w e h = ap (λ b. option_map stored_work (if not b then find_by work_eq name_of m.works w else None)) h
              ∙ sym (ap (option_and_then (work_by (slice_set m.records slot Free) w)) (subst (λ u. find (is_prepared u) (slice_set m.records slot Free) ≡ None) e (gone_found m.records slot work there stands (said.distinct.works work) its.others prepared)))

          other : (w : WorkId) → work ≢ w → work_eq work w ≡ false → option_map stored_work (if not (work_eq work w) then find_by work_eq name_of m.works w else None) ≡ option_and_then (work_by (slice_set m.records slot Free) w) (find (is_prepared w) (slice_set m.records slot Free))
          other w ne h = ap (λ b. option_map stored_work (if not b then find_by work_eq name_of m.works w else None)) h ∙ now.works.each w
              ∙ sym (work_stays m.records slot Free w (its.no_list w) (λ order. refl) (its.others w ne) refl)

      module _ (ok : Bool) (records : List Record) (w : StoreView) (puts : Puts m.records v slot Free ok records w) where
        makes : Makes m.server m.table.counts v m.epoch m.records m.table.heads m.table.maps (RecordPut slot Free) (RemoveWork work) ok w
        makes = removes m.server m.table.counts v w m.epoch m.records m.table.heads m.table.maps ok now.standing slot work
            (step_of m.server m.table.counts v slot Free ok w (subst (λ k. slot < k) now.standing.held.slots there) free_record puts.put)
            (record { there = there; stands = stands; once = said.distinct.works work })
            (subst (λ n. IsLoadable m.server n (made_by (RemoveWork work) (state (view_of m v)))) (ap (λ (g : Counts). g.heads) gone.only.counts)
            (may_load (made_by (RemoveWork work) (state (view_of m v))) (accounts_of (without_work m slot work s.list)) serves))

        pub remove_matches : ok ≡ true → IsTable (given_back m s.list) → Matches (without_work m slot work s.list) w
        remove_matches done table = record {
          standing = subst (λ g. IsStanding m.server g w m.epoch (slice_set m.records slot Free) (given_back m s.list).heads (given_back m s.list).maps) (sym gone.only.counts)
              (subst (λ hs. IsStanding m.server m.table.counts w m.epoch (slice_set m.records slot Free) hs (given_back m s.list).maps) (sym gone.only.heads)
              (subst (λ rows. IsStanding m.server m.table.counts w m.epoch (slice_set m.records slot Free) m.table.heads rows) (sym gone.only.maps) (makes.standing done)));
          root = subst (λ g. IsOnly w 0 (root_page (root_by m.server g m.epoch))) (sym gone.only.counts) (same_only v w 0 _ (puts.put.others 0 (let e = now.standing.held.count in omega (arith, e)) (λ e. omega (arith, e))) now.root);
          table = table;
          works = works_left;
          made = λ w. subst (λ o. IsMade (given_back m s.list).heads o) (sym (kept_found w)) (subst (λ hs. IsMade hs (if not (work_eq work w) then find_by work_eq name_of m.works w else None)) (sym gone.only.heads) (still (not (work_eq work w)) (find_by work_eq name_of m.works w) (now.made w)));
          supplied = λ w. subst (λ o. HasMaps (maps_in (given_back m s.list).heads) o) (sym (kept_found w))
              (subst (λ hs. HasMaps (maps_in hs) (if not (work_eq work w) then find_by work_eq name_of m.works w else None)) (sym gone.only.heads) (supplied_still (not (work_eq work w)) (find_by work_eq name_of m.works w) (now.supplied w)));
          flags = flags_stay m.records slot Free m.flags its.no_flag (λ t. refl) now.flags;
          held = λ a. gone.held a ∙ ap (λ b. b && not (list_any (is_at a) s.list)) (now.held a) ∙ ap (λ l. works_name m.records (suc a) && not (list_any (is_at a) l)) list_is
              ∙ names_after m.records (pages_differ m v now).works work prepared slot its.count there stands its.has
              (prepared_gone m.records slot work there stands (said.distinct.works work) its.others prepared) a;
        }
          where
            still : (b : Bool) (o : Option WorkState) → IsMade m.table.heads o → IsMade m.table.heads (if b then o else None)
            still true o is = is
            still false o is = tt

            supplied_still : (b : Bool) (o : Option WorkState) → HasMaps (maps_in m.table.heads) o → HasMaps (maps_in m.table.heads) (if b then o else None)
            supplied_still true o is = is
            supplied_still false o is = tt

        pub remove_done : WorkRemoved (view_of m v) work ok (view_of (without_work m slot work s.list) w)
        remove_done = record {
          called = called_put m (without_work m slot work s.list) v w (slot_page slot) (record_page Free) ok 16 (omega arith) refl gone.only.counts puts.put makes.recoverable
              (λ e. serving_by (without_work m slot work s.list) w (made_by (RemoveWork work) (state (view_of m v)))
              (λ c. ap (λ g. found_on g w c) gone.only.counts ∙ makes.change.done e c) (puts.put.served e).power serves);
          change = subst (λ g. Changed (state (view_of m v)) (RemoveWork work) ok (found_on g w)) (sym gone.only.counts) makes.change;
          accounts = λ e. removed.counts;
        }

        pub remove_stopped : ok ≡ false → (b : Bool) → b ≡ ok → WorkRemoved (view_of m v) work b (view_of (record m { records = records }) w)
        remove_stopped stopped b e = subst (λ r. WorkRemoved (view_of m v) work b (view_of (record m { records = r }) w)) (sym (puts.stopped stopped)) (subst (λ c. WorkRemoved (view_of m v) work c (view_of m w)) (sym e) (record {
          called = called_put m m v w (slot_page slot) (record_page Free) ok 16 (omega arith) refl refl puts.put makes.recoverable (λ e. absurd (true≢false (sym e ∙ stopped)));
          change = makes.change;
          accounts = λ e. absurd (true≢false (sym e ∙ stopped));
        }))

        -- what the code makes
        pub remove_kept : (table : TableView) (works : List WorkState) → ok ≡ true → IsTable table → table ≡ given_back m s.list → works ≡ filter (λ (t : WorkState). not (work_eq work (name_of t))) m.works
            → Matches (record m { records = records; table = table; works = works }) w
        remove_kept table works done is e f = subst (λ n. Matches n w)
            (ap (λ r. record m { records = r; table = given_back m s.list; works = filter (λ (t : WorkState). not (work_eq work (name_of t))) m.works }) (sym (puts.done done))
            ∙ ap (λ t. record m { records = records; table = t; works = filter (λ (t : WorkState). not (work_eq work (name_of t))) m.works }) (sym e) ∙ ap (λ l. record m { records = records; table = table; works = l }) (sym f))
            (remove_matches done (subst IsTable e is))

        pub remove_made : (table : TableView) (works : List WorkState) → ok ≡ true → table ≡ given_back m s.list → works ≡ filter (λ (t : WorkState). not (work_eq work (name_of t))) m.works
            → WorkRemoved (view_of m v) work ok (view_of (record m { records = records; table = table; works = works }) w)
        remove_made table works done e f = subst (λ n. WorkRemoved (view_of m v) work ok (view_of n w))
            (ap (λ r. record m { records = r; table = given_back m s.list; works = filter (λ (t : WorkState). not (work_eq work (name_of t))) m.works }) (sym (puts.done done))
            ∙ ap (λ t. record m { records = records; table = t; works = filter (λ (t : WorkState). not (work_eq work (name_of t))) m.works }) (sym e) ∙ ap (λ l. record m { records = records; table = table; works = l }) (sym f))
            remove_done

  its_state : (s : WorkState) × (find_by work_eq name_of m.works work ≡ Some s)
  its_state = by (find_by work_eq name_of m.works work) refl
    where
      by : (o : Option WorkState) → find_by work_eq name_of m.works work ≡ o → (s : WorkState) × (find_by work_eq name_of m.works work ≡ Some s)
      by None e = absurd (true≢false (sym some ∙ ap is_some (works_told m v now serving work ∙ ap (λ o. option_map (prepared_of (block_on m.table.counts (pages_by v (λ n. false)))) (option_map stored_work o)) e)))
      by (Some s) e = (s, e)

  pub stopped_there : (slot : ℕ) → position (is_prepared work) m.records ≡ Some slot → (records : List Record) (w : StoreView) → Puts m.records v slot Free false records w
      → (b : Bool) → b ≡ false → WorkRemoved (view_of m v) work b (view_of (record m { records = records }) w)
  stopped_there slot at records w puts b e = remove_stopped slot at its_state.0 its_state.1 false records w puts refl b e

  pub remove_recovers : (slot : ℕ) → position (is_prepared work) m.records ≡ Some slot → (ok : Bool) (records : List Record) (w : StoreView) → Puts m.records v slot Free ok records w → IsRecoverable m.server m.table.counts w
  remove_recovers slot at ok records w puts = (makes slot at its_state.0 its_state.1 ok records w puts).recoverable
