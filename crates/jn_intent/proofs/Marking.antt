-- A ready work goes on, by one put of its record.
use Rattle.jn_intent.proofs.Common.{◌≡◌, ◌≢◌, ⊎_elim, ◌<◌, ℕ, zero, suc, Bool, true, false, if◌then◌else◌, List, [], ◌∷◌, length, map, Option, Some, None, refl, sym, ◌∙◌, ap, subst, true≢false, arith, fun_ext, is_some, position, slice_set, slice_index_or, option_map, option_and_then, find, LockUnit, WorkId, work_eq, work_tells, IsReadySlot, prepared_by, stored_list, RecordPut, IsRecoverable, Makes, marks, found_written, intentions_kept, Record, Free, Intention, Ready, Going, FlagRecord, WorkHead, WorkState, record_page, MarkGoing, made_by, is_ready, IsRecord, record_in, slot_page, is_free, is_prepared, is_intention, is_flag, is_ready_record, going_of, Puts, are_different, is_in, IsServing, state, name_of, IsReady, MarkedGoing, find_by, find-set, find-at, find-listed, keys-set, StoreView, Memory, accounts_of, view_of, next_by, next_in, held_in, stored_by, rubbish_of, rubbish_in, Matches, IsKeptMemory, IsMade, WorksMatch, StoredWork, stored_work, work_by, position_at, none_position, step_of, free_same, names_kept, rubbish_kept, work_stays, flags_stay, Serves, serves_of, serving_by, may_load, called_put, consistent, works_seen, serves_marked, same_only, names_address, supplied_in, layouts_in, held_of, total, HasMaps, maps_in, holds_intention, names_maps}
use Rattle.jn_intent.specs.Works.{MarksWork, going_on}

-- ---- in memory

index_default : {A : Type 0} (xs : List A) (i : ℕ) (d c : A) → i < length xs → slice_index_or xs i d ≡ d → slice_index_or xs i c ≡ d
index_default [] i d c h e = absurd (omega (arith, h))
index_default (x ∷ xs) zero d c h e = e
index_default (x ∷ xs) (suc i) d c h e = index_default xs i d c (omega (arith, h)) e

same_element : {A : Type 0} (xs : List A) (i : ℕ) (d : A) → i < length xs → slice_index_or xs i (slice_index_or xs i d) ≡ slice_index_or xs i d
same_element [] i d h = absurd (omega (arith, h))
same_element (x ∷ xs) zero d h = refl
same_element (x ∷ xs) (suc i) d h = same_element xs i d (omega (arith, h))

pub marks_at : (old new : List WorkState) (work : WorkId) (i : ℕ) → i < length old → ((d : WorkState) → work_eq (slice_index_or old i d).head.work work ≡ true)
    → ((s : WorkState) → slice_index_or old i s ≡ s → new ≡ slice_set old i (going_on s)) → MarksWork old work new
marks_at [] new work i below named set = absurd (omega (arith, below))
marks_at (x ∷ xs) new work i below named set = record {
  names = subst (λ l. map name_of l ≡ map name_of (x ∷ xs)) (sym is) (keys-set name_of (x ∷ xs) i (going_on s) keys);
  found = λ differ w. subst (λ l. find_by work_eq name_of l w ≡ (if work_eq work w then option_map going_on (find_by work_eq name_of (x ∷ xs) w) else find_by work_eq name_of (x ∷ xs) w)) (sym is)
      (find-set work_eq work_tells name_of (x ∷ xs) i (going_on s) w below differ keys ∙ by differ w);
}
  where
    s : WorkState
    s = slice_index_or (x ∷ xs) i x

    here : slice_index_or (x ∷ xs) i s ≡ s
    here = same_element (x ∷ xs) i x below

    is : new ≡ slice_set (x ∷ xs) i (going_on s)
    is = set s here

    keys : name_of (going_on s) ≡ name_of (slice_index_or (x ∷ xs) i (going_on s))
    keys = ap name_of (sym (index_default (x ∷ xs) i s (going_on s) below here))

    same : name_of s ≡ work
    same = let h = named x in let t = work_tells (name_of s) work in grind arith

    at : are_different work_eq (map name_of (x ∷ xs)) ≡ true → find_by work_eq name_of (x ∷ xs) (name_of s) ≡ Some s
    at differ = find-at work_eq work_tells name_of (x ∷ xs) i x below differ

    -- the work's own name, or another
    either : are_different work_eq (map name_of (x ∷ xs)) ≡ true → (w : WorkId) → (b : Bool) → work_eq (name_of s) w ≡ b
        → (if b then Some (going_on s) else find_by work_eq name_of (x ∷ xs) w) ≡ (if b then option_map going_on (find_by work_eq name_of (x ∷ xs) w) else find_by work_eq name_of (x ∷ xs) w)
    either differ w true e = let one : name_of s ≡ w = (let t = work_tells (name_of s) w in grind (arith, e)) in sym (ap (option_map going_on) (subst (λ k. find_by work_eq name_of (x ∷ xs) k ≡ Some s) one (at differ)))
    either differ w false e = refl

    by : are_different work_eq (map name_of (x ∷ xs)) ≡ true → (w : WorkId)
        → (if work_eq (name_of s) w then Some (going_on s) else find_by work_eq name_of (x ∷ xs) w) ≡ (if work_eq work w then option_map going_on (find_by work_eq name_of (x ∷ xs) w) else find_by work_eq name_of (x ∷ xs) w)
    by differ w = either differ w (work_eq (name_of s) w) refl ∙ ap (λ k. if work_eq k w then option_map going_on (find_by work_eq name_of (x ∷ xs) w) else find_by work_eq name_of (x ∷ xs) w) same

pub marks_none : (works : List WorkState) (work : WorkId) → is_in work_eq work (map name_of works) ≡ false → MarksWork works work works
marks_none works work none = record { names = refl; found = λ differ w. either w (work_eq work w) refl }
  where
    absent : find_by work_eq name_of works work ≡ None
    absent = nothing (find_by work_eq name_of works work) (sym (find-listed work_eq name_of works work) ∙ none)
      where
        nothing : (o : Option WorkState) → is_some o ≡ false → o ≡ None
        nothing None e = refl
        nothing (Some s) e = absurd (true≢false e)

    either : (w : WorkId) (b : Bool) → work_eq work w ≡ b → find_by work_eq name_of works w ≡ (if b then option_map going_on (find_by work_eq name_of works w) else find_by work_eq name_of works w)
    either w true e = let one : work ≡ w = (let t = work_tells work w in grind (arith, e)) in let gone = subst (λ k. find_by work_eq name_of works k ≡ None) one absent in gone ∙ sym (ap (option_map going_on) gone)
    either w false e = refl

-- ---- in the pool

pub ready_is : (pool : List Record) (blocks : ℕ → List ℕ) (work : WorkId) (r : Record) → is_prepared work r ≡ true → is_ready (prepared_by pool blocks work (Some r)) ≡ true
    → (head : WorkHead) × (n : ℕ) × (reads : List LockUnit) × (r ≡ Ready head n reads) × (head.work ≡ work)
ready_is pool blocks work Free h ready = absurd (true≢false (sym h))
ready_is pool blocks work (Intention w u k i) h ready = absurd (true≢false (sym h))
ready_is pool blocks work (Ready head n reads) h ready = (head, n, reads, refl, (let t = work_tells head.work work in grind (arith, h)))
ready_is pool blocks work (Going head n reads) h ready = absurd (true≢false (sym ready))
ready_is pool blocks work (FlagRecord f) h ready = absurd (true≢false (sym h))

abbrev pub with_going : Memory → ℕ → WorkHead → ℕ → List LockUnit → List WorkState → Memory
with_going m slot head n reads works = record m { records = slice_set m.records slot (Going head n reads); works = works }

work_other : (w v : WorkId) → w ≢ v → work_eq w v ≡ false
work_other w v ne = grind (arith, work_tells)

module _ (m : Memory) (v : StoreView) (now : Matches m v) (serving : IsServing (view_of m v)) where
  pub ready_record : (work : WorkId) → IsReady (view_of m v) work → (slot : ℕ) → position (is_prepared work) m.records ≡ Some slot → (head : WorkHead) × (n : ℕ) × (reads : List LockUnit) × (record_in m.records slot ≡ Ready head n reads) × (head.work ≡ work)
  ready_record work ready slot at =
      let h = position_at (is_prepared work) m.records Free slot at in
      ready_is m.records _ work (record_in m.records slot) h.1 (ap is_ready (sym (works_seen m v now serving work ∙ ap (prepared_by m.records _ work) h.2)) ∙ ready)

  pub ready_slotted : (work : WorkId) → IsReady (view_of m v) work → position (is_prepared work) m.records ≡ None → ⊥
  ready_slotted work ready none = true≢false (sym ready ∙ ap is_ready (works_seen m v now serving work ∙ ap (prepared_by m.records _ work) (none_position (is_prepared work) m.records none)))

  module _ (slot : ℕ) (head : WorkHead) (n : ℕ) (reads : List LockUnit) (stands : record_in m.records slot ≡ Ready head n reads) (at : position (is_prepared head.work) m.records ≡ Some slot) where
    there : slot < length m.records
    there = (position_at (is_prepared head.work) m.records Free slot at).0

    ready_slot : IsReadySlot m.records slot head n reads
    ready_slot = record { there = there; stands = stands; once = (consistent m.server m.table.counts v m.epoch m.records m.table.heads m.table.maps now.standing).distinct.works head.work }

    going_record : IsRecord (Going head n reads)
    going_record = let is = subst IsRecord stands (now.standing.held.pool slot there).of_format in record { whole = is.whole; fits = is.fits }

    same_works : (w : WorkId) → is_prepared w (record_in m.records slot) ≡ is_prepared w (Going head n reads)
    same_works w = ap (is_prepared w) stands

    module _ (ok : Bool) (records : List Record) (w : StoreView) (puts : Puts m.records v slot (Going head n reads) ok records w) where
      makes : Makes m.server m.table.counts v m.epoch m.records m.table.heads m.table.maps (RecordPut slot (Going head n reads)) (MarkGoing head.work) ok w
      makes = marks m.server m.table.counts v w m.epoch m.records m.table.heads m.table.maps ok now.standing slot head n reads
          (step_of m.server m.table.counts v slot (Going head n reads) ok w (subst (λ k. slot < k) now.standing.held.slots there) going_record puts.put) ready_slot
          (may_load (made_by (MarkGoing head.work) (state (view_of m v))) (accounts_of m) (serves_marked (state (view_of m v)) head.work (accounts_of m) (serves_of m v serving)))

      pub marked_stopped : ok ≡ false → MarkedGoing (view_of m v) head.work ok (view_of m w)
      marked_stopped stopped = record {
        called = called_put m m v w (slot_page slot) (record_page (Going head n reads)) ok 16 (omega arith) refl refl puts.put makes.recoverable (λ e. absurd (true≢false (sym e ∙ stopped)));
        change = makes.change;
        accounts = λ e. absurd (true≢false (sym e ∙ stopped));
      }

    module _ (works : List WorkState) (marked : MarksWork m.works head.work works) where
      found : (w : WorkId) → find_by work_eq name_of works w ≡ (if work_eq head.work w then option_map going_on (find_by work_eq name_of m.works w) else find_by work_eq name_of m.works w)
      found = marked.found now.works.differ

      next_same : next_in works ≡ next_in m.works
      next_same = fun_ext (λ w. ap next_by (found w) ∙ by (work_eq head.work w) (find_by work_eq name_of m.works w))
        where
          by : (b : Bool) (o : Option WorkState) → next_by (if b then option_map going_on o else o) ≡ next_by o
          by true None = refl
          by true (Some s) = refl
          by false o = refl

      held_same : held_in works (layouts_in m.table) ≡ held_in m.works (layouts_in m.table)
      held_same = fun_ext (λ w. ap (λ o. total (held_of (layouts_in m.table)) (stored_by o)) (found w) ∙ ap (total (held_of (layouts_in m.table))) (by (work_eq head.work w) (find_by work_eq name_of m.works w)))
        where
          by : (b : Bool) (o : Option WorkState) → stored_by (if b then option_map going_on o else o) ≡ stored_by o
          by true None = refl
          by true (Some s) = refl
          by false o = refl

      supplied_same : supplied_in works ≡ supplied_in m.works
      supplied_same = fun_ext (λ w. ap (λ o. names_maps (stored_by o)) (found w) ∙ ap names_maps (by (work_eq head.work w) (find_by work_eq name_of m.works w)))
        where
          by : (b : Bool) (o : Option WorkState) → stored_by (if b then option_map going_on o else o) ≡ stored_by o
          by true None = refl
          by true (Some s) = refl
          by false o = refl

      accounts_same : accounts_of (with_going m slot head n reads works) ≡ accounts_of m
      accounts_same =
          ap (λ k. record (accounts_of m) { free_records = k; rubbish = rubbish_in (slice_set m.records slot (Going head n reads)) (slice_set m.records slot (Going head n reads)); next = next_in works; held = held_in works (layouts_in m.table); supplied = supplied_in works })
          (free_same m.records slot (Going head n reads) there (ap is_free stands) refl)
          ∙ ap (λ r. record (accounts_of m) { rubbish = r; next = next_in works; held = held_in works (layouts_in m.table); supplied = supplied_in works }) (rubbish_kept m.records slot (Going head n reads) same_works (ap (rubbish_of m.records) stands))
          ∙ ap (λ f. record (accounts_of m) { next = f; held = held_in works (layouts_in m.table); supplied = supplied_in works }) next_same
          ∙ ap (λ f. record (accounts_of m) { held = f; supplied = supplied_in works }) held_same
          ∙ ap (λ f. record (accounts_of m) { supplied = f }) supplied_same

      serves : Serves (made_by (MarkGoing head.work) (state (view_of m v))) (accounts_of (with_going m slot head n reads works))
      serves = subst (Serves (made_by (MarkGoing head.work) (state (view_of m v)))) (sym accounts_same) (serves_marked (state (view_of m v)) head.work (accounts_of m) (serves_of m v serving))

      works_go : WorksMatch (slice_set m.records slot (Going head n reads)) works
      works_go = record {
        differ = subst (λ ks. are_different work_eq ks ≡ true) (sym marked.names) now.works.differ;
        each = λ w. ap (option_map stored_work) (found w) ∙ ⊎_elim (λ h. here w h.1 h.0) (λ h. apart w h.1 h.0) (work_tells head.work w);
      }
        where
          same : work_eq head.work head.work ≡ true
          same = let t = work_tells head.work head.work in grind arith

          lists : (w : WorkId) → stored_list (slice_set m.records slot (Going head n reads)) w n ≡ stored_list m.records w n
          lists w = intentions_kept m.records slot (Going head n reads) w (λ order. ap (is_intention w order) stands) (λ order. refl) 0 n

          goes : (o : Option WorkState) (h : WorkHead) (l : List _) → option_map stored_work o ≡ Some (record { head = h; list = l; reads = reads; going = false }) → option_map stored_work (option_map going_on o) ≡ Some (record { head = h; list = l; reads = reads; going = true })
          goes None h l e = absurd (cc e)
          goes (Some s) h l e = ap (λ (x : StoredWork). Some (record x { going = true })) (some_is e)
            where
              some_is : {A : Type 0} {a b : A} → Some a ≡ Some b → a ≡ b
              some_is e = cc e

          own : option_map stored_work (option_map going_on (find_by work_eq name_of m.works head.work)) ≡ option_and_then (work_by (slice_set m.records slot (Going head n reads)) head.work) (find (is_prepared head.work) (slice_set m.records slot (Going head n reads)))
          own = goes (find_by work_eq name_of m.works head.work) head (stored_list m.records head.work n)
              (now.works.each head.work ∙ ap (option_and_then (work_by m.records head.work)) ((position_at (is_prepared head.work) m.records Free slot at).2 ∙ ap (λ (r : Record). Some r) stands))
              ∙ ap (λ l. Some (record { head = head; list = l; reads = reads; going = true })) (sym (lists head.work))
              ∙ sym (ap (option_and_then (work_by (slice_set m.records slot (Going head n reads)) head.work))
              (found_written (is_prepared head.work) Free m.records slot (Going head n reads) there refl (λ j t. ready_slot.once j slot t (ap (is_prepared head.work) stands ∙ same)) ∙ ap (λ b. if b then Some (Going head n reads) else None) same))

          here : (w : WorkId) → head.work ≡ w → work_eq head.work w ≡ true → option_map stored_work (if work_eq head.work w then option_map going_on (find_by work_eq name_of m.works w) else find_by work_eq name_of m.works w)
              ≡ option_and_then (work_by (slice_set m.records slot (Going head n reads)) w) (find (is_prepared w) (slice_set m.records slot (Going head n reads)))
          here w e h = ap (λ b. option_map stored_work (if b then option_map going_on (find_by work_eq name_of m.works w) else find_by work_eq name_of m.works w)) h
              ∙ subst (λ u. option_map stored_work (option_map going_on (find_by work_eq name_of m.works u)) ≡ option_and_then (work_by (slice_set m.records slot (Going head n reads)) u) (find (is_prepared u) (slice_set m.records slot (Going head n reads)))) e own

          apart : (w : WorkId) → head.work ≢ w → work_eq head.work w ≡ false → option_map stored_work (if work_eq head.work w then option_map going_on (find_by work_eq name_of m.works w) else find_by work_eq name_of m.works w)
              ≡ option_and_then (work_by (slice_set m.records slot (Going head n reads)) w) (find (is_prepared w) (slice_set m.records slot (Going head n reads)))
          apart w ne h = ap (λ b. option_map stored_work (if b then option_map going_on (find_by work_eq name_of m.works w) else find_by work_eq name_of m.works w)) h ∙ now.works.each w
              ∙ sym (work_stays m.records slot (Going head n reads) w (λ order. ap (is_intention w order) stands) (λ order. refl) (ap (is_prepared w) stands ∙ work_other head.work w ne) (work_other head.work w ne))

      module _ (ok : Bool) (records : List Record) (w : StoreView) (puts : Puts m.records v slot (Going head n reads) ok records w) where
        pub marked_matches : ok ≡ true → Matches (with_going m slot head n reads works) w
        marked_matches done = record {
          standing = (makes ok records w puts).standing done;
          root = same_only v w 0 _ (puts.put.others 0 (let e = now.standing.held.count in omega (arith, e)) (λ e. omega (arith, e))) now.root;
          table = now.table;
          works = works_go;
          made = λ w. subst (λ o. IsMade m.table.heads o) (sym (found w)) (still (work_eq head.work w) (find_by work_eq name_of m.works w) (now.made w));
          supplied = λ w. subst (λ o. HasMaps (maps_in m.table.heads) o) (sym (found w)) (maps_still (work_eq head.work w) (find_by work_eq name_of m.works w) (now.supplied w));
          flags = flags_stay m.records slot (Going head n reads) m.flags (λ t. ap (is_flag t) stands) (λ t. refl) now.flags;
          held = λ a. now.held a ∙ sym (names_kept m.records slot (Going head n reads) same_works (suc a) (ap (holds_intention (names_address (suc a)) m.records) stands) refl);
        }
          where
            still : (b : Bool) (o : Option WorkState) → IsMade m.table.heads o → IsMade m.table.heads (if b then option_map going_on o else o)
            still true None is = is
            still true (Some s) is = is
            still false o is = is

            maps_still : (b : Bool) (o : Option WorkState) → HasMaps (maps_in m.table.heads) o → HasMaps (maps_in m.table.heads) (if b then option_map going_on o else o)
            maps_still true None is = is
            maps_still true (Some s) is = is
            maps_still false o is = is

        pub marked_done : MarkedGoing (view_of m v) head.work ok (view_of (with_going m slot head n reads works) w)
        marked_done = record {
          called = called_put m (with_going m slot head n reads works) v w (slot_page slot) (record_page (Going head n reads)) ok 16 (omega arith) refl refl puts.put (makes ok records w puts).recoverable
              (λ e. serving_by (with_going m slot head n reads works) w (made_by (MarkGoing head.work) (state (view_of m v))) ((makes ok records w puts).change.done e) (puts.put.served e).power serves);
          change = (makes ok records w puts).change;
          accounts = λ e. accounts_same;
        }

-- ---- the same of what the code makes

module _ (m : Memory) (v : StoreView) (kept : IsKeptMemory m v) (serving : IsServing (view_of m v)) (work : WorkId) (ready : IsReady (view_of m v) work) (slot : ℕ) (at : position (is_prepared work) m.records ≡ Some slot) where
  its : (head : WorkHead) × (n : ℕ) × (reads : List LockUnit) × (record_in m.records slot ≡ Ready head n reads) × (head.work ≡ work)
  its = ready_record m v (kept serving.power) serving work ready slot at

  pub mark_ready : is_ready_record (record_in m.records slot) ≡ true
  mark_ready = ap is_ready_record its.3

  at_head : position (is_prepared its.0.work) m.records ≡ Some slot
  at_head = subst (λ u. position (is_prepared u) m.records ≡ Some slot) (sym its.4) at

  module _ (ok : Bool) (records : List Record) (w : StoreView) (puts : Puts m.records v slot (going_of (record_in m.records slot)) ok records w) where
    its_puts : Puts m.records v slot (Going its.0 its.1 its.2) ok records w
    its_puts = subst (λ r. Puts m.records v slot (going_of r) ok records w) its.3 puts

    -- done or stopped
    pub mark_recovers : IsRecoverable m.server m.table.counts w
    mark_recovers = (makes m v (kept serving.power) serving slot its.0 its.1 its.2 its.3 at_head ok records w its_puts).recoverable

    module _ (works : List WorkState) (marked : MarksWork m.works work works) where
      its_mark : MarksWork m.works its.0.work works
      its_mark = subst (λ u. MarksWork m.works u works) (sym its.4) marked

      pub mark_kept : ok ≡ true → Matches (record m { records = records; works = works }) w
      mark_kept done = subst (λ r. Matches (record m { records = r; works = works }) w) (sym (its_puts.done done))
          (marked_matches m v (kept serving.power) serving slot its.0 its.1 its.2 its.3 at_head works its_mark ok records w its_puts done)

      pub mark_done : ok ≡ true → MarkedGoing (view_of m v) work ok (view_of (record m { records = records; works = works }) w)
      mark_done done = subst (λ r. MarkedGoing (view_of m v) work ok (view_of (record m { records = r; works = works }) w)) (sym (its_puts.done done))
          (subst (λ u. MarkedGoing (view_of m v) u ok (view_of (with_going m slot its.0 its.1 its.2 works) w)) its.4
          (marked_done m v (kept serving.power) serving slot its.0 its.1 its.2 its.3 at_head works its_mark ok records w its_puts))

    pub mark_stopped : ok ≡ false → (b : Bool) → b ≡ ok → MarkedGoing (view_of m v) work b (view_of (record m { records = records }) w)
    mark_stopped stopped b e = subst (λ r. MarkedGoing (view_of m v) work b (view_of (record m { records = r }) w)) (sym (its_puts.stopped stopped))
        (subst (λ u. MarkedGoing (view_of m v) u b (view_of m w)) its.4
        (subst (λ c. MarkedGoing (view_of m v) its.0.work c (view_of m w)) (sym e)
        (marked_stopped m v (kept serving.power) serving slot its.0 its.1 its.2 its.3 at_head ok records w its_puts stopped)))
