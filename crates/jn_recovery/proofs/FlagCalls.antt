-- A flag is put and dropped, each by one put of its record.
use Rattle.jn_recovery.proofs.Common.{◌≡◌, ◌≢◌, ⊎_elim, ◌<◌, ◌≤◌, ◌+◌, ◌-◌, ℕ, suc, Bool, true, false, not, ◌||◌, if◌then◌else◌, List, [], ◌∷◌, ◌++◌, map, Option, Some, None, refl, sym, ◌∙◌, ap, subst, true≢false, arith, find_past, Ok, MatchOption, is_some, filter, position, slice_set, slice_index_or, option_map, option_and_then, find, list_any, AllByRecursion, nat_tests, Tid, tid_eq, tid_tells, IsFlagSlot, IsFlagPut, flag_by, flags_in, RecordPut, IsRecoverable, Makes, flags_put, drops, found_written, none_at, Flag, Record, Free, Intention, Ready, Going, FlagRecord, record_page, FlagFits, found_on, StableState, Changed, AddFlag, DropFlag, made_by, flag_state, IsRecord, record_in, slot_page, is_free, free_count, is_flag, Puts, are_different, IsServing, state, tid_of, HasFlag, MayPutFlag, FlagPut, FlagDropped, FlagPromised, PromiseReleased, TellsFlags, find_by, find-kept, find-add, find-at, find-listed, keys-kept, different-kept, different-add, map-add, StoreView, Memory, accounts_of, view_of, rubbish_in, Matches, IsKeptMemory, FlagsMatch, flag_on, same_only}
use Rattle.jn_sets.proofs.Slots.{none_counted}
use Rattle.jn_recovery.proofs.FlagStates.{with_flag_less, with_flag_more, serves_dropped, serves_flagged, serves_promised}
use Rattle.jn_recovery.proofs.Pool.{position_at, none_position, step_of, free_less, free_more, IsOfNoWork, free_no_work, flag_no_work, flag_is, free_is, rubbish_stays, names_stay, match_stays}
use Rattle.jn_recovery.proofs.Serving.{Serves, serves_of, serving_by, may_load, called_put}
use Rattle.jn_recovery.proofs.Standing.{finds, consistent}

-- ---- which flags the pool has

pub none_any : {X : Type 0} (p : X → Bool) (xs : List X) → find p xs ≡ None → list_any p xs ≡ false
none_any p [] e = refl
none_any p (x ∷ xs) e = by (p x) (none_any p xs) e
  where
    by : (b : Bool) → (find p xs ≡ None → list_any p xs ≡ false) → (if b then Some x else find p xs) ≡ None → (b || list_any p xs) ≡ false
    by true rest e = absurd (cc e)
    by false rest e = rest e

-- what is found by its flag is one
found_flag : (t : Tid) (pool : List Record) → flag_by (find (is_flag t) pool) ≡ None → find (is_flag t) pool ≡ None
found_flag t [] e = refl
found_flag t (r ∷ rs) e = by r (is_flag t r) refl (found_flag t rs) e
  where
    by : (r : Record) (b : Bool) → is_flag t r ≡ b → (flag_by (find (is_flag t) rs) ≡ None → find (is_flag t) rs ≡ None) → flag_by (if b then Some r else find (is_flag t) rs) ≡ None → (if b then Some r else find (is_flag t) rs) ≡ None
    by r false h rest e = rest e
    by r true h rest e = let f = flag_is t r h in let clash : Some _ ≡ None = sym (ap (λ (q : Record). flag_by (Some q)) f.1) ∙ e in absurd (cc clash)

flag_other : (t u : Tid) (r : Record) → is_flag t r ≡ true → t ≢ u → is_flag u r ≡ false
flag_other t u r h ne = let f = flag_is t r h in ap (is_flag u) f.1 ∙ by f.0 (sym (ap (is_flag t) f.1) ∙ h)
  where
    by : (f : Flag) → tid_eq f.tid t ≡ true → tid_eq f.tid u ≡ false
    by f h = grind (arith, tid_tells)

-- ---- flags in memory and in the pool

flags_less : (pool : List Record) (flags : List Flag) (slot : ℕ) (t : Tid) → FlagsMatch pool flags → IsFlagSlot pool slot t → FlagsMatch (slice_set pool slot Free) (filter (λ (flag : Flag). not (tid_eq t (tid_of flag))) flags)
flags_less pool flags slot t is at = record {
  differ = subst (λ ks. are_different tid_eq ks ≡ true) (sym (keys-kept tid_of (λ u. not (tid_eq t u)) flags)) (different-kept tid_eq (λ u. not (tid_eq t u)) (map tid_of flags) is.differ);
  each = λ u. find-kept tid_eq tid_tells tid_of (λ v. not (tid_eq t v)) flags u ∙ ⊎_elim (λ h. here u h.1 h.0) (λ h. there u h.1 h.0) (tid_tells t u);
}
  where
    here : (u : Tid) → t ≡ u → tid_eq t u ≡ true → (if not (tid_eq t u) then find_by tid_eq tid_of flags u else None) ≡ option_and_then flag_on (find (is_flag u) (slice_set pool slot Free))
    here u e h = ap (λ b. if not b then find_by tid_eq tid_of flags u else None) h ∙ sym (ap (option_and_then flag_on) gone)
      where
        gone : find (is_flag u) (slice_set pool slot Free) ≡ None
        gone = subst (λ s. find (is_flag s) (slice_set pool slot Free) ≡ None) e (found_written (is_flag t) Free pool slot Free at.there refl (λ j p. at.once j slot p at.stands))

    there : (u : Tid) → t ≢ u → tid_eq t u ≡ false → (if not (tid_eq t u) then find_by tid_eq tid_of flags u else None) ≡ option_and_then flag_on (find (is_flag u) (slice_set pool slot Free))
    there u ne h = ap (λ b. if not b then find_by tid_eq tid_of flags u else None) h ∙ is.each u ∙ sym (ap (option_and_then flag_on) (find_past (is_flag u) pool slot Free Free (flag_other t u (record_in pool slot) at.stands ne) refl))

flags_more : (pool : List Record) (flags : List Flag) (slot : ℕ) (flag : Flag) → FlagsMatch pool flags → IsFlagPut pool slot flag → find (is_flag flag.tid) pool ≡ None → FlagsMatch (slice_set pool slot (FlagRecord flag)) (flags ++ flag ∷ [])
flags_more pool flags slot flag is put none = record {
  differ = subst (λ ks. are_different tid_eq ks ≡ true) (sym (map-add tid_of flags flag)) (different-add tid_eq tid_tells flag.tid (map tid_of flags) is.differ (find-listed tid_eq tid_of flags flag.tid ∙ ap is_some absent));
  each = λ u. find-add tid_eq tid_of flags flag u ∙ ⊎_elim (λ h. here u h.1 h.0) (λ h. there u h.1 h.0 (find_by tid_eq tid_of flags u) refl) (tid_tells flag.tid u);
}
  where
    absent : find_by tid_eq tid_of flags flag.tid ≡ None
    absent = is.each flag.tid ∙ ap (option_and_then flag_on) none

    same : tid_eq flag.tid flag.tid ≡ true
    same = grind (arith, tid_tells)

    stands : find (is_flag flag.tid) (slice_set pool slot (FlagRecord flag)) ≡ Some (FlagRecord flag)
    stands = found_written (is_flag flag.tid) Free pool slot (FlagRecord flag) put.slot_free.there refl
        (λ j p. absurd (true≢false (sym p ∙ none_at (is_flag flag.tid) Free pool j refl put.new)))
        ∙ ap (λ b. if b then Some (FlagRecord flag) else None) same

    here : (u : Tid) → flag.tid ≡ u → tid_eq flag.tid u ≡ true → (if is_some (find_by tid_eq tid_of flags u) then find_by tid_eq tid_of flags u else if tid_eq flag.tid u then Some flag else None) ≡ option_and_then flag_on (find (is_flag u) (slice_set pool slot (FlagRecord flag)))
    here u e h = ap (λ o. if is_some o then o else if tid_eq flag.tid u then Some flag else None) (subst (λ s. find_by tid_eq tid_of flags s ≡ None) e absent)
        ∙ ap (λ b. if b then Some flag else None) h
        ∙ sym (ap (option_and_then flag_on) (subst (λ s. find (is_flag s) (slice_set pool slot (FlagRecord flag)) ≡ Some (FlagRecord flag)) e stands))

    there : (u : Tid) → flag.tid ≢ u → tid_eq flag.tid u ≡ false → (o : Option Flag) → find_by tid_eq tid_of flags u ≡ o
        → (if is_some (find_by tid_eq tid_of flags u) then find_by tid_eq tid_of flags u else if tid_eq flag.tid u then Some flag else None) ≡ option_and_then flag_on (find (is_flag u) (slice_set pool slot (FlagRecord flag)))
    there u ne h o e = ap (λ o. if is_some o then o else if tid_eq flag.tid u then Some flag else None) e ∙ by o ∙ sym e ∙ is.each u
        ∙ sym (ap (option_and_then flag_on) (find_past (is_flag u) pool slot (FlagRecord flag) Free (ap (is_flag u) put.slot_free.free) h))
      where
        by : (o : Option Flag) → (if is_some o then o else if tid_eq flag.tid u then Some flag else None) ≡ o
        by None = ap (λ b. if b then Some flag else None) h
        by (Some f) = refl

-- ---- the calls

abbrev pub without_flag : Memory → ℕ → Tid → Memory
without_flag m slot t = record m { records = slice_set m.records slot Free; flags = filter (λ (flag : Flag). not (tid_eq t (tid_of flag))) m.flags }

abbrev pub with_flag : Memory → ℕ → Flag → ℕ → Memory
with_flag m slot flag promised = record m { records = slice_set m.records slot (FlagRecord flag); flags = m.flags ++ flag ∷ []; promised = promised }

pub free_record : IsRecord Free
free_record = record { whole = refl; fits = tt }

module _ (m : Memory) (v : StoreView) (now : Matches m v) (serving : IsServing (view_of m v)) where
  pub flags_seen : (t : Tid) → (state (view_of m v)).flags t ≡ flags_in m.records t
  flags_seen t = ap (λ (x : StableState). x.flags t) (finds m.server m.table.counts v m.epoch m.records m.table.heads m.table.maps now.standing (λ n. false))

  -- and they are those in memory
  flags_told : (t : Tid) → (state (view_of m v)).flags t ≡ option_map flag_state (find_by tid_eq tid_of m.flags t)
  flags_told t = flags_seen t ∙ by (find (is_flag t) m.records) ∙ sym (ap (option_map flag_state) (now.flags.each t))
    where
      by : (o : Option Record) → flag_by o ≡ option_map flag_state (option_and_then flag_on o)
      by None = refl
      by (Some Free) = refl
      by (Some (Intention w u k i)) = refl
      by (Some (Ready head n reads)) = refl
      by (Some (Going head n reads)) = refl
      by (Some (FlagRecord f)) = refl

  pub tells_flags : TellsFlags (view_of m v) m.flags
  tells_flags = record {
    all = record { different = now.flags.differ; all = λ t. find-listed tid_eq tid_of m.flags t ∙ sym (some_is (find_by tid_eq tid_of m.flags t)) ∙ sym (ap is_some (flags_told t)) };
    each = λ i d h. flags_told (tid_of (slice_index_or m.flags i d)) ∙ ap (option_map flag_state) (find-at tid_eq tid_tells tid_of m.flags i d h now.flags.differ);
  }
    where
      some_is : (o : Option Flag) → is_some (option_map flag_state o) ≡ is_some o
      some_is None = refl
      some_is (Some f) = refl

  -- a flag that stands has a slot
  pub flag_slotted : (t : Tid) → HasFlag (view_of m v) t → position (is_flag t) m.records ≡ None → ⊥
  flag_slotted t has none = true≢false (sym has ∙ ap is_some (flags_seen t) ∙ ap (λ o. is_some (flag_by o)) (none_position (is_flag t) m.records none))

  module _ (t : Tid) (slot : ℕ) (at : position (is_flag t) m.records ≡ Some slot) where
    flag_slot : IsFlagSlot m.records slot t
    flag_slot = let h = position_at (is_flag t) m.records Free slot at in record {
      there = h.0;
      stands = h.1;
      once = (consistent m.server m.table.counts v m.epoch m.records m.table.heads m.table.maps now.standing).distinct.flags t;
    }

    no_work : IsOfNoWork (record_in m.records slot)
    no_work = let f = flag_is t (record_in m.records slot) flag_slot.stands in subst IsOfNoWork (sym f.1) (flag_no_work f.0)

    pub flag_held : is_free (record_in m.records slot) ≡ false
    flag_held = let f = flag_is t (record_in m.records slot) flag_slot.stands in ap is_free f.1

    accounts_less : accounts_of (without_flag m slot t) ≡ with_flag_less (accounts_of m)
    accounts_less = ap (λ k. record (accounts_of m) { free_records = k; rubbish = rubbish_in (slice_set m.records slot Free) (slice_set m.records slot Free) }) (free_less m.records slot flag_slot.there flag_held)
        ∙ ap (λ r. record (accounts_of m) { free_records = free_count m.records + 1; rubbish = r }) (rubbish_stays m.records slot Free no_work free_no_work)

    module _ (has : HasFlag (view_of m v) t) (ok : Bool) (records : List Record) (w : StoreView) (puts : Puts m.records v slot Free ok records w) where
      serves : Serves (made_by (DropFlag t) (state (view_of m v))) (accounts_of (without_flag m slot t))
      serves = subst (Serves (made_by (DropFlag t) (state (view_of m v)))) (sym accounts_less) (serves_dropped (state (view_of m v)) (accounts_of m) t (serves_of m v serving) has)

      makes : Makes m.server m.table.counts v m.epoch m.records m.table.heads m.table.maps (RecordPut slot Free) (DropFlag t) ok w
      makes = drops m.server m.table.counts v w m.epoch m.records m.table.heads m.table.maps ok now.standing slot t
          (step_of m.server m.table.counts v slot Free ok w (subst (λ n. slot < n) now.standing.held.slots flag_slot.there) free_record puts.put) flag_slot
          (may_load (made_by (DropFlag t) (state (view_of m v))) (accounts_of (without_flag m slot t)) serves)

      pub dropped_matches : ok ≡ true → Matches (without_flag m slot t) w
      dropped_matches done = record {
        standing = makes.standing done;
        root = same_only v w 0 _ (puts.put.others 0 (let count = now.standing.held.count in omega (arith, count)) (λ e. omega (arith, e))) now.root;
        table = now.table;
        works = match_stays m.records slot Free no_work free_no_work m.works now.works;
        made = now.made;
        supplied = now.supplied;
        flags = flags_less m.records m.flags slot t now.flags flag_slot;
        held = λ a. now.held a ∙ sym (names_stay m.records slot Free no_work free_no_work (suc a));
      }

      pub dropped_done : ok ≡ true → FlagDropped (view_of m v) t ok (view_of (without_flag m slot t) w)
      dropped_done done = record {
        called = called_put m (without_flag m slot t) v w (slot_page slot) (record_page Free) ok 16 (omega arith) refl refl puts.put makes.recoverable
            (λ e. serving_by (without_flag m slot t) w (made_by (DropFlag t) (state (view_of m v))) (makes.change.done e) (puts.put.served e).power serves);
        change = makes.change;
        accounts = λ e. accounts_less;
      }

      pub dropped_stopped : ok ≡ false → FlagDropped (view_of m v) t ok (view_of m w)
      dropped_stopped stopped = record {
        called = called_put m m v w (slot_page slot) (record_page Free) ok 16 (omega arith) refl refl puts.put makes.recoverable (λ e. absurd (true≢false (sym e ∙ stopped)));
        change = makes.change;
        accounts = λ e. absurd (true≢false (sym e ∙ stopped));
      }

  module _ (flag : Flag) (slot promised : ℕ) (may : MayPutFlag (view_of m v) flag) (less : promised + 1 ≡ m.promised) (at : position is_free m.records ≡ Some slot) (is : IsRecord (FlagRecord flag)) where
    none : find (is_flag flag.tid) m.records ≡ None
    none = found_flag flag.tid m.records (sym (flags_seen flag.tid) ∙ may.new)

    stands_free : record_in m.records slot ≡ Free
    stands_free = free_is (record_in m.records slot) (position_at is_free m.records Free slot at).1

    flag_put : IsFlagPut m.records slot flag
    flag_put = record { slot_free = record { there = (position_at is_free m.records Free slot at).0; free = stands_free }; new = none_any (is_flag flag.tid) m.records none }

    no_work_yet : IsOfNoWork (record_in m.records slot)
    no_work_yet = subst IsOfNoWork (sym stands_free) free_no_work

    accounts_more : accounts_of (with_flag m slot flag promised) ≡ with_flag_more (accounts_of m)
    accounts_more =
        let fewer = free_more m.records slot (FlagRecord flag) flag_put.slot_free.there (ap is_free stands_free) refl in
        let one : free_count (slice_set m.records slot (FlagRecord flag)) ≡ free_count m.records - 1 = omega (arith, fewer) in
        let two : promised ≡ m.promised - 1 = omega (arith, less) in
        ap (λ k. record (accounts_of m) { free_records = k; promised_records = promised; rubbish = rubbish_in (slice_set m.records slot (FlagRecord flag)) (slice_set m.records slot (FlagRecord flag)) }) one
        ∙ ap (λ k. record (accounts_of m) { free_records = free_count m.records - 1; promised_records = k; rubbish = rubbish_in (slice_set m.records slot (FlagRecord flag)) (slice_set m.records slot (FlagRecord flag)) }) two
        ∙ ap (λ r. record (accounts_of m) { free_records = free_count m.records - 1; promised_records = m.promised - 1; rubbish = r }) (rubbish_stays m.records slot (FlagRecord flag) no_work_yet (flag_no_work flag))

    module _ (ok : Bool) (records : List Record) (w : StoreView) (puts : Puts m.records v slot (FlagRecord flag) ok records w) where
      flagged : Serves (made_by (AddFlag flag) (state (view_of m v))) (accounts_of (with_flag m slot flag promised))
      flagged = subst (Serves (made_by (AddFlag flag) (state (view_of m v)))) (sym accounts_more) (serves_flagged (state (view_of m v)) (accounts_of m) flag (serves_of m v serving) may.promise may.new may.room may.given)

      makes_flag : Makes m.server m.table.counts v m.epoch m.records m.table.heads m.table.maps (RecordPut slot (FlagRecord flag)) (AddFlag flag) ok w
      makes_flag = flags_put m.server m.table.counts v w m.epoch m.records m.table.heads m.table.maps ok now.standing slot flag
          (step_of m.server m.table.counts v slot (FlagRecord flag) ok w (subst (λ n. slot < n) now.standing.held.slots flag_put.slot_free.there) is puts.put) flag_put
          (may_load (made_by (AddFlag flag) (state (view_of m v))) (accounts_of (with_flag m slot flag promised)) flagged)

      pub put_matches : ok ≡ true → Matches (with_flag m slot flag promised) w
      put_matches done = record {
        standing = makes_flag.standing done;
        root = same_only v w 0 _ (puts.put.others 0 (let count = now.standing.held.count in omega (arith, count)) (λ e. omega (arith, e))) now.root;
        table = now.table;
        works = match_stays m.records slot (FlagRecord flag) no_work_yet (flag_no_work flag) m.works now.works;
        made = now.made;
        supplied = now.supplied;
        flags = flags_more m.records m.flags slot flag now.flags flag_put none;
        held = λ a. now.held a ∙ sym (names_stay m.records slot (FlagRecord flag) no_work_yet (flag_no_work flag) (suc a));
      }

      pub put_done : ok ≡ true → FlagPut (view_of m v) flag ok (view_of (with_flag m slot flag promised) w)
      put_done done = record {
        called = called_put m (with_flag m slot flag promised) v w (slot_page slot) (record_page (FlagRecord flag)) ok 16 (omega arith) refl refl puts.put makes_flag.recoverable
            (λ e. serving_by (with_flag m slot flag promised) w (made_by (AddFlag flag) (state (view_of m v))) (makes_flag.change.done e) (puts.put.served e).power flagged);
        change = makes_flag.change;
        accounts = λ e. accounts_more;
      }

      -- what is kept in memory doesn't count any more
      pub put_stopped : (n : Memory) → n.server ≡ m.server → n.table.counts ≡ m.table.counts → ok ≡ false → FlagPut (view_of m v) flag ok (view_of n w)
      put_stopped n server counts stopped = record {
        called = called_put m n v w (slot_page slot) (record_page (FlagRecord flag)) ok 16 (omega arith) server counts puts.put makes_flag.recoverable (λ e. absurd (true≢false (sym e ∙ stopped)));
        change = subst (λ g. Changed (state (view_of m v)) (AddFlag flag) ok (found_on g w)) (sym counts) makes_flag.change;
        accounts = λ e. absurd (true≢false (sym e ∙ stopped));
      }

-- ---- the same of what the code makes

pub popped : {A : Type 0} (r : Option A) (old new : ℕ) → MatchOption r ((old ≡ 0) × (new ≡ 0)) (λ _. new + 1 ≡ old) → 0 < old → new + 1 ≡ old
popped None old new h some = absurd (omega (arith, h.0, some))
popped (Some x) old new h some = h

pub all_front : {A : Type 0} (P : A → Type 0) (xs ys : List A) → AllByRecursion P (xs ++ ys) → AllByRecursion P xs
all_front P [] ys h = tt
all_front P (x ∷ xs) ys h = (h.0, all_front P xs ys h.1)

pub last_of : {A : Type 0} (P : A → Type 0) (xs : List A) (x : A) → AllByRecursion P (xs ++ x ∷ []) → P x
last_of P [] x h = h.0
last_of P (y ∷ xs) x h = last_of P xs x h.1

module _ (m : Memory) (v : StoreView) (kept : IsKeptMemory m v) (serving : IsServing (view_of m v)) where
  module _ (t : Tid) (slot : ℕ) (at : position (is_flag t) m.records ≡ Some slot) (has : HasFlag (view_of m v) t) (records : List Record) (w : StoreView) where
    pub drop_kept : (flags : List Flag) → Puts m.records v slot Free true records w → flags ≡ filter (λ (flag : Flag). not (tid_eq t (tid_of flag))) m.flags → Matches (record m { records = records; flags = flags }) w
    drop_kept flags puts e = subst (λ r. Matches (record m { records = r; flags = flags }) w) (sym (puts.done refl))
        (subst (λ f. Matches (record m { records = slice_set m.records slot Free; flags = f }) w) (sym e) (dropped_matches m v (kept serving.power) serving t slot at has true records w puts refl))

    pub drop_done : (flags : List Flag) → Puts m.records v slot Free true records w → flags ≡ filter (λ (flag : Flag). not (tid_eq t (tid_of flag))) m.flags → FlagDropped (view_of m v) t true (view_of (record m { records = records; flags = flags }) w)
    drop_done flags puts e = subst (λ r. FlagDropped (view_of m v) t true (view_of (record m { records = r; flags = flags }) w)) (sym (puts.done refl))
        (subst (λ f. FlagDropped (view_of m v) t true (view_of (record m { records = slice_set m.records slot Free; flags = f }) w)) (sym e) (dropped_done m v (kept serving.power) serving t slot at has true records w puts refl))

    pub drop_recovers : (ok : Bool) → Puts m.records v slot Free ok records w → IsRecoverable m.server m.table.counts w
    drop_recovers ok puts = (makes m v (kept serving.power) serving t slot at has ok records w puts).recoverable

    pub drop_stopped : (b : Bool) → b ≡ false → Puts m.records v slot Free false records w → FlagDropped (view_of m v) t b (view_of (record m { records = records }) w)
    drop_stopped b e puts = subst (λ r. FlagDropped (view_of m v) t b (view_of (record m { records = r }) w)) (sym (puts.stopped refl))
        (subst (λ c. FlagDropped (view_of m v) t c (view_of m w)) (sym e) (dropped_stopped m v (kept serving.power) serving t slot at has false records w puts refl))

  module _ (flag value : Flag) (promised : ℕ) (may : MayPutFlag (view_of m v) flag) (less : promised + 1 ≡ m.promised) (fits : FlagFits value) (same : value ≡ flag) (ok : Bool) (records : List Record) (w : StoreView)
      (puts : (slot : ℕ) → position is_free m.records ≡ Some slot → Puts m.records v slot (FlagRecord value) ok records w) where
    record_is : IsRecord (FlagRecord flag)
    record_is = record { whole = let few = may.works_fit in grind (arith, nat_tests); fits = subst FlagFits same fits }

    place : (slot : ℕ) × (position is_free m.records ≡ Some slot)
    place = by (position is_free m.records) refl
      where
        by : (o : Option ℕ) → position is_free m.records ≡ o → (slot : ℕ) × (position is_free m.records ≡ Some slot)
        by None e = absurd (let none = none_counted is_free m.records e in let some = may.promise in let enough = serving.records_fit in omega (arith, none, some, enough))
        by (Some slot) e = (slot, e)

    its_put : Puts m.records v place.0 (FlagRecord flag) ok records w
    its_put = subst (λ f. Puts m.records v place.0 (FlagRecord f) ok records w) same (puts place.0 place.1)

    pub put_kept : (flags : List Flag) → ok ≡ true → flags ≡ m.flags ++ flag ∷ [] → Matches (record m { records = records; flags = flags; promised = promised }) w
    put_kept flags done e = subst (λ r. Matches (record m { records = r; flags = flags; promised = promised }) w) (sym (its_put.done done))
        (subst (λ f. Matches (record m { records = slice_set m.records place.0 (FlagRecord flag); flags = f; promised = promised }) w) (sym e) (put_matches m v (kept serving.power) serving flag place.0 promised may less place.1 record_is ok records w its_put done))

    pub put_is_done : (flags : List Flag) → ok ≡ true → flags ≡ m.flags ++ flag ∷ [] → FlagPut (view_of m v) flag ok (view_of (record m { records = records; flags = flags; promised = promised }) w)
    put_is_done flags done e = subst (λ r. FlagPut (view_of m v) flag ok (view_of (record m { records = r; flags = flags; promised = promised }) w)) (sym (its_put.done done))
        (subst (λ f. FlagPut (view_of m v) flag ok (view_of (record m { records = slice_set m.records place.0 (FlagRecord flag); flags = f; promised = promised }) w)) (sym e) (put_done m v (kept serving.power) serving flag place.0 promised may less place.1 record_is ok records w its_put done))

    pub put_is_stopped : ok ≡ false → FlagPut (view_of m v) flag ok (view_of (record m { records = records; promised = promised }) w)
    put_is_stopped stopped = put_stopped m v (kept serving.power) serving flag place.0 promised may less place.1 record_is ok records w its_put (record m { records = records; promised = promised }) refl refl stopped

    -- a put that fails was stopped
    pub put_dark : ok ≡ false → w.power ≡ false
    put_dark stopped = (its_put.put.stop stopped).dark

    pub put_recovers : IsRecoverable m.server m.table.counts w
    put_recovers = (makes_flag m v (kept serving.power) serving flag place.0 promised may less place.1 record_is ok records w its_put).recoverable

  -- ---- promises

  with_promises_still : (n : ℕ) → n ≤ free_count m.records → IsServing (view_of (record m { promised = n }) v)
  with_promises_still n fits = serving_by (record m { promised = n }) v (state (view_of m v)) serving.up serving.power (serves_promised (state (view_of m v)) (accounts_of m) n (serves_of m v serving) fits)

  pub promises : (n : ℕ) → n ≡ m.promised + 1 → m.promised < free_count m.records → FlagPromised {A = Unit {0}} (view_of m v) (Ok tt) (view_of (record m { promised = n }) v)
  promises n e fits = record {
    enough = λ _. fits;
    promised = λ _. ap (λ p. view_of (record m { promised = p }) v) e;
    refused = λ short e. absurd (cc e);
    kept = λ e. absurd (cc e);
    serving = with_promises_still n (omega (arith, e, fits));
  }

  pub releases : (n : ℕ) → n + 1 ≡ m.promised → PromiseReleased (view_of m v) (view_of (record m { promised = n }) v)
  releases n e = record {
    released = ap (λ p. view_of (record m { promised = p }) v) (let fits : n ≡ m.promised - 1 = omega (arith, e) in fits);
    serving = with_promises_still n (let fits = serving.records_fit in omega (arith, e, fits));
  }
