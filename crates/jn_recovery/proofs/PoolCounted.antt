-- What is counted of the pool: its works, its flags and their records.
use Rattle.jn_recovery.proofs.Common.{◌≡◌, ◌<◌, ◌≤◌, ◌+◌, ℕ, zero, suc, Bool, true, false, not, ◌||◌, ◌&&◌, if◌then◌else◌, List, [], ◌∷◌, length, map, get_or, Option, Some, None, refl, sym, ◌∙◌, ap, subst, true≢false, arith, nat_tests, length-map, sum_by-cons, nat_eq, nat_lt, nat_le, is_some, count_by, option_map, option_and_then, find, list_any, Tid, WorkId, tid_eq, work_eq, tid_tells, work_tells, Contents, state_in, stored_in, stored_list, intention_of, intentions_from, with_first, intended, prepared_by, flag_by, works_name, IsConsistent, HasIntentions, IsCompleteBy, PassesOnce, found_once, found_passes, found_any, none_at, passes_at, StoredIntention, Record, Free, Intention, Ready, Going, FlagRecord, WorkState, Counts, record_in, is_free, free_count, is_prepared, is_intention, is_flag, is_rubbish, name_of, tid_of, find_by, total, are_different, IsListing, intentions_of, list_of, collected, state_on, works_on, flags_on, record_names, stored_work, work_by, flag_on, WorksMatch, FlagsMatch, rubbish_in, holds_intention, names_address, intends_for}
use Rattle.jn_recovery.proofs.Counting.{none_counts, one_counts, found_at, same_counts, counts_plus, work_count, listed_length}
use Rattle.jn_recovery.proofs.Erasing.{rubbish_length}
use Rattle.jn_recovery.proofs.FlagCalls.{none_any}
use Rattle.jn_recovery.proofs.Keys.{is_key, on_key, keys_of, keys_length, keys_same, keys_in, keys_differ, found_by}
use Rattle.jn_recovery.proofs.Totals.{one, total_same, total_plus, total_ones, total_none, count_total, swapped, in_once}

abbrev pub named : Record → Option WorkId
named (Ready head n reads) = Some head.work
named (Going head n reads) = Some head.work
named _ = None

abbrev pub flagged : Record → Option Tid
flagged (FlagRecord f) = Some f.tid
flagged _ = None

link_named : (w : WorkId) (r : Record) → is_prepared w r ≡ is_key work_eq w (named r)
link_named w Free = refl
link_named w (Intention v u k i) = refl
link_named w (Ready head n reads) = refl
link_named w (Going head n reads) = refl
link_named w (FlagRecord f) = refl

link_flagged : (t : Tid) (r : Record) → is_flag t r ≡ is_key tid_eq t (flagged r)
link_flagged t Free = refl
link_flagged t (Intention v u k i) = refl
link_flagged t (Ready head n reads) = refl
link_flagged t (Going head n reads) = refl
link_flagged t (FlagRecord f) = refl

same_name : (pool : List Record) (r : Record) → option_map name_of (state_on pool r) ≡ named r
same_name pool Free = refl
same_name pool (Intention v u k i) = refl
same_name pool (Ready head n reads) = refl
same_name pool (Going head n reads) = refl
same_name pool (FlagRecord f) = refl

same_tid : (r : Record) → option_map tid_of (flag_on r) ≡ flagged r
same_tid Free = refl
same_tid (Intention v u k i) = refl
same_tid (Ready head n reads) = refl
same_tid (Going head n reads) = refl
same_tid (FlagRecord f) = refl

-- some record passes where one is found
any_found : {X : Type 0} (p : X → Bool) (d : X) (xs : List X) → list_any p xs ≡ is_some (find p xs)
any_found {X} p d xs = by (find p xs) refl
  where
    by : (o : Option X) → find p xs ≡ o → list_any p xs ≡ is_some o
    by None e = none_any p xs e
    by (Some x) e = found_any p d xs x e

module _ (pool : List Record) where
  names_are : map name_of (works_on pool) ≡ collected named pool
  names_are = keys_of (state_on pool) name_of named (same_name pool) pool

  tids_are : map tid_of (flags_on pool) ≡ collected flagged pool
  tids_are = keys_of flag_on tid_of flagged same_tid pool

  -- ---- what is collected is what the records say

  state_seen : (w : WorkId) (o : Option Record) → ((r : Record) → o ≡ Some r → is_prepared w r ≡ true) → option_map stored_work (option_and_then (state_on pool) o) ≡ option_and_then (work_by pool w) o
  state_seen w None is = refl
  state_seen w (Some Free) is = refl
  state_seen w (Some (Intention v u k i)) is = refl
  state_seen w (Some (Ready head n reads)) is = ap (λ v. Some (record { head = head; list = stored_list pool v n; reads = reads; going = false })) (let t = work_tells head.work w in let h = is (Ready head n reads) refl in grind (arith, h))
  state_seen w (Some (Going head n reads)) is = ap (λ v. Some (record { head = head; list = stored_list pool v n; reads = reads; going = true })) (let t = work_tells head.work w in let h = is (Going head n reads) refl in grind (arith, h))
  state_seen w (Some (FlagRecord f)) is = refl

  pub works_match : ((w : WorkId) → PassesOnce (λ i. is_prepared w (record_in pool i))) → WorksMatch pool (works_on pool)
  works_match once = record {
    differ = ap (are_different work_eq) names_are ∙ keys_differ named work_eq work_tells is_prepared link_named Free pool once;
    each = λ w. ap (option_map stored_work) (found_by named work_eq work_tells is_prepared link_named (state_on pool) name_of (same_name pool) pool w)
        ∙ state_seen w (find (is_prepared w) pool) (λ r e. found_passes (is_prepared w) Free pool r e);
  }

  pub flags_match : ((t : Tid) → PassesOnce (λ i. is_flag t (record_in pool i))) → FlagsMatch pool (flags_on pool)
  flags_match once = record {
    differ = ap (are_different tid_eq) tids_are ∙ keys_differ flagged tid_eq tid_tells is_flag link_flagged Free pool once;
    each = λ t. found_by flagged tid_eq tid_tells is_flag link_flagged flag_on tid_of same_tid pool t;
  }

-- ---- the intentions of a work, with a test

abbrev pub on_intention : (StoredIntention → Bool) → Record → Bool
on_intention q (Intention v u k i) = q i
on_intention q _ = false

abbrev between : (StoredIntention → Bool) → WorkId → ℕ → ℕ → Record → Bool
between q w order n (Intention v u k i) = work_eq v w && ((nat_le order k && nat_lt k (order + n)) && q i)
between q w order n _ = false

abbrev at_order : (StoredIntention → Bool) → WorkId → ℕ → Record → Bool
at_order q w order r = is_intention w order r && on_intention q r

module _ (pool : List Record) (w : WorkId) (q : StoredIntention → Bool) where
  step : (order n : ℕ) (r : Record) → one (between q w order (suc n) r) ≡ one (at_order q w order r) + one (between q w (suc order) n r)
  step order n Free = refl
  step order n (Intention v u k i) = by (work_eq v w) (q i)
    where
      by : (a b : Bool) → one (a && ((nat_le order k && nat_lt k (order + suc n)) && b)) ≡ one ((a && nat_eq k order) && b) + one (a && ((nat_le (suc order) k && nat_lt k (suc order + n)) && b))
      by true true = grind (arith, nat_tests)
      by true false = grind (arith, nat_tests)
      by false b = refl
  step order n (Ready head m reads) = refl
  step order n (Going head m reads) = refl
  step order n (FlagRecord f) = refl

  none_between : (order : ℕ) (r : Record) → between q w order 0 r ≡ false
  none_between order Free = refl
  none_between order (Intention v u k i) = by (work_eq v w) (q i)
    where
      by : (a b : Bool) → (a && ((nat_le order k && nat_lt k (order + 0)) && b)) ≡ false
      by true b = grind (arith, nat_tests)
      by false b = refl
  none_between order (Ready head m reads) = refl
  none_between order (Going head m reads) = refl
  none_between order (FlagRecord f) = refl

  count_at : (order : ℕ) → is_some (intention_of pool w order) ≡ true → PassesOnce (λ i. is_intention w order (record_in pool i)) → (s : StoredIntention) → intention_of pool w order ≡ Some s → count_by (at_order q w order) pool ≡ one (q s)
  count_at order some once s e = by (find (is_intention w order) pool) refl e
    where
      by : (o : Option Record) → find (is_intention w order) pool ≡ o → option_and_then stored_in o ≡ Some s → count_by (at_order q w order) pool ≡ one (q s)
      by None h e = absurd (cc e)
      by (Some r) h e = passes (q s) refl
        where
          at : (j : ℕ) × (j < length pool) × (record_in pool j ≡ r) × (is_intention w order (record_in pool j) ≡ true)
          at = found_at Free (is_intention w order) pool r h

          tested : (r : Record) → stored_in r ≡ Some s → on_intention q r ≡ q s
          tested Free e = absurd (cc e)
          tested (Intention v u k i) e = ap q (cc e)
          tested (Ready head m reads) e = absurd (cc e)
          tested (Going head m reads) e = absurd (cc e)
          tested (FlagRecord f) e = absurd (cc e)

          test_at : on_intention q (record_in pool at.0) ≡ q s
          test_at = ap (on_intention q) at.2 ∙ tested r e

          first : (a b : Bool) → (a && b) ≡ true → a ≡ true
          first true b h = refl
          first false b h = absurd (true≢false (sym h))

          passes : (b : Bool) → q s ≡ b → count_by (at_order q w order) pool ≡ one b
          passes true t = one_counts Free (at_order q w order) pool at.0 at.1 (let a = at.3 in let b = test_at in grind (arith, a, b, t))
              (λ j h. once j at.0 (first (is_intention w order (record_in pool j)) (on_intention q (record_in pool j)) h) at.3)
          passes false t = none_counts Free (at_order q w order) pool (λ j. none j (is_intention w order (record_in pool j)) refl)
            where
              none : (j : ℕ) (a : Bool) → is_intention w order (record_in pool j) ≡ a → (a && on_intention q (record_in pool j)) ≡ false
              none j true h = subst (λ k. on_intention q (record_in pool k) ≡ false) (sym (once j at.0 h at.3)) (test_at ∙ t)
              none j false h = refl

  counts_from : (order n : ℕ) → ((k : ℕ) → order ≤ k → k < order + n → is_some (intention_of pool w k) ≡ true) → ((k : ℕ) → PassesOnce (λ i. is_intention w k (record_in pool i)))
      → count_by q (intentions_from pool w order n) ≡ count_by (between q w order n) pool
  counts_from order zero all once = sym (none_counts Free (between q w order 0) pool (λ j. none_between order (record_in pool j)))
  counts_from order (suc n) all once =
      let more = counts_plus (at_order q w order) (between q w (suc order) n) (between q w order (suc n)) (step order n) pool in
      let again = counts_from (suc order) n (λ k low high. all k (omega (arith, low)) (omega (arith, high))) once in
      by (intention_of pool w order) refl (all order (omega arith) (omega arith)) more again
    where
      by : (o : Option StoredIntention) → intention_of pool w order ≡ o → is_some o ≡ true → count_by (between q w order (suc n)) pool ≡ count_by (at_order q w order) pool + count_by (between q w (suc order) n) pool
          → count_by q (intentions_from pool w (suc order) n) ≡ count_by (between q w (suc order) n) pool → count_by q (with_first o (intentions_from pool w (suc order) n)) ≡ count_by (between q w order (suc n)) pool
      by None e some more again = absurd (true≢false (sym some))
      by (Some s) e some more again =
          let here = count_at order (ap is_some e) (once order) s e in
          let first = sum_by-cons (λ (i : StoredIntention). if q i then 1 else 0) s (intentions_from pool w (suc order) n) in
          omega (arith, here, first, more, again)

  pub counts_listed : (n : ℕ) → HasIntentions pool w n → count_by q (stored_list pool w n) ≡ count_by (λ r. intends_for w r && on_intention q r) pool
  counts_listed n has = counts_from 0 n (λ k low high. has.all k (omega (arith, high))) has.once ∙ same_counts Free (between q w 0 n) (λ r. intends_for w r && on_intention q r) pool (λ j. by (record_in pool j) (λ order t. has.no_more order j t))
    where
      by : (r : Record) → ((order : ℕ) → is_intention w order r ≡ true → order < n) → between q w 0 n r ≡ (intends_for w r && on_intention q r)
      by Free less = refl
      by (Intention v u k i) less = own (work_eq v w) refl
        where
          own : (b : Bool) → work_eq v w ≡ b → (b && ((nat_le 0 k && nat_lt k (0 + n)) && q i)) ≡ (b && q i)
          own true e = let lt = less k (grind (arith, nat_tests, e)) in grind (arith, nat_tests, lt)
          own false e = refl
      by (Ready head m reads) less = refl
      by (Going head m reads) less = refl
      by (FlagRecord f) less = refl

-- ---- a pool without rubbish

module _ (g : Counts) (c : Contents) (consistent : IsConsistent g c) (none_left : rubbish_in c.pool c.pool ≡ []) where
  names_differ : are_different work_eq (collected named c.pool) ≡ true
  names_differ = keys_differ named work_eq work_tells is_prepared link_named Free c.pool consistent.distinct.works

  pub works_listed : IsListing work_eq (λ w. is_some ((state_in c).works w)) (collected named c.pool)
  works_listed = record {
    different = names_differ;
    all = λ w. keys_in named work_eq work_tells is_prepared link_named w c.pool ∙ any_found (is_prepared w) Free c.pool ∙ by w (find (is_prepared w) c.pool) (λ r e. found_passes (is_prepared w) Free c.pool r e);
  }
    where
      by : (w : WorkId) (o : Option Record) → ((r : Record) → o ≡ Some r → is_prepared w r ≡ true) → is_some o ≡ is_some (prepared_by c.pool c.blocks w o)
      by w None is = refl
      by w (Some Free) is = sym (is Free refl)
      by w (Some (Intention v u k i)) is = sym (is (Intention v u k i) refl)
      by w (Some (Ready head n reads)) is = refl
      by w (Some (Going head n reads)) is = refl
      by w (Some (FlagRecord f)) is = sym (is (FlagRecord f) refl)

  pub flags_listed : IsListing tid_eq (λ t. is_some ((state_in c).flags t)) (collected flagged c.pool)
  flags_listed = record {
    different = keys_differ flagged tid_eq tid_tells is_flag link_flagged Free c.pool consistent.distinct.flags;
    all = λ t. keys_in flagged tid_eq tid_tells is_flag link_flagged t c.pool ∙ any_found (is_flag t) Free c.pool ∙ by t (find (is_flag t) c.pool) (λ r e. found_passes (is_flag t) Free c.pool r e);
  }
    where
      by : (t : Tid) (o : Option Record) → ((r : Record) → o ≡ Some r → is_flag t r ≡ true) → is_some o ≡ is_some (flag_by o)
      by t None is = refl
      by t (Some Free) is = sym (is Free refl)
      by t (Some (Intention v u k i)) is = sym (is (Intention v u k i) refl)
      by t (Some (Ready head n reads)) is = sym (is (Ready head n reads) refl)
      by t (Some (Going head n reads)) is = sym (is (Going head n reads) refl)
      by t (Some (FlagRecord f)) is = refl

  -- each intention is of a prepared work
  no_rubbish_at : (j : ℕ) → is_rubbish c.pool (record_in c.pool j) ≡ false
  no_rubbish_at j = none_at (is_rubbish c.pool) Free c.pool j refl (by (list_any (is_rubbish c.pool) c.pool) refl)
    where
      by : (b : Bool) → list_any (is_rubbish c.pool) c.pool ≡ b → b ≡ false
      by true e =
          let at = passes_at (is_rubbish c.pool) Free c.pool e in
          let some = rubbish_length c.pool c.pool in
          let zero_is = ap (λ (l : List WorkId). length l) none_left in
          absurd (positive c.pool at.0 at.1 (sym some ∙ zero_is))
        where
          positive : (rs : List Record) (i : ℕ) → is_rubbish c.pool (record_in rs i) ≡ true → count_by (is_rubbish c.pool) rs ≡ 0 → ⊥
          positive [] i t e = true≢false (sym t)
          positive (r ∷ rs) zero t e = let more = sum_by-cons (λ r. if is_rubbish c.pool r then 1 else 0) r rs in let h = ap one t in omega (arith, more, e, h)
          positive (r ∷ rs) (suc i) t e = let more = sum_by-cons (λ r. if is_rubbish c.pool r then 1 else 0) r rs in positive rs i t (omega (arith, more, e))
      by false e = refl

  pub prepared_for : (j : ℕ) (w : WorkId) (u : Tid) (k : ℕ) (s : StoredIntention) → record_in c.pool j ≡ Intention w u k s → list_any (is_prepared w) c.pool ≡ true
  prepared_for j w u k s e = by (list_any (is_prepared w) c.pool) (sym (ap (is_rubbish c.pool) e) ∙ no_rubbish_at j)
    where
      by : (b : Bool) → not b ≡ false → b ≡ true
      by true h = refl
      by false h = absurd (true≢false h)

  -- the pages that the works name are those that the records name
  pub works_name_is : (a : ℕ) → works_name c.pool (suc a) ≡ list_any (record_names a) c.pool
  works_name_is a = all c.pool (λ j. by j (record_in c.pool j) refl)
    where
      all : (rs : List Record) → ((j : ℕ) → holds_intention (names_address (suc a)) c.pool (record_in rs j) ≡ record_names a (record_in rs j)) → list_any (holds_intention (names_address (suc a)) c.pool) rs ≡ list_any (record_names a) rs
      all [] same = refl
      all (r ∷ rs) same = ap (λ b. b || list_any (holds_intention (names_address (suc a)) c.pool) rs) (same 0) ∙ ap (λ b. record_names a r || b) (all rs (λ j. same (suc j)))

      by : (j : ℕ) (r : Record) → record_in c.pool j ≡ r → holds_intention (names_address (suc a)) c.pool r ≡ record_names a r
      by j Free e = refl
      by j (Intention v u k i) e = ap (λ b. names_address (suc a) i && b) (prepared_for j v u k i e) ∙ same (names_address (suc a) i)
        where
          same : (b : Bool) → (b && true) ≡ b
          same true = refl
          same false = refl
      by j (Ready head n reads) e = refl
      by j (Going head n reads) e = refl
      by j (FlagRecord f) e = refl

  -- ---- the work of a record

  pub record IsPreparedAt (j : ℕ) (w : WorkId) : Type 0 where
    pub count : ℕ
    pub has : HasIntentions c.pool w count
    pub list : list_of (state_in c) w ≡ map (intended c.blocks) (stored_list c.pool w count)
    pub state : WorkState
    pub found : find_by work_eq name_of (works_on c.pool) w ≡ Some state
    pub listed : state.list ≡ stored_list c.pool w count
    pub state_is : state_on c.pool (record_in c.pool j) ≡ Some state

  pub prepared_at : (j : ℕ) (w : WorkId) → named (record_in c.pool j) ≡ Some w → IsPreparedAt j w
  prepared_at j w e = by (record_in c.pool j) refl e
    where
      found_here : (r : Record) → record_in c.pool j ≡ r → is_prepared w r ≡ true → find (is_prepared w) c.pool ≡ Some r
      found_here r h t = found_once (is_prepared w) Free c.pool j refl (λ i s. consistent.distinct.works w i j s (ap (is_prepared w) h ∙ t)) ∙ ap (λ b. if b then Some (record_in c.pool j) else None) (ap (is_prepared w) h ∙ t) ∙ ap (λ (r : Record). Some r) h

      work_found : (r : Record) → record_in c.pool j ≡ r → is_prepared w r ≡ true → find_by work_eq name_of (works_on c.pool) w ≡ state_on c.pool r
      work_found r h t = found_by named work_eq work_tells is_prepared link_named (state_on c.pool) name_of (same_name c.pool) c.pool w ∙ ap (option_and_then (state_on c.pool)) (found_here r h t)

      own : (v : WorkId) → v ≡ w → work_eq v w ≡ true
      own v e = let t = work_tells v w in grind (arith, e)

      some_is : {A : Type 0} {a b : A} → Some a ≡ Some b → a ≡ b
      some_is e = cc e

      by : (r : Record) → record_in c.pool j ≡ r → named r ≡ Some w → IsPreparedAt j w
      by Free h e = absurd (cc e)
      by (Intention v u k i) h e = absurd (cc e)
      by (Ready head n reads) h e = record {
        count = n;
        has = subst (λ v. HasIntentions c.pool v n) (some_is e) (subst (IsCompleteBy c.pool) h (consistent.complete j));
        list = ap (λ o. intentions_of (prepared_by c.pool c.blocks w o)) (found_here (Ready head n reads) h (own head.work (some_is e)));
        state = record { head = head; list = stored_list c.pool head.work n; reads = reads; going = false; next = 0 };
        found = work_found (Ready head n reads) h (own head.work (some_is e));
        listed = ap (λ v. stored_list c.pool v n) (some_is e);
        state_is = ap (state_on c.pool) h;
      }
      by (Going head n reads) h e = record {
        count = n;
        has = subst (λ v. HasIntentions c.pool v n) (some_is e) (subst (IsCompleteBy c.pool) h (consistent.complete j));
        list = ap (λ o. intentions_of (prepared_by c.pool c.blocks w o)) (found_here (Going head n reads) h (own head.work (some_is e)));
        state = record { head = head; list = stored_list c.pool head.work n; reads = reads; going = true; next = 0 };
        found = work_found (Going head n reads) h (own head.work (some_is e));
        listed = ap (λ v. stored_list c.pool v n) (some_is e);
        state_is = ap (state_on c.pool) h;
      }
      by (FlagRecord f) h e = absurd (cc e)

  -- ---- the records

  -- of each intention its work is listed once
  of_works : (j : ℕ) (b : Bool) (v : WorkId) (u : Tid) (k : ℕ) (i : StoredIntention) → record_in c.pool j ≡ Intention v u k i → total (λ w. one (work_eq v w && b)) (collected named c.pool) ≡ one b
  of_works j true v u k i e = total_same v (λ w. one (work_eq v w && true)) (λ w. one (work_eq v w)) (collected named c.pool) (λ i. ap one (same (work_eq v (get_or (collected named c.pool) i v))))
      ∙ in_once work_eq work_tells v (collected named c.pool) names_differ (keys_in named work_eq work_tells is_prepared link_named v c.pool ∙ prepared_for j v u k i e)
    where
      same : (b : Bool) → (b && true) ≡ b
      same true = refl
      same false = refl
  of_works j false v u k i e = total_same v (λ w. one (work_eq v w && false)) (λ w. 0) (collected named c.pool) (λ i. ap one (none (work_eq v (get_or (collected named c.pool) i v)))) ∙ total_none (collected named c.pool)
    where
      none : (b : Bool) → (b && false) ≡ false
      none true = refl
      none false = refl

  -- what passes a test of the intentions of works is counted over the records
  pub tested_intentions : (q : StoredIntention → Bool) → total (λ w. count_by (λ r. intends_for w r && on_intention q r) c.pool) (collected named c.pool) ≡ total (λ r. one (on_intention q r)) c.pool
  tested_intentions q =
      total_same (record { server = record { 0 = 0 }; epoch = 0; ticket = 0 }) (λ w. count_by (λ r. intends_for w r && on_intention q r) c.pool) (λ w. total (λ r. one (intends_for w r && on_intention q r)) c.pool) (collected named c.pool)
      (λ i. count_total (λ r. intends_for (get_or (collected named c.pool) i (record { server = record { 0 = 0 }; epoch = 0; ticket = 0 })) r && on_intention q r) c.pool)
      ∙ swapped (λ w r. one (intends_for w r && on_intention q r)) (collected named c.pool) c.pool
      ∙ total_same Free (λ r. total (λ w. one (intends_for w r && on_intention q r)) (collected named c.pool)) (λ r. one (on_intention q r)) c.pool (λ j. by j (record_in c.pool j) refl)
    where
      by : (j : ℕ) (r : Record) → record_in c.pool j ≡ r → total (λ w. one (intends_for w r && on_intention q r)) (collected named c.pool) ≡ one (on_intention q r)
      by j Free e = total_none (collected named c.pool)
      by j (Intention v u k i) e = of_works j (q i) v u k i e
      by j (Ready head n reads) e = total_none (collected named c.pool)
      by j (Going head n reads) e = total_none (collected named c.pool)
      by j (FlagRecord f) e = total_none (collected named c.pool)

  list_length : (j : ℕ) (w : WorkId) (at : IsPreparedAt j w) → length (list_of (state_in c) w) ≡ count_by (λ r. intends_for w r && on_intention (λ i. true) r) c.pool
  list_length j w at = ap (λ l. length l) at.list ∙ length-map (stored_list c.pool w at.count) (intended c.blocks) ∙ listed_length c.pool w 0 at.count (λ k low high. at.has.all k (omega (arith, high)))
      ∙ sym (work_count c.pool w at.count at.has) ∙ same_counts Free (intends_for w) (λ r. intends_for w r && on_intention (λ i. true) r) c.pool (λ j. by (record_in c.pool j))
    where
      by : (r : Record) → intends_for w r ≡ (intends_for w r && on_intention (λ i. true) r)
      by Free = refl
      by (Intention v u k i) = same (work_eq v w)
        where
          same : (b : Bool) → b ≡ (b && true)
          same true = refl
          same false = refl
      by (Ready head n reads) = refl
      by (Going head n reads) = refl
      by (FlagRecord f) = refl

  pub records_counted : free_count c.pool + length (collected flagged c.pool) + length (collected named c.pool) + total (λ w. length (list_of (state_in c) w)) (collected named c.pool) ≡ length c.pool
  records_counted =
      let frees = count_total is_free c.pool in
      let flags = keys_length flagged c.pool in
      let works = keys_length named c.pool in
      let lists = keys_same named Free (λ w. length (list_of (state_in c) w)) (λ w. count_by (λ r. intends_for w r && on_intention (λ i. true) r) c.pool) c.pool (λ j w e. list_length j w (prepared_at j w e)) ∙ tested_intentions (λ i. true) in
      let one_two = total_plus (λ r. one (is_free r)) (λ r. on_key (λ k. 1) (flagged r)) (λ r. one (is_free r) + on_key (λ k. 1) (flagged r)) (λ r. refl) c.pool in
      let three = total_plus (λ r. one (is_free r) + on_key (λ k. 1) (flagged r)) (λ r. on_key (λ k. 1) (named r)) (λ r. one (is_free r) + on_key (λ k. 1) (flagged r) + on_key (λ k. 1) (named r)) (λ r. refl) c.pool in
      let four = total_plus (λ r. one (is_free r) + on_key (λ k. 1) (flagged r) + on_key (λ k. 1) (named r)) (λ r. one (on_intention (λ i. true) r)) (λ r. 1) each c.pool in
      let all = total_ones c.pool in
      omega (arith, frees, flags, works, lists, one_two, three, four, all)
    where
      each : (r : Record) → 1 ≡ (one (is_free r) + on_key (λ k. 1) (flagged r) + on_key (λ k. 1) (named r)) + one (on_intention (λ i. true) r)
      each Free = refl
      each (Intention v u k i) = refl
      each (Ready head n reads) = refl
      each (Going head n reads) = refl
      each (FlagRecord f) = refl
