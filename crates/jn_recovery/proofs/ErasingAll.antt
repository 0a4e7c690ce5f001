-- Rubbish is erased, record by record.
use Rattle.jn_recovery.proofs.Common.{◌≡◌, ⊎_elim, ◌<◌, ◌≤◌, ◌+◌, ℕ, Bool, true, false, List, [], ◌∷◌, length, Option, Some, None, Result, Ok, Err, refl, sym, ◌∙◌, ap, subst, true≢false, arith, cases_eq, count_by-le-length, is_ok, IfOk, OnErr, position, slice_set, ServerNo, WorkId, RecordPut, IsStanding, IsPutStep, MakesNothing, standing_state, idles, Head, Record, Free, Counts, data_place, slot_page, is_rubbish, Puts, StoreView, IsClean, later_refl, later_trans, same_refl, same_trans, only_clean, stop_since, rubbish_in, Erases, EraseStopped, ErasesAll, KeepsAllData, supplied_on}
use Rattle.jn_base.specs.declared.device.Stopped.{Stopped}
use Rattle.jn_recovery.proofs.CleanBehind.{erased_behind}
use Rattle.jn_recovery.proofs.Erasing.{rubbish_length, no_rubbish, rubbish_there, rubbish_idle, rubbish_less}
use Rattle.jn_recovery.proofs.FlagCalls.{none_any, free_record}
use Rattle.jn_recovery.proofs.Pool.{none_position, step_of, idle_work}
use Rattle.jn_recovery.proofs.Standing.{up as stands_up}
use Rattle.jn_recovery.proofs.Supplies.{supplied_same}

module _ (server : ServerNo) (g : Counts) (v : StoreView) (epoch : ℕ) (heads : List Head) (maps : List (List ℕ)) (first : List Record) where
  pub erases_none : IsStanding server g v epoch first heads maps → Erases server g v epoch heads maps 0 first first v
  erases_none standing = record {
    later = later_refl v;
    calls = omega arith;
    stops = refl;
    power = λ p. p;
    standing = standing;
    supplied = refl;
    unchanged = stands_up server g v epoch first heads maps standing;
    root = same_refl v 0;
    clean = λ i lt is. is;
    data_pages = λ d lt. same_refl v (data_place g d);
  }

  pub erases_all : (n : ℕ) (records : List Record) (w : StoreView) → n ≤ length records → rubbish_in records records ≡ [] → Erases server g v epoch heads maps n first records w → ErasesAll server g v epoch heads maps first records w
  erases_all n records w fits none e = record {
    erases = record {
      later = e.later;
      calls = let c = e.calls in let size = e.standing.held.slots in omega (arith, c, fits, size);
      stops = e.stops;
      power = e.power;
      standing = e.standing;
      supplied = e.supplied;
      unchanged = e.unchanged;
      root = e.root;
      clean = e.clean;
      data_pages = e.data_pages;
    };
    none_left = none;
  }

  module _ (n : ℕ) (pool : List Record) (u : StoreView) (before : Erases server g v epoch heads maps n first pool u) (slot : ℕ) (at : position (is_rubbish pool) pool ≡ Some slot) (ok : Bool) (new : List Record) (w : StoreView) (puts : Puts pool u slot Free ok new w) where
    step : IsPutStep server g u (RecordPut slot Free) ok w
    step = step_of server g u slot Free ok w (subst (λ n. slot < n) before.standing.held.slots (rubbish_there pool slot at)) free_record puts.put

    makes : MakesNothing server g u epoch pool heads maps (RecordPut slot Free) ok w
    makes = idles server g u w epoch pool heads maps ok before.standing slot Free step (rubbish_idle pool slot at)

    -- a record's page is no data page
    kept : KeepsAllData g v w
    kept d lt = same_trans v u w (data_place g d) (before.data_pages d lt)
        (let there = rubbish_there pool slot at in let size = before.standing.held.slots in let count = before.standing.held.count in puts.put.others (data_place g d) (omega (arith, count, lt)) (λ e. omega (arith, e, there, size)))

    same_state : standing_state g u ≡ standing_state g v
    same_state = before.unchanged (λ n. false)

    pub erases_more : ok ≡ true → Erases server g v epoch heads maps (n + 1) first new w
    erases_more done = record {
      later = later_trans v u w before.later puts.put.later;
      calls = let a = before.calls in let b = puts.put.calls in omega (arith, a, b);
      stops = (puts.put.served done).stops ∙ before.stops;
      power = λ p. (puts.put.served done).power;
      standing = subst (λ r. IsStanding server g w epoch r heads maps) (sym (puts.done done)) (makes.standing done);
      supplied = ap supplied_on (puts.done done) ∙ supplied_same (slice_set pool slot Free) pool (idle_work pool slot Free (rubbish_idle pool slot at)) ∙ before.supplied;
      unchanged = λ c. makes.unchanged c ∙ same_state;
      root = same_trans v u w 0 before.root (let count = before.standing.held.count in puts.put.others 0 (omega (arith, count)) (λ e. omega (arith, e)));
      clean = λ i lt is. ⊎_elim
          (λ e. subst (IsClean w) (sym e) (only_clean w (slot_page slot) _ (puts.put.done done)))
          (λ ne. let same = puts.put.others i (subst (λ k. i < k) (sym before.later.count) lt) ne in same.first ∙ before.clean i lt is ∙ sym same.second)
          (cases_eq i (slot_page slot));
      data_pages = kept;
    }

    pub erase_stopped : ok ≡ false → n < g.pool → EraseStopped server g v g.pool w
    erase_stopped bad lt = record {
      later = later_trans v u w before.later puts.put.later;
      calls = let a = before.calls in let b = puts.put.calls in omega (arith, a, b, lt);
      stop = stop_since v u w before.later puts.put.later (puts.put.stop bad);
      recoverable = makes.recoverable;
      unchanged = λ c. makes.unchanged c ∙ same_state;
      clean = erased_behind server g u epoch pool heads maps before.standing slot (rubbish_idle pool slot at) ok w step;
      data_pages = kept;
    }

-- ---- by what the code answers

module _ (pool : List Record) (u : StoreView) (answer : Result Bool Stopped) (new : List Record) (w : StoreView)
    (none : position (is_rubbish pool) pool ≡ None → (answer ≡ Ok false) × (new ≡ pool) × (w ≡ u))
    (erased : (slot : ℕ) → position (is_rubbish pool) pool ≡ Some slot → IfOk answer (λ b. b ≡ true) × Puts pool u slot Free (is_ok answer) new w) where
  -- one was erased, or the erasure stopped
  pub one_erased : (answer ≡ Ok false → ⊥) → (slot : ℕ) × (position (is_rubbish pool) pool ≡ Some slot) × Puts pool u slot Free (is_ok answer) new w
  one_erased went = by (position (is_rubbish pool) pool) refl
    where
      by : (o : Option ℕ) → position (is_rubbish pool) pool ≡ o → (slot : ℕ) × (position (is_rubbish pool) pool ≡ Some slot) × Puts pool u slot Free (is_ok answer) new w
      by None e = absurd (went (none e).0)
      by (Some slot) e = (slot, e, (erased slot e).1)

  pub fewer_left : (slot : ℕ) → position (is_rubbish pool) pool ≡ Some slot → new ≡ slice_set pool slot Free → length (rubbish_in new new) + 1 ≡ length (rubbish_in pool pool)
  fewer_left slot at e = subst (λ r. length (rubbish_in r r) + 1 ≡ length (rubbish_in pool pool)) (sym e) (rubbish_less pool slot at)

  pub none_left : answer ≡ Ok false → (rubbish_in new new ≡ []) × (new ≡ pool) × (w ≡ u)
  none_left end = by (position (is_rubbish pool) pool) refl
    where
      by : (o : Option ℕ) → position (is_rubbish pool) pool ≡ o → (rubbish_in new new ≡ []) × (new ≡ pool) × (w ≡ u)
      by None e = let at = none e in (subst (λ r. rubbish_in r r ≡ []) (sym at.1) (no_rubbish pool pool (none_any (is_rubbish pool) pool (none_position (is_rubbish pool) pool e))), at.1, at.2)
      by (Some slot) e = absurd (true≢false (sym (is_true answer (erased slot e).0 end)))
        where
          is_true : (a : Result Bool Stopped) → IfOk a (λ b. b ≡ true) → a ≡ Ok false → false ≡ true
          is_true (Ok b) h e = cc (e, h)
          is_true (Err x) h e = absurd (cc e)

pub nothing_left : (l : List WorkId) (n : ℕ) → length l + n ≤ n → l ≡ []
nothing_left [] n h = refl
nothing_left (x ∷ l) n h = absurd (omega (arith, h))

pub few_rubbish : (pool : List Record) → length (rubbish_in pool pool) + 0 ≤ length pool
few_rubbish pool = let e = rubbish_length pool pool in let h = count_by-le-length (is_rubbish pool) pool in omega (arith, e, h)

pub on_err_all : {X E : Type 0} (r : Result X E) (P : Type 0) → P → OnErr r P
on_err_all (Ok x) P h = tt
on_err_all (Err x) P h = h

pub not_ok_is : {A E : Type 0} (r : Result A E) (x : A) → is_ok r ≡ false → r ≡ Ok x → ⊥
not_ok_is r x h e = cc (sym h ∙ ap is_ok e)
