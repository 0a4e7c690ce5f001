-- A record that counts for nothing is erased.
use Rattle.jn_recovery.proofs.Common.{◌≡◌, ◌⊎◌, inl, inr, ⊎_elim, ◌<◌, ◌+◌, ℕ, zero, suc, Bool, true, false, not, ◌||◌, if◌then◌else◌, List, [], ◌∷◌, ◌++◌, length, Option, Some, None, refl, sym, ◌∙◌, ap, subst, true≢false, arith, length-append, sum_by-set, sum_by-cons, is_ok, IfOk, Result, Ok, Err, position, slice_set, count_by, list_any, Tid, WorkId, work_eq, IsIdlePut, found_on, RecordPut, IsRecoverable, MakesNothing, idles, StoredIntention, Record, Free, Intention, Ready, Going, FlagRecord, record_page, record_in, slot_page, is_free, is_prepared, is_flag, is_rubbish, Puts, is_in, IsServing, state, Called, RecordErased, CountsErased, StoreView, Memory, accounts_of, view_of, rubbish_of, rubbish_in, Matches, IsKeptMemory, holds_intention, names_address, same_only}
use Rattle.std.proofs.Common.{◌&&◌}
use Rattle.jn_base.specs.declared.device.Stopped.{Stopped}
use Rattle.jn_storage.proofs.Laws.{called_not}
use Rattle.jn_recovery.proofs.FlagCalls.{none_any, free_record}
use Rattle.jn_recovery.proofs.Pool.{position_at, none_position, step_of, free_less, names_kept, rubbish_moves, idle_works, flags_stay}
use Rattle.jn_recovery.proofs.Serving.{serves_of, serving_by, called_put}
use Rattle.jn_recovery.proofs.WorkStates.{serves_erased}

-- ---- rubbish, record by record

pub rubbish_one : (pool : List Record) (r : Record) → length (rubbish_of pool r) ≡ (if is_rubbish pool r then 1 else 0)
rubbish_one pool Free = refl
rubbish_one pool (Intention w u k i) = by (list_any (is_prepared w) pool)
  where
    by : (b : Bool) → length (if b then [] else w ∷ []) ≡ (if not b then 1 else 0)
    by true = refl
    by false = refl
rubbish_one pool (Ready head n reads) = refl
rubbish_one pool (Going head n reads) = refl
rubbish_one pool (FlagRecord f) = refl

pub rubbish_length : (pool rs : List Record) → length (rubbish_in pool rs) ≡ count_by (is_rubbish pool) rs
rubbish_length pool [] = refl
rubbish_length pool (r ∷ rs) =
    let again = rubbish_length pool rs in let one = rubbish_one pool r in let both = length-append (rubbish_of pool r) (rubbish_in pool rs) in let more = sum_by-cons (λ r. if is_rubbish pool r then 1 else 0) r rs in
    both ∙ (let e : length (rubbish_of pool r) + length (rubbish_in pool rs) ≡ count_by (is_rubbish pool) (r ∷ rs) = omega (arith, again, one, more) in e)

pub no_rubbish : (pool rs : List Record) → list_any (is_rubbish pool) rs ≡ false → rubbish_in pool rs ≡ []
no_rubbish pool [] h = refl
no_rubbish pool (r ∷ rs) h = by (is_rubbish pool r) refl (no_rubbish pool rs) h
  where
    nothing : (l : List WorkId) → length l ≡ 0 → l ≡ []
    nothing [] e = refl
    nothing (x ∷ l) e = absurd (omega (arith, e))

    by : (b : Bool) → is_rubbish pool r ≡ b → (list_any (is_rubbish pool) rs ≡ false → rubbish_in pool rs ≡ []) → (b || list_any (is_rubbish pool) rs) ≡ false → (rubbish_of pool r ++ rubbish_in pool rs) ≡ []
    by true e rest h = absurd (true≢false h)
    by false e rest h = ap (λ l. l ++ rubbish_in pool rs) (nothing (rubbish_of pool r) (rubbish_one pool r ∙ ap (λ b. if b then 1 else 0) e)) ∙ rest h

pub in_both : (n : WorkId) (xs ys : List WorkId) → is_in work_eq n (xs ++ ys) ≡ (is_in work_eq n xs || is_in work_eq n ys)
in_both n [] ys = refl
in_both n (x ∷ xs) ys = let again = in_both n xs ys in grind arith

-- an erased record names no work
pub rubbish_fewer : (pool rs : List Record) (slot : ℕ) (n : WorkId) → is_in work_eq n (rubbish_in pool (slice_set rs slot Free)) ≡ true → is_in work_eq n (rubbish_in pool rs) ≡ true
rubbish_fewer pool [] slot n h = h
rubbish_fewer pool (r ∷ rs) zero n h = let at = in_both n (rubbish_of pool r) (rubbish_in pool rs) in grind (arith, h)
rubbish_fewer pool (r ∷ rs) (suc slot) n h =
    let again = rubbish_fewer pool rs slot n in let at = in_both n (rubbish_of pool r) (rubbish_in pool rs) in let before = in_both n (rubbish_of pool r) (rubbish_in pool (slice_set rs slot Free)) in grind (arith, h)

-- a rubbish record is an intention of a work that isn't prepared
pub record IsRubbishOf (pool : List Record) (r : Record) : Type 0 where
  pub work : WorkId
  pub tid : Tid
  pub order : ℕ
  pub intention : StoredIntention
  pub is : r ≡ Intention work tid order intention
  pub alone : list_any (is_prepared work) pool ≡ false

pub rubbish_is : (pool : List Record) (r : Record) → is_rubbish pool r ≡ true → IsRubbishOf pool r
rubbish_is pool Free h = absurd (true≢false (sym h))
rubbish_is pool (Intention w u k i) h = record { work = w; tid = u; order = k; intention = i; is = refl; alone = by (list_any (is_prepared w) pool) h }
  where
    by : (b : Bool) → not b ≡ true → b ≡ false
    by true h = absurd (true≢false (sym h))
    by false h = refl
rubbish_is pool (Ready head n reads) h = absurd (true≢false (sym h))
rubbish_is pool (Going head n reads) h = absurd (true≢false (sym h))
rubbish_is pool (FlagRecord f) h = absurd (true≢false (sym h))

-- ---- the first rubbish record is erased

module _ (pool : List Record) (slot : ℕ) (at : position (is_rubbish pool) pool ≡ Some slot) where
  pub rubbish_there : slot < length pool
  rubbish_there = (position_at (is_rubbish pool) pool Free slot at).0

  stands : is_rubbish pool (record_in pool slot) ≡ true
  stands = (position_at (is_rubbish pool) pool Free slot at).1

  pub its_rubbish : IsRubbishOf pool (record_in pool slot)
  its_rubbish = rubbish_is pool (record_in pool slot) stands

  pub rubbish_idle : IsIdlePut pool slot Free
  rubbish_idle = record { there = rubbish_there; old_idle = ap (λ b. is_free (record_in pool slot) || b) stands ∙ by (is_free (record_in pool slot)); new_idle = refl }
    where
      by : (b : Bool) → (b || true) ≡ true
      by true = refl
      by false = refl

  pub rubbish_less : length (rubbish_in (slice_set pool slot Free) (slice_set pool slot Free)) + 1 ≡ length (rubbish_in pool pool)
  rubbish_less =
      let moved = ap (λ (l : List WorkId). length l) (rubbish_moves pool slot Free (λ w. ap (is_prepared w) its_rubbish.is)) in
      let after = rubbish_length pool (slice_set pool slot Free) in
      let before = rubbish_length pool pool in
      let one = sum_by-set (λ r. if is_rubbish pool r then 1 else 0) pool slot Free Free rubbish_there in
      let here = ap {B = ℕ} (λ b. if b then 1 else 0) stands in
      omega (arith, moved, after, before, one, here)

-- ---- the call

abbrev pub without_record : Memory → ℕ → Memory
without_record m slot = record m { records = slice_set m.records slot Free }

module _ (m : Memory) (v : StoreView) (now : Matches m v) (serving : IsServing (view_of m v)) where
  pub none_erased : position (is_rubbish m.records) m.records ≡ None → RecordErased (view_of m v) (Ok false) (view_of m v)
  none_erased none = record {
    called = called_not (view_of m v) 16 serving;
    unchanged = serving.up;
    none = λ e. (refl, refl);
    one = λ some ok. absurd (some (no_rubbish m.records m.records (none_any (is_rubbish m.records) m.records (none_position (is_rubbish m.records) m.records none))));
  }

  module _ (slot : ℕ) (at : position (is_rubbish m.records) m.records ≡ Some slot) where
    there : slot < length m.records
    there = rubbish_there m.records slot at

    its : IsRubbishOf m.records (record_in m.records slot)
    its = its_rubbish m.records slot at

    idle_put : IsIdlePut m.records slot Free
    idle_put = rubbish_idle m.records slot at

    same_works : (w : WorkId) → is_prepared w (record_in m.records slot) ≡ is_prepared w Free
    same_works w = ap (is_prepared w) its.is

    pub counts : CountsErased (accounts_of m) (accounts_of (without_record m slot))
    counts = record {
      others = ap (λ k. record (accounts_of m) { free_records = k; rubbish = rubbish_in (slice_set m.records slot Free) (slice_set m.records slot Free) }) (free_less m.records slot there (ap is_free its.is));
      rubbish_less = rubbish_less m.records slot at;
      rubbish_names = λ n h. rubbish_fewer m.records m.records slot n (ap (is_in work_eq n) (sym (rubbish_moves m.records slot Free same_works)) ∙ h);
    }

    module _ (ok : Bool) (records : List Record) (w : StoreView) (puts : Puts m.records v slot Free ok records w) where
      makes : MakesNothing m.server m.table.counts v m.epoch m.records m.table.heads m.table.maps (RecordPut slot Free) ok w
      makes = idles m.server m.table.counts v w m.epoch m.records m.table.heads m.table.maps ok now.standing slot Free
          (step_of m.server m.table.counts v slot Free ok w (subst (λ n. slot < n) now.standing.held.slots there) free_record puts.put) idle_put

      pub erased_matches : ok ≡ true → Matches (without_record m slot) w
      erased_matches done = record {
        standing = makes.standing done;
        root = same_only v w 0 _ (puts.put.others 0 (let count = now.standing.held.count in omega (arith, count)) (λ e. omega (arith, e))) now.root;
        table = now.table;
        works = idle_works m.records slot Free idle_put m.works now.works;
        made = now.made;
        supplied = now.supplied;
        flags = flags_stay m.records slot Free m.flags (λ t. ap (is_flag t) its.is) (λ t. refl) now.flags;
        held = λ a. now.held a ∙ sym (names_kept m.records slot Free same_works (suc a) (unnamed (suc a)) refl);
      }
        where
          unnamed : (a : ℕ) → holds_intention (names_address a) m.records (record_in m.records slot) ≡ false
          unnamed a = ap (holds_intention (names_address a) m.records) its.is ∙ ap (λ b. names_address a its.intention && b) its.alone ∙ by (names_address a its.intention)
            where
              by : (b : Bool) → (b && false) ≡ false
              by true = refl
              by false = refl

      pub erased_done : (n : Memory) (answer : Result Bool Stopped) → is_ok answer ≡ ok → (ok ≡ true → (answer ≡ Ok true) × (n ≡ without_record m slot)) → (ok ≡ false → n ≡ m) → RecordErased (view_of m v) answer (view_of n w)
      erased_done n answer same done stopped = record {
        called = subst (λ b. Called (view_of m v) 16 b (view_of n w)) (sym same) (called_put m n v w (slot_page slot) (record_page Free) ok 16 (omega arith) (server ok refl) (counted ok refl) puts.put makes.recoverable served);
        unchanged = λ c. ap (λ g. found_on g w c) (counted ok refl) ∙ makes.unchanged c;
        none = λ e. absurd (let some = rubbish_length m.records m.records in let less = counts.rubbish_less in let zero_is = ap (λ (l : List WorkId). length l) e in omega (arith, some, less, zero_is));
        one = λ some is. let at = done (sym same ∙ is) in (at.0, subst (λ k. CountsErased (accounts_of m) (accounts_of k)) (sym at.1) counts);
      }
        where
          by : (b : Bool) → ok ≡ b → (n ≡ without_record m slot) ⊎ (n ≡ m)
          by true e = inl (done e).1
          by false e = inr (stopped e)

          server : (b : Bool) → ok ≡ b → n.server ≡ m.server
          server b e = ⊎_elim (λ h. ap (λ (k : Memory). k.server) h) (λ h. ap (λ (k : Memory). k.server) h) (by b e)

          counted : (b : Bool) → ok ≡ b → n.table.counts ≡ m.table.counts
          counted b e = ⊎_elim (λ h. ap (λ (k : Memory). k.table.counts) h) (λ h. ap (λ (k : Memory). k.table.counts) h) (by b e)

          served : ok ≡ true → IsServing (view_of n w)
          served e = subst (λ k. IsServing (view_of k w)) (sym (done e).1) (serving_by (without_record m slot) w (state (view_of m v)) makes.unchanged (puts.put.served e).power
              (serves_erased (state (view_of m v)) (accounts_of m) (accounts_of (without_record m slot)) counts (serves_of m v serving)))

-- ---- the same of what the code makes

module _ (m : Memory) (v : StoreView) (kept : IsKeptMemory m v) (serving : IsServing (view_of m v)) (answer : Result Bool Stopped) (records : List Record) (w : StoreView)
    (none : position (is_rubbish m.records) m.records ≡ None → (answer ≡ Ok false) × (records ≡ m.records) × (w ≡ v))
    (erased : (slot : ℕ) → position (is_rubbish m.records) m.records ≡ Some slot → IfOk answer (λ b. b ≡ true) × Puts m.records v slot Free (is_ok answer) records w) where
  ok_true : (a : Result Bool Stopped) → IfOk a (λ b. b ≡ true) → is_ok a ≡ true → a ≡ Ok true
  ok_true (Ok b) h e = ap (λ (b : Bool). Ok b) h
  ok_true (Err x) h e = absurd (cc e)

  pub erase_done : RecordErased (view_of m v) answer (view_of (record m { records = records }) w)
  erase_done = by (position (is_rubbish m.records) m.records) refl
    where
      by : (o : Option ℕ) → position (is_rubbish m.records) m.records ≡ o → RecordErased (view_of m v) answer (view_of (record m { records = records }) w)
      by None e = let at = none e in subst (λ a. RecordErased (view_of m v) a (view_of (record m { records = records }) w)) (sym at.0)
          (subst (λ r. RecordErased (view_of m v) (Ok false) (view_of (record m { records = r }) w)) (sym at.1)
          (subst (λ u. RecordErased (view_of m v) (Ok false) (view_of m u)) (sym at.2) (none_erased m v (kept serving.power) serving e)))
      by (Some slot) e = let at = erased slot e in erased_done m v (kept serving.power) serving slot e (is_ok answer) records w at.1 (record m { records = records }) answer refl
          (λ is. (ok_true answer at.0 is, ap (λ r. record m { records = r }) (at.1.done is))) (λ is. ap (λ r. record m { records = r }) (at.1.stopped is))

  pub erase_kept : IsKeptMemory (record m { records = records }) w
  erase_kept power = by (position (is_rubbish m.records) m.records) refl
    where
      by : (o : Option ℕ) → position (is_rubbish m.records) m.records ≡ o → Matches (record m { records = records }) w
      by None e = let at = none e in subst (λ r. Matches (record m { records = r }) w) (sym at.1) (subst (λ u. Matches m u) (sym at.2) (kept serving.power))
      by (Some slot) e = ok_or (is_ok answer) refl
        where
          ok_or : (b : Bool) → is_ok answer ≡ b → Matches (record m { records = records }) w
          ok_or true is = let at = erased slot e in subst (λ r. Matches (record m { records = r }) w) (sym (at.1.done is)) (erased_matches m v (kept serving.power) serving slot e (is_ok answer) records w at.1 is)
          ok_or false is = let at = erased slot e in absurd (true≢false (sym power ∙ (at.1.put.stop is).dark))

  pub erase_recovers : IsRecoverable m.server m.table.counts w
  erase_recovers = by (position (is_rubbish m.records) m.records) refl
    where
      by : (o : Option ℕ) → position (is_rubbish m.records) m.records ≡ o → IsRecoverable m.server m.table.counts w
      by None e = subst (IsRecoverable m.server m.table.counts) (sym (none e).2) (kept serving.power).standing.recoverable
      by (Some slot) e = (makes m v (kept serving.power) serving slot e (is_ok answer) records w (erased slot e).1).recoverable
