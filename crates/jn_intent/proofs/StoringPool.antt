-- The records of a work that is being prepared: intentions that count for nothing, and then its ready record.
use Rattle.jn_intent.proofs.Common.{◌≡◌, ◌<◌, ℕ, zero, suc, Bool, true, false, not, ◌&&◌, ◌||◌, if◌then◌else◌, List, [], ◌∷◌, ◌++◌, length, Option, Some, None, refl, sym, ◌∙◌, ap, subst, true≢false, arith, length-append, filter-append, filter, position, slice_set, list_any, Tid, WorkId, work_eq, work_tells, IsIdlePut, HasNone, names_address, any_same, StoredIntention, Record, Free, Intention, Ready, Going, FlagRecord, record_in, is_free, free_count, is_prepared, is_intention, is_flag, is_rubbish, is_in, Memory, rubbish_of, rubbish_in, WorksMatch, FlagsMatch, PoolPreparing, in_both, idle_same, idle_works, position_at, free_is, free_more, flags_stay, names_kept, rubbish_moves, holds_intention}
use Rattle.jn_page_state.proofs.Behind.{none_first, next_first}
use Rattle.jn_sets.proofs.Slots.{none_counted}

-- ---- rubbish of other works

abbrev pub is_other : WorkId → WorkId → Bool
is_other work w = not (work_eq work w)

pub same_work : (work : WorkId) → work_eq work work ≡ true
same_work work = let t = work_tells work work in grind arith

-- one record more or less of the work alone
pub others_past : (q : WorkId → Bool) (pool rs : List Record) (slot : ℕ) (new : Record) → filter q (rubbish_of pool (record_in rs slot)) ≡ filter q (rubbish_of pool new)
    → filter q (rubbish_in pool (slice_set rs slot new)) ≡ filter q (rubbish_in pool rs)
others_past q pool [] slot new e = refl
others_past q pool (r ∷ rs) zero new e = filter-append q (rubbish_of pool new) (rubbish_in pool rs) ∙ ap (λ l. l ++ filter q (rubbish_in pool rs)) (sym e) ∙ sym (filter-append q (rubbish_of pool r) (rubbish_in pool rs))
others_past q pool (r ∷ rs) (suc slot) new e = filter-append q (rubbish_of pool r) (rubbish_in pool (slice_set rs slot new)) ∙ ap (λ l. filter q (rubbish_of pool r) ++ l) (others_past q pool rs slot new e)
    ∙ sym (filter-append q (rubbish_of pool r) (rubbish_in pool rs))

others_all : (work : WorkId) (xs : List WorkId) → is_in work_eq work xs ≡ false → filter (is_other work) xs ≡ xs
others_all work [] none = refl
others_all work (x ∷ xs) none = by (work_eq work x) (let t = work_tells work x in let u = work_tells x work in grind (arith, none)) (others_all work xs (grind (arith, none)))
  where
    by : (b : Bool) → b ≡ false → filter (is_other work) xs ≡ xs → (if not b then x ∷ filter (is_other work) xs else filter (is_other work) xs) ≡ x ∷ xs
    by true e rest = absurd (true≢false e)
    by false e rest = ap (λ l. x ∷ l) rest

-- a work that isn't prepared has an intention only among the rubbish
module _ (pool : List Record) (work : WorkId) (alone : list_any (is_prepared work) pool ≡ false) where
  is_rubbish_work : (r : Record) (order : ℕ) → is_intention work order r ≡ true → is_in work_eq work (rubbish_of pool r) ≡ true
  is_rubbish_work Free order h = absurd (true≢false (sym h))
  is_rubbish_work (Intention w u k i) order h =
      let same : w ≡ work = (let t = work_tells w work in grind (arith, h)) in
      subst (λ v. is_in work_eq work (if list_any (is_prepared v) pool then [] else v ∷ []) ≡ true) (sym same)
      (ap (λ b. is_in work_eq work (if b then [] else work ∷ [])) alone ∙ (let t = same_work work in grind (arith, t)))
  is_rubbish_work (Ready head n reads) order h = absurd (true≢false (sym h))
  is_rubbish_work (Going head n reads) order h = absurd (true≢false (sym h))
  is_rubbish_work (FlagRecord f) order h = absurd (true≢false (sym h))

  in_rubbish : (rs : List Record) (j order : ℕ) → is_intention work order (record_in rs j) ≡ true → is_in work_eq work (rubbish_in pool rs) ≡ true
  in_rubbish [] j order h = absurd (true≢false (sym h))
  in_rubbish (r ∷ rs) zero order h = let one = is_rubbish_work r order h in let both = in_both work (rubbish_of pool r) (rubbish_in pool rs) in grind (arith, one, both)
  in_rubbish (r ∷ rs) (suc j) order h = let rest = in_rubbish rs j order h in let both = in_both work (rubbish_of pool r) (rubbish_in pool rs) in grind (arith, rest, both)

  pub none_stored : is_in work_eq work (rubbish_in pool pool) ≡ false → HasNone pool work
  none_stored clean order j = by (is_intention work order (record_in pool j)) refl
    where
      by : (b : Bool) → is_intention work order (record_in pool j) ≡ b → b ≡ false
      by true h = absurd (true≢false (sym (in_rubbish pool j order h) ∙ clean))
      by false h = refl

pub pool_begins : (m : Memory) (work : WorkId) → WorksMatch m.records m.works → FlagsMatch m.records m.flags → list_any (is_prepared work) m.records ≡ false → is_in work_eq work (rubbish_in m.records m.records) ≡ false
    → PoolPreparing m work [] m.records
pool_begins m work works flags alone clean = record {
  works = works;
  flags = flags;
  alone = alone;
  first = none_first m.records work (none_stored m.records work alone clean);
  rubbish = others_all work (rubbish_in m.records m.records) clean;
  free = omega arith;
  names = λ a. refl;
}

-- ---- one more intention

module _ (m : Memory) (work : WorkId) (stored : List StoredIntention) (records : List Record) (p : PoolPreparing m work stored records) (slot : ℕ) (at : position is_free records ≡ Some slot) where
  pub free_there : slot < length records
  free_there = (position_at is_free records Free slot at).0

  pub stands_free : record_in records slot ≡ Free
  stands_free = free_is (record_in records slot) (position_at is_free records Free slot at).1

  module _ (tid : Tid) (s : StoredIntention) where
    pub stored_idle : IsIdlePut records slot (Intention work tid (length stored) s)
    stored_idle = record { there = free_there; old_idle = ap (λ r. is_free r || is_rubbish records r) stands_free; new_idle = ap not p.alone }

    own_rubbish : filter (is_other work) (rubbish_of records (Intention work tid (length stored) s)) ≡ []
    own_rubbish = ap (λ b. filter (is_other work) (if b then [] else work ∷ [])) p.alone ∙ ap (λ b. if not b then work ∷ [] else []) (same_work work)

    pub pool_goes_on : PoolPreparing m work (stored ++ s ∷ []) (slice_set records slot (Intention work tid (length stored) s))
    pool_goes_on = record {
      works = idle_works records slot (Intention work tid (length stored) s) stored_idle m.works p.works;
      flags = flags_stay records slot (Intention work tid (length stored) s) m.flags (λ t. ap (is_flag t) stands_free) (λ t. refl) p.flags;
      alone = any_same (is_prepared work) Free records slot (Intention work tid (length stored) s) (idle_same records slot (Intention work tid (length stored) s) stored_idle work) ∙ p.alone;
      first = next_first records slot work tid stored s free_there stands_free p.first;
      rubbish = ap (filter (is_other work)) (rubbish_moves records slot (Intention work tid (length stored) s) (idle_same records slot (Intention work tid (length stored) s) stored_idle))
          ∙ others_past (is_other work) records records slot (Intention work tid (length stored) s) (ap (λ r. filter (is_other work) (rubbish_of records r)) stands_free ∙ sym own_rubbish)
          ∙ p.rubbish;
      free =
          let less = free_more records slot (Intention work tid (length stored) s) free_there (ap is_free stands_free) refl in
          let longer = length-append stored (s ∷ []) in let before = p.free in omega (arith, less, longer, before);
      names = λ a. names_kept records slot (Intention work tid (length stored) s) (idle_same records slot (Intention work tid (length stored) s) stored_idle) (suc a)
          (ap (holds_intention (names_address (suc a)) records) stands_free) (ap (λ b. names_address (suc a) s && b) p.alone ∙ nothing (names_address (suc a) s)) ∙ p.names a;
    }
      where
        nothing : (b : Bool) → (b && false) ≡ false
        nothing true = refl
        nothing false = refl

-- ---- where a record is put

pub free_slot : (records : List Record) → 0 < free_count records → (slot : ℕ) × (position is_free records ≡ Some slot)
free_slot records some = by (position is_free records) refl
  where
    by : (o : Option ℕ) → position is_free records ≡ o → (slot : ℕ) × (position is_free records ≡ Some slot)
    by None e = let none = none_counted is_free records e in absurd (omega (arith, some, none))
    by (Some slot) e = (slot, e)
