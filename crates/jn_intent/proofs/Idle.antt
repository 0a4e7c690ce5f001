-- Where no work, no flag and no rubbish is left, no record stands.
use Rattle.jn_intent.proofs.Common.{◌≡◌, ◌+◌, ◌||◌, ℕ, zero, suc, Bool, true, false, if◌then◌else◌, List, [], ◌∷◌, length, Option, None, refl, sym, ◌∙◌, ap, true≢false, arith, count_by-le-length, sum_by-cons, count_by, is_some, Tid, WorkId, tid_eq, work_eq, tid_tells, work_tells, Record, Free, Intention, Ready, Going, FlagRecord, record_in, is_free, IsListing, is_in, total, IsServing, list_of, state, StoreView, Memory, view_of, IsIdle}

-- a listing of what isn't there
no_keys : {A : Type 0} (eq : A → A → Bool) (test : A → Bool) → ((a : A) → eq a a ≡ true) → ((a : A) → test a ≡ false) → (keys : List A) → IsListing eq test keys → length keys ≡ 0
no_keys eq test self none [] listing = refl
no_keys eq test self none (k ∷ ks) listing = absurd (true≢false (sym here ∙ listing.all k ∙ none k))
  where
    here : is_in eq k (k ∷ ks) ≡ true
    here = ap (λ b. b || is_in eq k ks) (self k)

free_is : (r : Record) → is_free r ≡ true → r ≡ Free
free_is Free e = refl
free_is (Intention w t k i) e = absurd (true≢false (sym e))
free_is (Ready head n reads) e = absurd (true≢false (sym e))
free_is (Going head n reads) e = absurd (true≢false (sym e))
free_is (FlagRecord flag) e = absurd (true≢false (sym e))

-- where as many are free as there are, each is
all_free : (records : List Record) → count_by is_free records ≡ length records → (i : ℕ) → record_in records i ≡ Free
all_free [] e zero = refl
all_free [] e (suc i) = refl
all_free (r ∷ records) e i = by (is_free r) refl (λ full k. all_free records full k) i
  where
    counted : count_by is_free (r ∷ records) ≡ (if is_free r then 1 else 0) + count_by is_free records
    counted = sum_by-cons (λ (x : Record). if is_free x then 1 else 0) r records

    with_first : (b : Bool) → is_free r ≡ b → count_by is_free (r ∷ records) ≡ (if b then 1 else 0) + count_by is_free records
    with_first b t = counted ∙ ap (λ c. (if c then 1 else 0) + count_by is_free records) t

    by : (b : Bool) → is_free r ≡ b → (count_by is_free records ≡ length records → (k : ℕ) → record_in records k ≡ Free) → (i : ℕ) → record_in (r ∷ records) i ≡ Free
    by true t rest zero = free_is r t
    by true t rest (suc i) = rest (let c = with_first true t in omega (arith, c, e)) i
    by false t rest i = absurd (let c = with_first false t in let few = count_by-le-length is_free records in omega (arith, c, e, few))

work_self : (w : WorkId) → work_eq w w ≡ true
work_self w = let t = work_tells w w in grind (arith, t)

tid_self : (t : Tid) → tid_eq t t ≡ true
tid_self t = let h = tid_tells t t in grind (arith, h)

none_there : {A : Type 0} (o : Option A) → o ≡ None → is_some o ≡ false
none_there o e = ap (λ q. is_some q) e

pub idle_free : (m : Memory) (v : StoreView) → IsServing (view_of m v) → IsIdle (view_of m v) → length m.records ≡ m.table.counts.pool → (i : ℕ) → record_in m.records i ≡ Free
idle_free m v serving idle size =
    let counted = serving.counted in
    let works = no_keys work_eq (λ w. is_some ((state (view_of m v)).works w)) work_self (λ w. none_there ((state (view_of m v)).works w) (idle.works w)) counted.works counted.works_all in
    let flags = no_keys tid_eq (λ t. is_some ((state (view_of m v)).flags t)) tid_self (λ t. none_there ((state (view_of m v)).flags t) (idle.flags t)) counted.flags counted.flags_all in
    let lists = no_total (λ w. length (list_of (state (view_of m v)) w)) counted.works works in
    let rubbish : length (view_of m v).accounts.rubbish ≡ 0 = ap length idle.rubbish in
    let all = counted.records in
    all_free m.records (omega (arith, all, works, flags, lists, rubbish, size))
  where
    no_total : {A : Type 0} (f : A → ℕ) (xs : List A) → length xs ≡ 0 → total f xs ≡ 0
    no_total f [] e = refl
    no_total f (x ∷ xs) e = absurd (omega (arith, e))
