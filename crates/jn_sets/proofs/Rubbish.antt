-- How many records are rubbish, and below which slot none is.
use Rattle.jn_sets.proofs.Common.{◌≡◌, ◌≢◌, inl, inr, ⊎_elim, ℕ, zero, suc, ◌+◌, ◌≤◌, ◌<◌, ◌^◌, Bool, true, false, List, [], ◌∷◌, length, Some, None, refl, sym, ◌∙◌, ap, subst, true≢false, arith, cases_eq, false_from_ne_true, nat_tests, get_or-set_same, get_or-set_other, length-set, set-set, set-get_or, position_or_len_is, sum_by-set, sum_by-cons, count_by-le-length, position, nat_lt, slice_set, filter, count_by, cond, if◌then◌else◌, not, ◌||◌, ◌&&◌, list_any, position_or_len, WorkId, work_eq, work_tells, Record, Free, Intention, Ready, Going, FlagRecord, record_in, is_free, is_prepared, is_rubbish, rubbish_count, prepares, intends, intends_for, left_of, kept_by, is_ready, going_of, AreCleanTo, AreUsedTo, IsWatched, ones}
use Rattle.std.proofs.Math.Path.{fun_ext}

-- ---- a slot has another record

not_prepared : (w : WorkId) (r : Record) → prepares r ≡ false → is_prepared w r ≡ false
not_prepared w Free e = refl
not_prepared w (Intention v t o i) e = refl
not_prepared w (Ready head n reads) e = absurd (true≢false e)
not_prepared w (Going head n reads) e = absurd (true≢false e)
not_prepared w (FlagRecord f) e = refl

-- without a ready or going record no work is prepared
pub none_prepared : (w : WorkId) (records : List Record) → count_by prepares records ≡ 0 → list_any (is_prepared w) records ≡ false
none_prepared w [] none = refl
none_prepared w (r ∷ rs) none =
    let one : count_by prepares (r ∷ rs) ≡ ones (prepares r) + count_by prepares rs = sum_by-cons (λ (x : Record). cond (prepares x) 1 0) r rs in
    by (prepares r) refl (none_prepared w rs (omega arith)) (omega arith)
  where
    by : (b : Bool) → prepares r ≡ b → list_any (is_prepared w) rs ≡ false → ones (prepares r) ≡ 0 → list_any (is_prepared w) (r ∷ rs) ≡ false
    by true e rest nothing = let two : ones (prepares r) ≡ 1 = ap ones e in let no_way : ⊥ = omega arith in absurd no_way
    by false e rest nothing = let here = not_prepared w r e in grind (arith, here, rest)

not_intended : (records : List Record) (r : Record) → intends r ≡ false → is_rubbish records r ≡ false
not_intended records Free e = refl
not_intended records (Intention v t o i) e = absurd (true≢false e)
not_intended records (Ready head n reads) e = refl
not_intended records (Going head n reads) e = refl
not_intended records (FlagRecord f) e = refl

still_any : (test : Record → Bool) (records : List Record) (slot : ℕ) (value : Record) → test (record_in records slot) ≡ false → list_any test records ≡ true → list_any test (slice_set records slot value) ≡ true
still_any test [] slot value old any = absurd (true≢false (sym any))
still_any test (r ∷ rs) zero value old any = here (test r) (list_any test rs) (test value) old any
  where
    here : (a b c : Bool) → a ≡ false → (a || b) ≡ true → (c || b) ≡ true
    here a b c e h = grind (arith, e, h)
still_any test (r ∷ rs) (suc slot) value old any = later (test r) (list_any test rs) (list_any test (slice_set rs slot value)) (still_any test rs slot value old) any
  where
    later : (a b c : Bool) → (b ≡ true → c ≡ true) → (a || b) ≡ true → (a || c) ≡ true
    later true b c more h = refl
    later false b c more h = more h

still_clean : (records : List Record) (slot : ℕ) (value r : Record) → prepares (record_in records slot) ≡ false → is_rubbish records r ≡ false → is_rubbish (slice_set records slot value) r ≡ false
still_clean records slot value Free old e = refl
still_clean records slot value (Ready head n reads) old e = refl
still_clean records slot value (Going head n reads) old e = refl
still_clean records slot value (FlagRecord f) old e = refl
still_clean records slot value (Intention w t o i) old e = ap not (still_any (is_prepared w) records slot value (not_prepared w (record_in records slot) old) (turned (list_any (is_prepared w) records) e))
  where
    turned : (b : Bool) → not b ≡ false → b ≡ true
    turned b h = grind (arith, h)

pub clean_set : (records : List Record) (clean slot after : ℕ) (value : Record) → slot < length records → AreCleanTo records clean → after ≤ clean
    → (prepares (record_in records slot) ≡ true → after ≡ 0) → (intends value ≡ true → after ≤ slot) → AreCleanTo (slice_set records slot value) after
clean_set records clean slot after value below are less prepared intended k lt = elim (cases_eq k slot) [
  | inl same ↦ subst (λ (j : ℕ). is_rubbish (slice_set records slot value) (record_in (slice_set records slot value) j) ≡ false) (sym same)
      (ap (is_rubbish (slice_set records slot value)) (get_or-set_same records slot value Free below)
      ∙ not_intended (slice_set records slot value) value (false_from_ne_true (intends value) (λ e. let past = intended e in let no_way : ⊥ = omega arith in no_way)))
  | inr ne ↦ ap (is_rubbish (slice_set records slot value)) (get_or-set_other records slot k value Free ne)
      ∙ still_clean records slot value (record_in records k) (false_from_ne_true (prepares (record_in records slot)) (λ e. let none = prepared e in let no_way : ⊥ = omega arith in no_way)) (are k (omega arith))
]

-- ---- intentions are records

-- no more of them are a work's intentions than there are
pub fewer_intend : (work : WorkId) (es : List (ℕ × Record)) → length (filter (λ m. intends_for work m.1) es) ≤ length (filter (λ m. not (is_free m.1)) es)
fewer_intend work [] = omega arith
fewer_intend work ((k, Free) ∷ es) = let rest = fewer_intend work es in omega arith
fewer_intend work ((k, Intention w t o i) ∷ es) = by (work_eq w work) refl (fewer_intend work es)
  where
    by : (b : Bool) → work_eq w work ≡ b → length (filter (λ m. intends_for work m.1) es) ≤ length (filter (λ m. not (is_free m.1)) es)
        → length (filter (λ m. intends_for work m.1) ((k, Intention w t o i) ∷ es)) ≤ length (filter (λ m. not (is_free m.1)) ((k, Intention w t o i) ∷ es))
    by true e rest = rw e (omega arith)
    by false e rest = rw e (omega arith)
fewer_intend work ((k, Ready head n reads) ∷ es) = let rest = fewer_intend work es in omega arith
fewer_intend work ((k, Going head n reads) ∷ es) = let rest = fewer_intend work es in omega arith
fewer_intend work ((k, FlagRecord f) ∷ es) = let rest = fewer_intend work es in omega arith

-- ---- a slot stays free

only_free : (r : Record) → is_free r ≡ true → r ≡ Free
only_free Free e = refl
only_free (Intention w t o i) e = absurd (cc e)
only_free (Ready head n reads) e = absurd (cc e)
only_free (Going head n reads) e = absurd (cc e)
only_free (FlagRecord f) e = absurd (cc e)

pub still_free : (records : List Record) (slot : ℕ) → is_free (record_in records slot) ≡ true → records ≡ slice_set records slot Free
still_free records slot e = sym (ap (slice_set records slot) (sym (only_free (record_in records slot) e)) ∙ set-get_or records slot Free)

pub put_free : (records : List Record) (slot : ℕ) (value : Record) → record_in records slot ≡ Free → is_free value ≡ true → records ≡ slice_set records slot value
put_free records slot value free e = still_free records slot (ap is_free free) ∙ ap (slice_set records slot) (sym (only_free value e))

-- ---- below which slot none is free

used_set : (records : List Record) (used slot after : ℕ) (value : Record) → slot < length records → AreUsedTo records used → ((k : ℕ) → k < after → k ≢ slot → k < used)
    → (slot < after → is_free value ≡ false) → AreUsedTo (slice_set records slot value) after
used_set records used slot after value below are others own k lt = elim (cases_eq k slot) [
  | inl same ↦ subst (λ (j : ℕ). is_free (record_in (slice_set records slot value) j) ≡ false) (sym same)
      (ap is_free (get_or-set_same records slot value Free below) ∙ own (subst (λ (j : ℕ). j < after) same lt))
  | inr ne ↦ ap is_free (get_or-set_other records slot k value Free ne) ∙ are k (others k lt ne)
]

going_used : (r : Record) → is_ready r ≡ true → is_free (going_of r) ≡ false
going_used (Ready head n reads) ready = refl
going_used r ready = absurd (cc ready)

pub used_more : (records : List Record) (slot : ℕ) → AreUsedTo records slot → is_free (record_in records slot) ≡ false → AreUsedTo records (slot + 1)
used_more records slot are here k lt = elim (cases_eq k slot) [
  | inl same ↦ ap (λ (j : ℕ). is_free (record_in records j)) same ∙ here
  | inr ne ↦ are k (omega arith)
]

-- ---- a record comes into a free slot

any_set : (test : Record → Bool) (records : List Record) (slot : ℕ) (value : Record) → slot < length records → test (record_in records slot) ≡ false → list_any test (slice_set records slot value) ≡ (list_any test records || test value)
any_set test [] slot value below old = absurd (omega (arith, below))
any_set test (r ∷ rs) zero value below old = turned (test r) (list_any test rs) (test value) old
  where
    turned : (a b c : Bool) → a ≡ false → (c || b) ≡ ((a || b) || c)
    turned a b c e = grind (arith, e)
any_set test (r ∷ rs) (suc slot) value below old = later (test r) (list_any test rs) (test value) (list_any test (slice_set rs slot value)) (any_set test rs slot value (omega arith) old)
  where
    later : (a b c n : Bool) → n ≡ (b || c) → (a || n) ≡ ((a || b) || c)
    later a b c n e = grind (arith, e)

-- whether a record keeps a work's intentions from being rubbish
abbrev spares : List Record → Record → WorkId → Bool
spares records (Ready head n reads) w = work_eq w head.work && not (list_any (is_prepared head.work) records)
spares records (Going head n reads) w = work_eq w head.work && not (list_any (is_prepared head.work) records)
spares records value w = false

abbrev is_kept_by : List Record → Record → Record → Bool
is_kept_by records value (Intention w t o i) = spares records value w
is_kept_by records value r = false

module _ (records : List Record) (slot : ℕ) (value : Record) (below : slot < length records) (free : record_in records slot ≡ Free) where
  any_with : (w : WorkId) → list_any (is_prepared w) (slice_set records slot value) ≡ (list_any (is_prepared w) records || is_prepared w value)
  any_with w = any_set (is_prepared w) records slot value below (ap (is_prepared w) free)

  alone : (w : WorkId) → is_prepared w value ≡ false → ones (not (list_any (is_prepared w) (slice_set records slot value))) + ones false ≡ ones (not (list_any (is_prepared w) records))
  alone w e = by (list_any (is_prepared w) (slice_set records slot value)) (list_any (is_prepared w) records) (is_prepared w value) (any_with w) e
    where
      by : (n a b : Bool) → n ≡ (a || b) → b ≡ false → ones (not n) + ones false ≡ ones (not a)
      by n a b h e = grind (arith, h, e)

  paired : (w v : WorkId) → is_prepared w value ≡ work_eq v w
      → ones (not (list_any (is_prepared w) (slice_set records slot value))) + ones (work_eq w v && not (list_any (is_prepared v) records)) ≡ ones (not (list_any (is_prepared w) records))
  paired w v e = by (list_any (is_prepared w) (slice_set records slot value)) (list_any (is_prepared w) records) (list_any (is_prepared v) records) (work_eq v w) (work_eq w v)
      (any_with w ∙ ap (λ (b : Bool). list_any (is_prepared w) records || b) e) (turned w v)
      (λ t. ⊎_elim (λ h. ap (λ (x : WorkId). list_any (is_prepared x) records) h.1) (λ h. let no = h.0 in absurd (cc (no, t))) (work_tells v w))
    where
      turned : (a b : WorkId) → work_eq a b ≡ work_eq b a
      turned a b = grind (arith, nat_tests)

      by : (n a p e f : Bool) → n ≡ (a || e) → f ≡ e → (e ≡ true → p ≡ a) → ones (not n) + ones (f && not p) ≡ ones (not a)
      by n a p true f h same is = let q = is refl in grind (arith, h, same, q)
      by n a p false f h same is = grind (arith, h, same)

each_intention : (records : List Record) (slot : ℕ) (value : Record) → slot < length records → record_in records slot ≡ Free → (w : WorkId)
    → ones (not (list_any (is_prepared w) (slice_set records slot value))) + ones (spares records value w) ≡ ones (not (list_any (is_prepared w) records))
each_intention records slot Free below free w = alone records slot Free below free w refl
each_intention records slot (Intention v t o i) below free w = alone records slot (Intention v t o i) below free w refl
each_intention records slot (Ready head n reads) below free w = paired records slot (Ready head n reads) below free w head.work refl
each_intention records slot (Going head n reads) below free w = paired records slot (Going head n reads) below free w head.work refl
each_intention records slot (FlagRecord f) below free w = alone records slot (FlagRecord f) below free w refl

-- what is rubbish afterwards, and what the record keeps from being so, was rubbish before
each_was : (records : List Record) (slot : ℕ) (value : Record) → slot < length records → record_in records slot ≡ Free → (r : Record)
    → ones (is_rubbish (slice_set records slot value) r) + ones (is_kept_by records value r) ≡ ones (is_rubbish records r)
each_was records slot value below free Free = refl
each_was records slot value below free (Intention w t o i) = each_intention records slot value below free w
each_was records slot value below free (Ready head n reads) = refl
each_was records slot value below free (Going head n reads) = refl
each_was records slot value below free (FlagRecord f) = refl

-- ---- and how many are rubbish then

counts_add : (f g h : Record → Bool) → ((r : Record) → ones (f r) + ones (g r) ≡ ones (h r)) → (xs : List Record) → count_by f xs + count_by g xs ≡ count_by h xs
counts_add f g h each [] = refl
counts_add f g h each (x ∷ xs) =
    let now = each x in
    let rest = counts_add f g h each xs in
    let cf : count_by f (x ∷ xs) ≡ ones (f x) + count_by f xs = sum_by-cons (λ (r : Record). cond (f r) 1 0) x xs in
    let cg : count_by g (x ∷ xs) ≡ ones (g x) + count_by g xs = sum_by-cons (λ (r : Record). cond (g r) 1 0) x xs in
    let ch : count_by h (x ∷ xs) ≡ ones (h x) + count_by h xs = sum_by-cons (λ (r : Record). cond (h r) 1 0) x xs in
    omega arith

counts_same : (f g : Record → Bool) → ((r : Record) → f r ≡ g r) → (xs : List Record) → count_by f xs ≡ count_by g xs
counts_same f g each xs = ap (λ (t : Record → Bool). count_by t xs) (fun_ext each)

count_none : (xs : List Record) → count_by (λ r. false) xs ≡ 0
count_none [] = refl
count_none (x ∷ xs) =
    let one : count_by (λ r. false) (x ∷ xs) ≡ 0 + count_by (λ r. false) xs = sum_by-cons (λ (r : Record). 0) x xs in
    let rest = count_none xs in
    omega arith

spares_none : (records : List Record) (value : Record) → ((w : WorkId) → spares records value w ≡ false) → (r : Record) → is_kept_by records value r ≡ false
spares_none records value each Free = refl
spares_none records value each (Intention w t o i) = each w
spares_none records value each (Ready head n reads) = refl
spares_none records value each (Going head n reads) = refl
spares_none records value each (FlagRecord f) = refl

kept_for : (records : List Record) (value : Record) (work : WorkId) → ((w : WorkId) → spares records value w ≡ (work_eq w work && not (list_any (is_prepared work) records)))
    → count_by (is_kept_by records value) records ≡ left_of records work
kept_for records value work each = by (list_any (is_prepared work) records) each
  where
    by : (b : Bool) → ((w : WorkId) → spares records value w ≡ (work_eq w work && not b)) → count_by (is_kept_by records value) records ≡ (if b then 0 else count_by (intends_for work) records)
    by true each = counts_same (is_kept_by records value) (λ r. false) (spares_none records value (λ w. each w ∙ and_false (work_eq w work))) records ∙ count_none records
      where
        and_false : (b : Bool) → (b && false) ≡ false
        and_false b = grind arith
    by false each = counts_same (is_kept_by records value) (intends_for work) all records
      where
        and_true : (b : Bool) → (b && true) ≡ b
        and_true b = grind arith

        all : (r : Record) → is_kept_by records value r ≡ intends_for work r
        all Free = refl
        all (Intention w t o i) = each w ∙ and_true (work_eq w work)
        all (Ready head n reads) = refl
        all (Going head n reads) = refl
        all (FlagRecord f) = refl

kept_is : (records : List Record) (value : Record) → count_by (is_kept_by records value) records ≡ kept_by records value
kept_is records (Ready head n reads) = kept_for records (Ready head n reads) head.work (λ w. refl)
kept_is records (Going head n reads) = kept_for records (Going head n reads) head.work (λ w. refl)
kept_is records Free = counts_same (is_kept_by records Free) (λ r. false) (spares_none records Free (λ w. refl)) records ∙ count_none records
kept_is records (Intention v t o i) = counts_same (is_kept_by records (Intention v t o i)) (λ r. false) (spares_none records (Intention v t o i) (λ w. refl)) records ∙ count_none records
kept_is records (FlagRecord f) = counts_same (is_kept_by records (FlagRecord f)) (λ r. false) (spares_none records (FlagRecord f) (λ w. refl)) records ∙ count_none records

not_itself : (records : List Record) (value : Record) → is_kept_by records value value ≡ false
not_itself records Free = refl
not_itself records (Intention w t o i) = refl
not_itself records (Ready head n reads) = refl
not_itself records (Going head n reads) = refl
not_itself records (FlagRecord f) = refl

-- a record that comes is rubbish or not, and keeps others from being so
pub count_filled : (records : List Record) (slot : ℕ) (value : Record) → slot < length records → record_in records slot ≡ Free
    → rubbish_count (slice_set records slot value) + kept_by records value ≡ rubbish_count records + ones (is_rubbish records value)
count_filled records slot value below free =
    let new = slice_set records slot value in
    let all : count_by (is_rubbish new) new + count_by (is_kept_by records value) new ≡ count_by (is_rubbish records) new
    = counts_add (is_rubbish new) (is_kept_by records value) (is_rubbish records) (each_was records slot value below free) new in
    let was : count_by (is_rubbish records) new + ones (is_rubbish records (record_in records slot)) ≡ count_by (is_rubbish records) records + ones (is_rubbish records value)
    = sum_by-set (λ (r : Record). cond (is_rubbish records r) 1 0) records slot value Free below in
    let kept : count_by (is_kept_by records value) new + ones (is_kept_by records value (record_in records slot)) ≡ count_by (is_kept_by records value) records + ones (is_kept_by records value value)
    = sum_by-set (λ (r : Record). cond (is_kept_by records value r) 1 0) records slot value Free below in
    let none : ones (is_rubbish records (record_in records slot)) ≡ 0 = ap (λ (r : Record). ones (is_rubbish records r)) free in
    let nor : ones (is_kept_by records value (record_in records slot)) ≡ 0 = ap (λ (r : Record). ones (is_kept_by records value r)) free in
    let itself : ones (is_kept_by records value value) ≡ 0 = ap ones (not_itself records value) in
    let its = kept_is records value in
    omega arith

-- as it was before a record went
pub count_cleared : (records : List Record) (slot : ℕ) → slot < length records
    → rubbish_count records + kept_by (slice_set records slot Free) (record_in records slot) ≡ rubbish_count (slice_set records slot Free) + ones (is_rubbish (slice_set records slot Free) (record_in records slot))
count_cleared records slot below =
    subst (λ (l : List Record). rubbish_count l + kept_by (slice_set records slot Free) (record_in records slot) ≡ rubbish_count (slice_set records slot Free) + ones (is_rubbish (slice_set records slot Free) (record_in records slot)))
    (set-set records slot Free (record_in records slot) ∙ set-get_or records slot Free)
    (count_filled (slice_set records slot Free) slot (record_in records slot) (let long = length-set records slot Free in omega arith) (get_or-set_same records slot Free Free below))

-- ---- a ready record becomes a going one

going_spares : (records : List Record) (r : Record) → is_ready r ≡ true → (w : WorkId) → spares records (going_of r) w ≡ spares records r w
going_spares records (Ready head n reads) ready w = refl
going_spares records r ready w = absurd (cc ready)

pub same_rubbish : (records : List Record) (slot : ℕ) → slot < length records → is_ready (record_in records slot) ≡ true → (r : Record)
    → is_rubbish (slice_set records slot (going_of (record_in records slot))) r ≡ is_rubbish records r
same_rubbish records slot below ready Free = refl
same_rubbish records slot below ready (Ready head n reads) = refl
same_rubbish records slot below ready (Going head n reads) = refl
same_rubbish records slot below ready (FlagRecord f) = refl
same_rubbish records slot below ready (Intention w t o i) =
    let bare = slice_set records slot Free in
    let old = record_in records slot in
    let long : slot < length bare = let h = length-set records slot Free in omega arith in
    let free : record_in bare slot ≡ Free = get_or-set_same records slot Free Free below in
    same (list_any (is_prepared w) (slice_set records slot (going_of old))) (list_any (is_prepared w) records) (spares bare (going_of old) w) (spares bare old w) (list_any (is_prepared w) bare)
    (subst (λ (l : List Record). ones (not (list_any (is_prepared w) l)) + ones (spares bare (going_of old) w) ≡ ones (not (list_any (is_prepared w) bare))) (set-set records slot Free (going_of old)) (each_intention bare slot (going_of old) long free w))
    (subst (λ (l : List Record). ones (not (list_any (is_prepared w) l)) + ones (spares bare old w) ≡ ones (not (list_any (is_prepared w) bare))) (set-set records slot Free old ∙ set-get_or records slot Free) (each_intention bare slot old long free w))
    (going_spares bare old ready w)
  where
    same : (n a s t b : Bool) → ones (not n) + ones s ≡ ones (not b) → ones (not a) + ones t ≡ ones (not b) → s ≡ t → not n ≡ not a
    same n a s t b h k e = grind (arith, h, k, e)

no_rubbish : (records : List Record) (r : Record) → is_ready r ≡ true → (is_rubbish records r ≡ false) × (is_rubbish records (going_of r) ≡ false)
no_rubbish records (Ready head n reads) ready = (refl, refl)
no_rubbish records r ready = absurd (cc ready)

pub count_going : (records : List Record) (slot : ℕ) → slot < length records → is_ready (record_in records slot) ≡ true → rubbish_count (slice_set records slot (going_of (record_in records slot))) ≡ rubbish_count records
count_going records slot below ready =
    let going = going_of (record_in records slot) in
    let new = slice_set records slot going in
    let were : count_by (is_rubbish new) new ≡ count_by (is_rubbish records) new = counts_same (is_rubbish new) (is_rubbish records) (same_rubbish records slot below ready) new in
    let one : count_by (is_rubbish records) new + ones (is_rubbish records (record_in records slot)) ≡ count_by (is_rubbish records) records + ones (is_rubbish records going)
    = sum_by-set (λ (r : Record). cond (is_rubbish records r) 1 0) records slot going Free below in
    let was : ones (is_rubbish records (record_in records slot)) ≡ 0 = ap ones (no_rubbish records (record_in records slot) ready).0 in
    let is : ones (is_rubbish records going) ≡ 0 = ap ones (no_rubbish records (record_in records slot) ready).1 in
    omega arith

pub clean_going : (records : List Record) (clean slot : ℕ) → slot < length records → is_ready (record_in records slot) ≡ true → AreCleanTo records clean → AreCleanTo (slice_set records slot (going_of (record_in records slot))) clean
clean_going records clean slot below ready are k lt =
    let going = going_of (record_in records slot) in
    let new = slice_set records slot going in
    same_rubbish records slot below ready (record_in new k) ∙ elim (cases_eq k slot) [
      | inl same ↦ ap (λ (j : ℕ). is_rubbish records (record_in new j)) same ∙ ap (is_rubbish records) (get_or-set_same records slot going Free below) ∙ (no_rubbish records (record_in records slot) ready).1
      | inr ne ↦ ap (is_rubbish records) (get_or-set_other records slot k going Free ne) ∙ are k lt
    ]

-- ---- whether there are any

pub any_counted : {X : Type 0} (test : X → Bool) (xs : List X) → list_any test xs ≡ nat_lt 0 (count_by test xs)
any_counted test [] = refl
any_counted test (x ∷ xs) =
    let one : count_by test (x ∷ xs) ≡ ones (test x) + count_by test xs = sum_by-cons (λ y. cond (test y) 1 0) x xs in
    by (test x) (list_any test xs) (count_by test xs) (count_by test (x ∷ xs)) one (any_counted test xs)
  where
    by : (b a : Bool) (n m : ℕ) → m ≡ ones b + n → a ≡ nat_lt 0 n → (b || a) ≡ nat_lt 0 m
    by b a n m e h = grind (arith, nat_tests, e, h)

-- ---- what is kept of it

pub at_most_one : (b : Bool) → ones b ≤ 1
at_most_one true = omega arith
at_most_one false = omega arith

pub few_rubbish : (records : List Record) → rubbish_count records ≤ length records
few_rubbish records = count_by-le-length (is_rubbish records) records

module _ (records : List Record) (rubbish clean used : ℕ) (watched : IsWatched records rubbish clean used) (slot : ℕ) (below : slot < length records) where
  module _ (new : List Record) (old : Record) (was : Bool) (kept : ℕ) (left : new ≡ slice_set records slot Free) (taken : old ≡ record_in records slot) (was_eq : was ≡ is_rubbish new old) (kept_eq : kept ≡ kept_by new old) where
    pub sum_cleared : (rubbish + kept ≡ rubbish_count new + ones was) × (rubbish_count new < 2 ^ 16)
    sum_cleared =
        let sum : rubbish_count records + kept_by new old ≡ rubbish_count new + ones (is_rubbish new old)
        = subst (λ (r : Record). rubbish_count records + kept_by new r ≡ rubbish_count new + ones (is_rubbish new r)) (sym taken)
        (subst (λ (l : List Record). rubbish_count records + kept_by l (record_in records slot) ≡ rubbish_count l + ones (is_rubbish l (record_in records slot))) (sym left) (count_cleared records slot below)) in
        let flag : ones was ≡ ones (is_rubbish new old) = ap ones was_eq in
        let count = watched.count in
        let long : length new ≡ length records = ap length left ∙ length-set records slot Free in
        let few = few_rubbish new in
        let short = watched.few in
        (omega arith, omega arith)

    pub watched_cleared : (count after low : ℕ) → count + ones was ≡ rubbish + kept + ones false → after ≤ clean → (prepares old ≡ true → after ≡ 0) → low ≤ used → low ≤ slot
        → IsWatched new count after low
    watched_cleared count after low sum less prepared lower not_it =
        let long : length new ≡ length records = ap length left ∙ length-set records slot Free in
        let all = sum_cleared.0 in
        let zero : ones false ≡ 0 = refl in
        let short = watched.few in
        record {
          few = omega arith;
          count = omega arith;
          none_below = subst (λ (l : List Record). AreCleanTo l after) (sym left)
              (clean_set records clean slot after Free below watched.none_below less (λ e. prepared (ap prepares taken ∙ e)) (λ e. absurd (true≢false (sym e))));
          used_below = subst (λ (l : List Record). AreUsedTo l low) (sym left)
              (used_set records used slot low Free below watched.used_below (λ k lt ne. omega arith) (λ lt. let no_way : ⊥ = omega arith in absurd no_way));
        }

  module _ (new : List Record) (value : Record) (is : Bool) (kept : ℕ) (free : record_in records slot ≡ Free) (left : new ≡ slice_set records slot value) (is_eq : is ≡ is_rubbish records value) (kept_eq : kept ≡ kept_by records value) where
    pub sum_filled : rubbish_count new + kept ≡ rubbish + ones is
    sum_filled =
        let sum : rubbish_count new + kept_by records value ≡ rubbish_count records + ones (is_rubbish records value)
        = subst (λ (l : List Record). rubbish_count l + kept_by records value ≡ rubbish_count records + ones (is_rubbish records value)) (sym left) (count_filled records slot value below free) in
        let flag : ones is ≡ ones (is_rubbish records value) = ap ones is_eq in
        let count = watched.count in
        omega arith

    pub watched_filled : (count after low : ℕ) → count + kept ≡ rubbish + ones is → after ≤ clean → (intends value ≡ true → after ≤ slot) → is_free value ≡ false
        → ((k : ℕ) → k < low → k ≢ slot → k < used) → IsWatched new count after low
    watched_filled count after low sum less intended is_used others =
        let long : length new ≡ length records = ap length left ∙ length-set records slot value in
        let all = sum_filled in
        let short = watched.few in
        record {
          few = omega arith;
          count = omega arith;
          none_below = subst (λ (l : List Record). AreCleanTo l after) (sym left)
              (clean_set records clean slot after value below watched.none_below less (λ e. absurd (true≢false (sym e ∙ ap prepares free))) intended);
          used_below = subst (λ (l : List Record). AreUsedTo l low) (sym left) (used_set records used slot low value below watched.used_below others (λ lt. is_used));
        }

  pub watched_going : (new : List Record) → is_ready (record_in records slot) ≡ true → new ≡ slice_set records slot (going_of (record_in records slot)) → IsWatched new rubbish clean used
  watched_going new ready left =
      let long : length new ≡ length records = ap length left ∙ length-set records slot (going_of (record_in records slot)) in
      let short = watched.few in
      record {
        few = omega arith;
        count = watched.count ∙ sym (count_going records slot below ready) ∙ ap rubbish_count (sym left);
        none_below = subst (λ (l : List Record). AreCleanTo l clean) (sym left) (clean_going records clean slot below ready watched.none_below);
        used_below = subst (λ (l : List Record). AreUsedTo l used) (sym left)
            (used_set records used slot used (going_of (record_in records slot)) below watched.used_below (λ k lt ne. lt) (λ lt. going_used (record_in records slot) ready));
      }

pub clean_more : (records : List Record) (slot : ℕ) → AreCleanTo records slot → is_rubbish records (record_in records slot) ≡ false → AreCleanTo records (slot + 1)
clean_more records slot are here k lt = elim (cases_eq k slot) [
  | inl same ↦ ap (λ (j : ℕ). is_rubbish records (record_in records j)) same ∙ here
  | inr ne ↦ are k (omega arith)
]

-- ---- the first of them

pub first_is : (test : Record → Bool) (records : List Record) (slot : ℕ) → slot < length records → ((k : ℕ) → k < slot → test (record_in records k) ≡ false) → test (record_in records slot) ≡ true → Some slot ≡ position test records
first_is test records slot within none here =
    let at : position_or_len test records ≡ slot = position_or_len_is test records slot Free (omega arith) none (λ lt. here) in
    let t : nat_lt (position_or_len test records) (length records) ≡ true = grind (arith, nat_tests, at, within) in
    cc (t, at)

pub none_is : (test : Record → Bool) (records : List Record) → ((k : ℕ) → k < length records → test (record_in records k) ≡ false) → None ≡ position test records
none_is test records none =
    let at : position_or_len test records ≡ length records = position_or_len_is test records (length records) Free (omega arith) none (λ lt. let no_way : ⊥ = omega arith in absurd no_way) in
    let t : nat_lt (position_or_len test records) (length records) ≡ false = grind (arith, nat_tests, at) in
    cc t
