-- Records are found by their numbers.
use Rattle.jn_sets.proofs.Common.{◌≡◌, inl, inr, ⊎_elim, ℕ, ◌+◌, ◌≤◌, ◌<◌, Bool, true, false, List, [], ◌∷◌, ◌++◌, length, Option, Some, None, refl, sym, ◌∙◌, ap, subst, arith, get_or-append, get_or-append_seam, cases_eq, cases_lt, false_from_ne_true, nat_tests, get_or-set_same, get_or-set_other, get_or_past, length-set, length-append, set-get_or, position_or_len_is, sum_by-set, sum_by-append, sum_by-remove, position, nat_eq, nat_lt, slice_set, count_by, cond, ◌&&◌, values_of, position_or_len, sum_by, remove, WorkId, tid_eq, work_eq, tid_tells, work_tells, number_at, IsSlotFrom, Record, Free, Intention, Ready, Going, FlagRecord, record_in, is_free, prepares, is_wanted, record_number, number_wanted, spread, AreCounted, ones}
use Rattle.jn_base.specs.declared.names.Tid.{Tid}
use Rattle.jn_sets.specs.declared.find.Wanted.{Wanted}
use Rattle.jn_sets.specs.declared.find.Wanted.TheVariants.{Prepared, Intention as WantedIntention, Flag as WantedFlag}
use Rattle.jn_sets.proofs.Slots.{values_push}

same_work : (a b : WorkId) (kind : ℕ) → work_eq a b ≡ true → spread a.ticket kind ≡ spread b.ticket kind
same_work a b kind e = ⊎_elim (λ h. ap (λ (w : WorkId). spread w.ticket kind) h.1) (λ h. let no = h.0 in absurd (cc (no, e))) (work_tells a b)

same_tid : (a b : Tid) (kind : ℕ) → tid_eq a b ≡ true → spread a.ticket kind ≡ spread b.ticket kind
same_tid a b kind e = ⊎_elim (λ h. ap (λ (t : Tid). spread t.ticket kind) h.1) (λ h. let no = h.0 in absurd (cc (no, e))) (tid_tells a b)

same_intention : (a b : WorkId) (o p : ℕ) (w n : Bool) → work_eq a b ≡ w → nat_eq o p ≡ n → w ≡ true → n ≡ true → spread a.ticket (o + 2) ≡ spread b.ticket (p + 2)
same_intention a b o p w n ew en tw tn =
    let same : o ≡ p = let t : nat_eq o p ≡ true = en ∙ tn in grind (arith, nat_tests, t) in
    same_work a b (o + 2) (ew ∙ tw) ∙ ap (λ (k : ℕ). spread b.ticket (k + 2)) same

pub has_number : (wanted : Wanted) (r : Record) → is_wanted wanted r ≡ true → record_number r ≡ Some (number_wanted wanted)
has_number (Prepared work) Free e = absurd (cc e)
has_number (Prepared work) (Intention w t o i) e = absurd (cc e)
has_number (Prepared work) (Ready h n rs) e = ap (λ (k : ℕ). Some k) (same_work h.work work 0 e)
has_number (Prepared work) (Going h n rs) e = ap (λ (k : ℕ). Some k) (same_work h.work work 0 e)
has_number (Prepared work) (FlagRecord f) e = absurd (cc e)
has_number (WantedIntention work order) Free e = absurd (cc e)
has_number (WantedIntention work order) (Intention w t o i) e = ap (λ (k : ℕ). Some k) (by (work_eq w work) (nat_eq o order) refl refl e)
  where
    by : (a b : Bool) → work_eq w work ≡ a → nat_eq o order ≡ b → (a && b) ≡ true → spread w.ticket (o + 2) ≡ spread work.ticket (order + 2)
    by true true ea eb t = same_intention w work o order true true ea eb refl refl
    by true false ea eb t = absurd (cc t)
    by false b ea eb t = absurd (cc t)
has_number (WantedIntention work order) (Ready h n rs) e = absurd (cc e)
has_number (WantedIntention work order) (Going h n rs) e = absurd (cc e)
has_number (WantedIntention work order) (FlagRecord f) e = absurd (cc e)
has_number (WantedFlag tid) Free e = absurd (cc e)
has_number (WantedFlag tid) (Intention w t o i) e = absurd (cc e)
has_number (WantedFlag tid) (Ready h n rs) e = absurd (cc e)
has_number (WantedFlag tid) (Going h n rs) e = absurd (cc e)
has_number (WantedFlag tid) (FlagRecord f) e = ap (λ (k : ℕ). Some k) (same_tid f.tid tid 1 e)

module _ (numbers : List (Option ℕ)) (free prepared : ℕ) (records : List Record) (are : AreCounted numbers free prepared records) (slots : length numbers ≡ length records) (wanted : Wanted) (from : ℕ)
    (none_yet : (k : ℕ) → k < from → is_wanted wanted (record_in records k) ≡ false) where
  pub slot_within : (slot : ℕ) → IsSlotFrom numbers (number_wanted wanted) from slot → slot < length records
  slot_within slot found = elim (cases_lt slot (length records)) [
    | inl lt ↦ lt
    | inr le ↦ absurd (let none : number_at numbers slot ≡ None = get_or_past numbers slot None (omega arith) in let some = found.here in cc (none, some))
  ]

  none_below : (slot : ℕ) → IsSlotFrom numbers (number_wanted wanted) from slot → (k : ℕ) → k < slot → is_wanted wanted (record_in records k) ≡ false
  none_below slot found k lt = elim (cases_lt k from) [
    | inl low ↦ none_yet k low
    | inr le ↦ false_from_ne_true (is_wanted wanted (record_in records k)) (λ e.
        let within = slot_within slot found in
        let up : slot ≤ k = found.lowest k le (are.each k (omega arith) ∙ has_number wanted (record_in records k) e) in
        let no_way : ⊥ = omega arith in no_way)
  ]

  pub found_first : (slot : ℕ) → IsSlotFrom numbers (number_wanted wanted) from slot → is_wanted wanted (record_in records slot) ≡ true → Some slot ≡ position (is_wanted wanted) records
  found_first slot found here =
      let within = slot_within slot found in
      let at : position_or_len (is_wanted wanted) records ≡ slot = position_or_len_is (is_wanted wanted) records slot Free (omega arith) (none_below slot found) (λ lt. here) in
      let t : nat_lt (position_or_len (is_wanted wanted) records) (length records) ≡ true = grind (arith, nat_tests, at, within) in
      cc (t, at)

  pub past_it : (slot : ℕ) → IsSlotFrom numbers (number_wanted wanted) from slot → is_wanted wanted (record_in records slot) ≡ false → (k : ℕ) → k < slot + 1 → is_wanted wanted (record_in records k) ≡ false
  past_it slot found here k lt = elim (cases_eq k slot) [
    | inl same ↦ ap (λ (i : ℕ). is_wanted wanted (record_in records i)) same ∙ here
    | inr ne ↦ none_below slot found k (omega arith)
  ]

  pub none_found : ((slot : ℕ) → from ≤ slot → number_at numbers slot ≡ Some (number_wanted wanted) → ⊥) → None ≡ position (is_wanted wanted) records
  none_found none =
      let each : (k : ℕ) → k < length records → is_wanted wanted (record_in records k) ≡ false = λ k lt. elim (cases_lt k from) [
        | inl low ↦ none_yet k low
        | inr le ↦ false_from_ne_true (is_wanted wanted (record_in records k)) (λ e. none k le (are.each k lt ∙ has_number wanted (record_in records k) e))
      ] in
      let at : position_or_len (is_wanted wanted) records ≡ length records = position_or_len_is (is_wanted wanted) records (length records) Free (omega arith) each (λ lt. let no_way : ⊥ = omega arith in absurd no_way) in
      let t : nat_lt (position_or_len (is_wanted wanted) records) (length records) ≡ false = grind (arith, nat_tests, at) in
      cc t

pub some_pass : (test : Record → Bool) (records : List Record) (slot : ℕ) → slot < length records → test (record_in records slot) ≡ true → 0 < count_by test records
some_pass test records slot below e =
    let step : sum_by (λ (r : Record). cond (test r) 1 0) (remove records slot) + ones (test (record_in records slot)) ≡ count_by test records = sum_by-remove (λ (r : Record). cond (test r) 1 0) records slot Free below in
    let one : ones (test (record_in records slot)) ≡ 1 = ap ones e in
    omega arith

set_counts : (test : Record → Bool) (records : List Record) (slot before after : ℕ) (value : Record) → slot < length records → before ≡ count_by test records
    → after + ones (test (record_in records slot)) ≡ before + ones (test value) → after ≡ count_by test (slice_set records slot value)
set_counts test records slot before after value below was sum =
    let step : count_by test (slice_set records slot value) + ones (test (record_in records slot)) ≡ count_by test records + ones (test value) = sum_by-set (λ (r : Record). cond (test r) 1 0) records slot value Free below in
    omega arith

last_counts : (test : Record → Bool) (records : List Record) (before after : ℕ) (value : Record) → before ≡ count_by test records → after ≡ before + ones (test value) → after ≡ count_by test (records ++ value ∷ [])
last_counts test records before after value was sum =
    let step : count_by test (records ++ value ∷ []) ≡ count_by test records + (0 + ones (test value)) = sum_by-append (λ (r : Record). cond (test r) 1 0) records (value ∷ []) in
    omega arith

-- ---- a record takes a slot's place, or goes last

module _ (numbers : List (Option ℕ)) (free prepared : ℕ) (records : List Record) (are : AreCounted numbers free prepared records) (value : Record) (count works : ℕ) where
  pub counted_set : (slot : ℕ) → slot < length records → length numbers ≡ length records → count + ones (is_free (record_in records slot)) ≡ free + ones (is_free value)
      → works + ones (prepares (record_in records slot)) ≡ prepared + ones (prepares value)
      → AreCounted (slice_set numbers slot (record_number value)) count works (slice_set records slot value)
  counted_set slot below slots sum sums = record {
    each = λ k lt. elim (cases_eq k slot) [
      | inl same ↦ subst (λ (i : ℕ). number_at (slice_set numbers slot (record_number value)) i ≡ record_number (record_in (slice_set records slot value) i)) (sym same)
          (get_or-set_same numbers slot (record_number value) None (omega arith) ∙ ap record_number (sym (get_or-set_same records slot value Free below)))
      | inr ne ↦ get_or-set_other numbers slot k (record_number value) None ne ∙ are.each k (let same = length-set records slot value in omega arith)
          ∙ ap record_number (sym (get_or-set_other records slot k value Free ne))
    ];
    free_is = set_counts is_free records slot free count value below are.free_is sum;
    prepared_is = set_counts prepares records slot prepared works value below are.prepared_is sums;
  }

  -- a record that is found and counted as the one before
  pub counted_like : (slot : ℕ) → slot < length records → length numbers ≡ length records → record_number value ≡ record_number (record_in records slot) → is_free value ≡ is_free (record_in records slot)
      → prepares value ≡ prepares (record_in records slot) → count ≡ free → works ≡ prepared → AreCounted numbers count works (slice_set records slot value)
  counted_like slot below slots number is is_one same sames =
      subst (λ (l : List (Option ℕ)). AreCounted l count works (slice_set records slot value))
      (ap (slice_set numbers slot) (number ∙ sym (are.each slot below)) ∙ set-get_or numbers slot None)
      (counted_set slot below slots (let flag = ap ones is in omega arith) (let flag = ap ones is_one in omega arith))

  pub counted_last : length numbers ≡ length records → count ≡ free + ones (is_free value) → works ≡ prepared + ones (prepares value)
      → AreCounted (numbers ++ record_number value ∷ []) count works (records ++ value ∷ [])
  counted_last slots sum sums = record {
    each = λ k lt. elim (cases_eq k (length records)) [
      | inl same ↦ subst (λ (i : ℕ). number_at (numbers ++ record_number value ∷ []) i ≡ record_number (record_in (records ++ value ∷ []) i)) (sym same)
          (ap (number_at (numbers ++ record_number value ∷ [])) (sym slots) ∙ get_or-append_seam numbers (record_number value) [] None ∙ ap record_number (sym (get_or-append_seam records value [] Free)))
      | inr ne ↦ let low : k < length records = let long = length-append records (value ∷ []) in omega arith in
          get_or-append numbers (record_number value ∷ []) None k (omega arith) ∙ are.each k low ∙ ap record_number (sym (get_or-append records (value ∷ []) Free k low))
    ];
    free_is = last_counts is_free records free count value are.free_is sum;
    prepared_is = last_counts prepares records prepared works value are.prepared_is sums;
  }

-- as the code has it, where the last record is put into the index
pub counted_more : (numbers : List (Option ℕ)) (free prepared : ℕ) (entries next : List (ℕ × Record)) (n : ℕ) (value : Record) (after : List (Option ℕ)) (number : Option ℕ) (count works : ℕ) (is is_one : Bool)
    → AreCounted numbers free prepared (values_of entries) → length (values_of entries) ≡ n → length numbers ≡ n → number ≡ record_number value → after ≡ numbers ++ number ∷ []
    → is ≡ is_free value → count + ones false ≡ free + ones is → is_one ≡ prepares value → works + ones false ≡ prepared + ones is_one → next ≡ entries ++ (n, value) ∷ []
    → AreCounted after count works (values_of next)
counted_more numbers free prepared entries next n value after number count works is is_one are long slots number_is after_is is_is sum one_is sums e =
    subst (λ (l : List Record). AreCounted after count works l) (sym (ap values_of e ∙ values_push entries n value))
    (subst (λ (l : List (Option ℕ)). AreCounted l count works (values_of entries ++ value ∷ []))
    (ap (λ (k : Option ℕ). numbers ++ k ∷ []) (sym number_is) ∙ sym after_is)
    (counted_last numbers free prepared (values_of entries) are value count works (slots ∙ sym long) (one_more is (is_free value) free count is_is sum) (one_more is_one (prepares value) prepared works one_is sums)))
  where
    one_more : (a b : Bool) (before after : ℕ) → a ≡ b → after + ones false ≡ before + ones a → after ≡ before + ones b
    one_more a b before after e sum = let flag : ones a ≡ ones b = ap ones e in let none : ones false ≡ 0 = refl in omega arith
