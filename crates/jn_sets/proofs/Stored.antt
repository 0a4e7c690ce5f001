-- How what a store's pool holds goes on over a put.
use Rattle.jn_sets.proofs.Common.{◌≡◌, ◌≢◌, ◌⊎◌, inl, inr, ⊎_elim, ℕ, ◌^◌, ◌<◌, Bool, true, false, List, length, None, Some, refl, sym, ◌∙◌, ap, subst, arith, cases_eq, cases_lt, get_or_past, get_or-set_same, get_or-set_other, length-set, set-set, set-get_or, get_or_from_slice_get, slice_get-get_or, slice_get, slice_set, enumerate_from, values_of, set_value_at, Record, Free, Ready, Going, record_page, has_page, record_at, StoreView, IsOnly, IsSamePage, StorePut, slot_page, is_free, is_ready, prepares, record_number, going_of, ready_of, marked, record_in, members_in, IsRecord, IsStored, HoldsRecords, Says, IsIndex, Puts}
use Rattle.jn_records.proofs.RecordsAgain.{record_is_read}
use Rattle.jn_store.specs.Choices.{IsChoice, with_page}
use Rattle.jn_store.proofs.Choices.{Leads, choice_only, put_leads, with_same, with_other}
use Rattle.jn_sets.proofs.Slots.{set_numbered, values_set}

-- a record is read again from its page
pub page_says : (pages : ℕ → List ℕ) (slot : ℕ) (r : Record) → IsRecord r → pages (slot_page slot) ≡ record_page r → members_in pages slot ≡ Some r
page_says pages slot r is e = record_is_read (pages (slot_page slot)) r is.whole is.fits e

-- each choice says what the pool holds
pub holds_says : (records : List Record) (v : StoreView) (d : ℕ → List ℕ) → length records < v.count → HoldsRecords records v → IsChoice v d → Says d records
holds_says records v d there holds choice slot below =
    let stored = holds slot below in
    page_says d slot (record_in records slot) stored.of_format (choice_only v d (slot_page slot) (record_page (record_in records slot)) choice (omega arith) stored.only)

pub same_stored : (v w : StoreView) (slot : ℕ) (r : Record) → IsSamePage v w (slot_page slot) → IsStored v slot r → IsStored w slot r
same_stored v w slot r same stored = record {
  of_format = stored.of_format;
  only = record { first = same.first ∙ stored.only.first; second = same.second ∙ stored.only.second };
}

module _ (old : List Record) (v : StoreView) (slot : ℕ) (value : Record) (ok : Bool) (w : StoreView)
    (put : StorePut v (slot_page slot) (record_page value) ok w) (is : IsRecord value) (below : slot < length old) (there : length old < v.count) (holds : HoldsRecords old v) where
  in_set : (j : ℕ) → j ≡ slot → record_in (slice_set old slot value) j ≡ value
  in_set j e = subst (λ k. record_in (slice_set old slot value) k ≡ value) (sym e) (get_or-set_same old slot value Free below)

  out_of_set : (j : ℕ) → j ≢ slot → record_in (slice_set old slot value) j ≡ record_in old j
  out_of_set j ne = get_or-set_other old slot j value Free ne

  within : (j : ℕ) → j < length (slice_set old slot value) → j < length old
  within j lt = subst (λ n. j < n) (length-set old slot value) lt

  pub new_holds : ok ≡ true → HoldsRecords (slice_set old slot value) w
  new_holds done j lt = elim (cases_eq j slot) [
    | inl e ↦ subst (IsStored w j) (sym (in_set j e)) (record { of_format = is; only = subst (λ k. IsOnly w (slot_page k) (record_page value)) (sym e) (put.done done) })
    | inr ne ↦ subst (IsStored w j) (sym (out_of_set j ne)) (same_stored v w j (record_in old j) (put.others (slot_page j) (omega (arith, within j lt)) (λ e. ne (omega (arith, e)))) (holds j (within j lt)))
  ]

  says_old : (d : ℕ → List ℕ) → Leads v (λ c. c) d → Says d old
  says_old d leads j lt = ap record_at (leads.2 (slot_page j) (omega arith)) ∙ holds_says old v leads.0 there holds leads.1 j lt

  says_new : (d : ℕ → List ℕ) → Leads v (λ c. with_page c (slot_page slot) (record_page value)) d → Says d (slice_set old slot value)
  says_new d leads j lt = elim (cases_eq j slot) [
    | inl e ↦ page_says d j value is (leads.2 (slot_page j) (omega (arith, within j lt)) ∙ with_same leads.0 (slot_page slot) (record_page value) (slot_page j) (ap slot_page (sym e))) ∙ ap (λ (r : Record). Some r) (sym (in_set j e))
    | inr ne ↦ ap record_at (leads.2 (slot_page j) (omega (arith, within j lt)) ∙ with_other leads.0 (slot_page slot) (record_page value) (slot_page j) (λ e. ne (omega (arith, e))))
        ∙ holds_says old v leads.0 there holds leads.1 j (within j lt) ∙ ap (λ (r : Record). Some r) (sym (out_of_set j ne))
  ]

  pub says_old_or_new : (d : ℕ → List ℕ) → IsChoice w d → Says d old ⊎ Says d (slice_set old slot value)
  says_old_or_new d choice = ⊎_elim (λ h. inl (says_old d h)) (λ h. inr (says_new d h)) (put_leads v (slot_page slot) (record_page value) ok w put (omega arith) d choice)

module _ (old : List Record) (v : StoreView) (slot : ℕ) (value : Record) (w : StoreView) (is : IsRecord value) (below : slot < length old) (there : length old < v.count) where
  pub puts_done : (new : List Record) → StorePut v (slot_page slot) (record_page value) true w → new ≡ slice_set old slot value → Puts old v slot value true new w
  puts_done new put e = record {
    put = put;
    done = λ _. e;
    slots = ap length e ∙ length-set old slot value;
    stopped = λ h. absurd (cc h);
    holds = λ holds ok. subst (λ l. HoldsRecords l w) (sym e) (new_holds old v slot value true w put is below there holds ok);
    old_or_new = λ holds d choice. says_old_or_new old v slot value true w put is below there holds d choice;
  }

  pub puts_stopped : (ok : Bool) → ok ≡ false → StorePut v (slot_page slot) (record_page value) false w → Puts old v slot value ok old w
  puts_stopped ok err put = subst (λ b. Puts old v slot value b old w) (sym err) (record {
    put = put;
    done = λ h. absurd (cc h);
    slots = refl;
    stopped = λ _. refl;
    holds = λ _ h. absurd (cc h);
    old_or_new = λ holds d choice. says_old_or_new old v slot value false w put is below there holds d choice;
  })

-- ---- the index

pub index_set : (es : List (ℕ × Record)) (slot : ℕ) (value : Record) → IsIndex es → slot < length (values_of es) → has_page value ≡ true → IsIndex (set_value_at es slot value)
index_set es slot value is below page =
    let changed = values_set es slot value in
    record {
      few = subst (λ (l : List Record). length l < 2 ^ 16) (sym changed) (omega (arith, length-set (values_of es) slot value, is.few));
      numbered = ap (λ (l : List (ℕ × Record)). set_value_at l slot value) is.numbered ∙ set_numbered (values_of es) 0 slot value ∙ ap (enumerate_from 0) (sym changed);
      pages = λ j. ap (λ (l : List Record). has_page (record_in l j)) changed ∙ elim (cases_eq j slot) [
        | inl e ↦ ap (λ k. has_page (record_in (slice_set (values_of es) slot value) k)) e ∙ ap has_page (get_or-set_same (values_of es) slot value Free below) ∙ page
        | inr ne ↦ ap has_page (get_or-set_other (values_of es) slot j value Free ne) ∙ is.pages j
      ];
    }

-- ---- a ready record that becomes a going one

pub is_there : (records new : List Record) (slot : ℕ) (value : Record) → slot < length records → new ≡ slice_set records slot value → slice_get new slot ≡ None → ⊥
is_there records new slot value below e none =
    let some : slice_get new slot ≡ Some (record_in new slot) = slice_get-get_or new slot Free (let long = ap length e ∙ length-set records slot value in omega arith) in
    cc (none, some)

pub read_again : (records new : List Record) (slot : ℕ) (value r : Record) → slot < length records → new ≡ slice_set records slot value → slice_get new slot ≡ Some r → r ≡ value
read_again records new slot value r below e some = sym (get_or_from_slice_get new slot r Free some) ∙ ap (λ (l : List Record). record_in l slot) e ∙ get_or-set_same records slot value Free below

pub ready_within : (records : List Record) (slot : ℕ) → is_ready (record_in records slot) ≡ true → slot < length records
ready_within records slot ready = elim (cases_lt slot (length records)) [
  | inl lt ↦ lt
  | inr past ↦ absurd (cc (ap is_ready (get_or_past records slot Free past), ready))
]

-- it is found by the same number, and has a page
pub record IsLike (old new : Record) : Type 0 where
  pub number : record_number new ≡ record_number old
  pub free : is_free new ≡ is_free old
  pub prepares : prepares new ≡ prepares old
  pub page : has_page new ≡ has_page old

pub marked_like : (going : Bool) (r : Record) → prepares r ≡ true → IsLike r (marked going r)
marked_like true (Ready head intentions reads) one = record { number = refl; free = refl; prepares = refl; page = refl }
marked_like true (Going head intentions reads) one = record { number = refl; free = refl; prepares = refl; page = refl }
marked_like false (Ready head intentions reads) one = record { number = refl; free = refl; prepares = refl; page = refl }
marked_like false (Going head intentions reads) one = record { number = refl; free = refl; prepares = refl; page = refl }
marked_like going r one = absurd (cc one)

pub ready_again : (r : Record) → is_ready r ≡ true → ready_of (going_of r) ≡ r
ready_again (Ready head intentions reads) ready = refl
ready_again r ready = absurd (cc ready)

pub marked_back : (old new back : List Record) (slot : ℕ) → is_ready (record_in old slot) ≡ true → new ≡ slice_set old slot (going_of (record_in old slot)) → back ≡ slice_set new slot (ready_of (record_in new slot)) → back ≡ old
marked_back old new back slot ready e f =
    let going = going_of (record_in old slot) in
    let below = ready_within old slot ready in
    let held : record_in new slot ≡ going = ap (λ (l : List Record). record_in l slot) e ∙ get_or-set_same old slot going Free below in
    f ∙ ap (λ (r : Record). slice_set new slot (ready_of r)) held ∙ ap (slice_set new slot) (ready_again (record_in old slot) ready)
    ∙ ap (λ (l : List Record). slice_set l slot (record_in old slot)) e ∙ set-set old slot going (record_in old slot) ∙ set-get_or old slot Free
