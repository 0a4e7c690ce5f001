-- One more intention of a work that is being prepared.
use Rattle.jn_page_state.proofs.Common.{◌≡◌, ◌≢◌, inl, inr, ⊎_elim, ◌<◌, ◌+◌, ◌++◌, ℕ, zero, suc, Bool, true, false, ◌&&◌, if◌then◌else◌, List, [], ◌∷◌, length, Option, Some, None, refl, sym, ap, subst, ◌∙◌, true≢false, arith, cases_eq, nat_tests, length-append, find_past, slice_set, nat_eq, is_some, option_and_then, list_any, Tid, WorkId, work_eq, work_tells, StoredIntention, Record, Free, Intention, record_in, is_intention, stored_in, intention_of, with_first, intentions_from, stored_list, HasIntentions, HasFirst, HasNone}
use Rattle.jn_page_state.proofs.Found.{found_written}
use Rattle.jn_page_state.proofs.Slots.{passes_at, at_set, once_set}

pub none_first : (pool : List Record) (work : WorkId) → HasNone pool work → HasFirst pool work []
none_first pool work none = record {
  list_stands = refl;
  intentions = record {
    all = λ k lt. absurd (omega (arith, lt));
    once = λ k i j a b. absurd (true≢false (sym a ∙ none k i));
    no_more = λ k i t. absurd (true≢false (sym t ∙ none k i));
  };
}

module _ (pool : List Record) (slot : ℕ) (work : WorkId) (tid : Tid) (n : ℕ) (i : StoredIntention) (there : slot < length pool) (free : record_in pool slot ≡ Free) (has : HasIntentions pool work n) where
  old_fails : (k : ℕ) → is_intention work k (record_in pool slot) ≡ false
  old_fails k = ap (is_intention work k) free

  not_yet : (j : ℕ) → is_intention work n (record_in pool j) ≡ true → ⊥
  not_yet j t = let lt = has.no_more n j t in omega (arith, lt)

  none_yet : list_any (is_intention work n) pool ≡ false
  none_yet = by (list_any (is_intention work n) pool) refl
    where
      by : (b : Bool) → list_any (is_intention work n) pool ≡ b → b ≡ false
      by false e = refl
      by true e = let at = passes_at (is_intention work n) Free pool e in absurd (not_yet at.0 at.1)

  here : is_intention work n (Intention work tid n i) ≡ true
  here = grind (arith, work_tells, nat_tests)

  elsewhere : (k : ℕ) → k ≢ n → is_intention work k (Intention work tid n i) ≡ false
  elsewhere k ne = let t : nat_eq n k ≡ false = grind (arith, nat_tests, ne) in grind (arith, t)

  before : (k : ℕ) → k ≢ n → intention_of (slice_set pool slot (Intention work tid n i)) work k ≡ intention_of pool work k
  before k ne = ap (option_and_then stored_in) (find_past (is_intention work k) pool slot (Intention work tid n i) Free (old_fails k) (elsewhere k ne))

  at_last : intention_of (slice_set pool slot (Intention work tid n i)) work n ≡ Some i
  at_last = ap (option_and_then stored_in) (found_written (is_intention work n) Free pool slot (Intention work tid n i) there refl (λ j t. absurd (not_yet j t))
      ∙ ap (λ b. if b then Some (Intention work tid n i) else None) here)

  behind : (k m : ℕ) → k + m ≡ n → intentions_from (slice_set pool slot (Intention work tid n i)) work k (suc m) ≡ intentions_from pool work k m ++ i ∷ []
  behind k zero e = let at : k ≡ n = omega (arith, e) in
      ap (λ o. with_first o []) (subst (λ q. intention_of (slice_set pool slot (Intention work tid n i)) work q ≡ Some i) (sym at) at_last)
  behind k (suc m) e = ap (λ o. with_first o (intentions_from (slice_set pool slot (Intention work tid n i)) work (suc k) (suc m))) (before k (λ h. omega (arith, e, h)))
      ∙ ap (with_first (intention_of pool work k)) (behind (suc k) m (omega (arith, e))) ∙ joined (intention_of pool work k) (intentions_from pool work (suc k) m)
    where
      joined : (o : Option StoredIntention) (list : List StoredIntention) → with_first o (list ++ i ∷ []) ≡ with_first o list ++ i ∷ []
      joined None list = refl
      joined (Some x) list = refl

  has_more : HasIntentions (slice_set pool slot (Intention work tid n i)) work (suc n)
  has_more = record {
    all = λ k lt. elim (cases_eq k n) [
      | inl e ↦ ap (λ o. is_some o) (subst (λ q. intention_of (slice_set pool slot (Intention work tid n i)) work q ≡ Some i) (sym e) at_last)
      | inr ne ↦ ap (λ o. is_some o) (before k ne) ∙ has.all k (omega (arith, lt, ne))
    ];
    once = λ k. once_set Free pool slot (Intention work tid n i) there (is_intention work k) refl (has.once k) (λ t. inr (subst (λ q. list_any (is_intention work q) pool ≡ false) (last k t) none_yet));
    no_more = λ k j t. ⊎_elim
        (λ h. let e : n ≡ k = last k (ap (is_intention work k) (sym h.1) ∙ t) in omega (arith, e))
        (λ h. let lt = has.no_more k j (ap (is_intention work k) (sym h.1) ∙ t) in omega (arith, lt))
        (at_set Free pool slot (Intention work tid n i) there j);
  }
    where
      last : (k : ℕ) → (work_eq work work && nat_eq n k) ≡ true → n ≡ k
      last k t = grind (arith, nat_tests)

pub next_first : (pool : List Record) (slot : ℕ) (work : WorkId) (tid : Tid) (stored : List StoredIntention) (i : StoredIntention) → slot < length pool → record_in pool slot ≡ Free → HasFirst pool work stored
    → HasFirst (slice_set pool slot (Intention work tid (length stored) i)) work (stored ++ i ∷ [])
next_first pool slot work tid stored i there free first =
    let longer : suc (length stored) ≡ length (stored ++ i ∷ []) = let l = length-append stored (i ∷ []) in omega (arith, l) in
    record {
      list_stands = ap (stored_list (slice_set pool slot (Intention work tid (length stored) i)) work) (sym longer)
          ∙ behind pool slot work tid (length stored) i there free first.intentions 0 (length stored) (omega arith) ∙ ap (λ l. l ++ i ∷ []) first.list_stands;
      intentions = subst (HasIntentions (slice_set pool slot (Intention work tid (length stored) i)) work) longer (has_more pool slot work tid (length stored) i there free first.intentions);
    }
