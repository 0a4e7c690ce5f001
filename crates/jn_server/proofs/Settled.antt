-- A storage that lists no work and no flag has none.
use Rattle.jn_server.proofs.Common.{◌≡◌, Bool, true, false, not, true≢false, List, [], ◌∷◌, length, map, Option, Some, None, is_some, refl, sym, ◌∙◌, ap, arith, ◌||◌, nat_tests, is_in, IsListing, WorkId, Tid, work_eq, tid_eq, work_tells, tid_tells, StorageView, state, name_of, ◌↔◌, ◌==◌, IsFalse, length-map, WorkState, tid_of, TellsWorks, TellsFlags, IsSettledState}
use Rattle.jn_records.specs.declared.flag.Flag.{Flag}

module _ {K V : Type 0} (eq : K → K → Bool) (at : K → Option V) where
  pub none-there : (keys : List K) → IsListing eq (λ k. is_some (at k)) keys → length keys ≡ 0 → (k : K) → at k ≡ None
  none-there [] h e k = by (at k) (h.all k)
    where
      by : (o : Option V) → false ≡ is_some o → o ≡ None
      by None e = refl
      by (Some x) e = absurd (true≢false (sym e))
  none-there (x ∷ keys) h e k = absurd (omega (arith, e))

  pub none-listed : ((k : K) → eq k k ≡ true) → (keys : List K) → IsListing eq (λ k. is_some (at k)) keys → ((k : K) → at k ≡ None) → length keys ≡ 0
  none-listed same [] h none = refl
  none-listed same (x ∷ keys) h none = absurd (true≢false (ap (λ (b : Bool). b || is_in eq x keys) (sym (same x)) ∙ h.all x ∙ ap (λ (o : Option V). is_some o) (none x)))

-- ---- whether a list is empty

is-none : {A : Type 0} (xs : List A) (b : Bool) → b ≡ (length xs == 0) → b ≡ true → length xs ≡ 0
is-none xs b e h = grind (arith, nat_tests, e, h)

is-empty : {A : Type 0} (xs : List A) (b : Bool) → b ≡ (length xs == 0) → length xs ≡ 0 → b ≡ true
is-empty xs b e h = grind (arith, nat_tests, e, h)

is-true : (b : Bool) → IsFalse (not b) → b ≡ true
is-true true h = refl
is-true false h = absurd (true≢false h)

same-work : (W : WorkId) → work_eq W W ≡ true
same-work W = grind (arith, work_tells W W)

same-tid : (T : Tid) → tid_eq T T ≡ true
same-tid T = grind (arith, tid_tells T T)

module _ (x : StorageView) (works : List WorkState) (told : TellsWorks x works) (a : Bool) (is : a ≡ (length works == 0)) where
  works-empty : IsSettledState (state x) → a ≡ true
  works-empty h = is-empty works a is (sym (length-map works name_of) ∙ none-listed work_eq (state x).works same-work (map name_of works) told.all h.works)

  -- a work is prepared
  pub waits : a ≡ false → IsFalse (not a) ↔ IsSettledState (state x)
  waits some = ((λ h. absurd (true≢false (sym (is-true a h) ∙ some))), (λ h. absurd (true≢false (sym (works-empty h) ∙ some))))

  -- none is, so it goes by the flags
  pub waits-for-flags : (flags : List Flag) → TellsFlags x flags → (b : Bool) → b ≡ (length flags == 0) → a ≡ true → IsFalse (not b) ↔ IsSettledState (state x)
  waits-for-flags flags tells b empty none = (
    (λ h. record {
      works = none-there work_eq (state x).works (map name_of works) told.all (length-map works name_of ∙ is-none works a is none);
      flags = none-there tid_eq (state x).flags (map tid_of flags) tells.all (length-map flags tid_of ∙ is-none flags b empty (is-true b h));
    }),
    (λ h. ap not (is-empty flags b empty (sym (length-map flags tid_of) ∙ none-listed tid_eq (state x).flags same-tid (map tid_of flags) tells.all h.flags))),
  )
