-- Answers that follow their commands, line by line.
use Rattle.jn_judged.proofs.Common.{◌≡◌, ◌⊎◌, inl, inr, ℕ, zero, suc, ◌+◌, ◌≤◌, Bool, true, false, ◌&&◌, ◌||◌, not, if◌then◌else◌, List, [], ◌∷◌, ◌++◌, length, Option, Some, None, is_some, nat_eq, refl, sym, ◌∙◌, ap, subst, arith, append_assoc, append-nil, nat_tests, cases_Bool, ◌↔◌, Event, When, AtEvent, End, Text, Line, lines_at, when_eq, event_at, count_lines, is_answer, is_own_refusal, answer_in, cond, speaks_to, lines_at-append, Outstanding, nothing_asked, after_event, after_one, after_answer, after_answers, fits, AllFit, own_in_place, AllOwnInPlace, IsOfEvent, AllOfEvents, FollowsEvent, FollowsFrom, Follows, outstanding_behind, outstanding_at, fits_event, fits_number, fits_when, breaks_following}
use Rattle.std.proofs.lemmas.List.Sums.{sum_by-cons}
use Rattle.jn_report.specs.declared.kinds.Addressed.{Addressed}
use Rattle.jn_report.specs.declared.line.Text.TheVariants as says
use Rattle.jn_judged.proofs.Sets.{clash, not-so, both-true}
use Rattle.jn_judged.proofs.Splits.{NoneBreaksFrom, NoneBreaks, lines_at-take, lines_at-skip}

-- ---- the lines of one event

one-taken : (before : List Line) (l : Line) (w : When) → when_eq l.when w ≡ true → lines_at w (before ++ l ∷ []) ≡ lines_at w before ++ l ∷ []
one-taken before l w h = lines_at-append w before (l ∷ []) ∙ ap (λ (ls : List Line). lines_at w before ++ ls) (lines_at-take l w [] h)

one-skipped : (before : List Line) (l : Line) (w : When) → when_eq l.when w ≡ false → lines_at w (before ++ l ∷ []) ≡ lines_at w before
one-skipped before l w h = lines_at-append w before (l ∷ []) ∙ ap (λ (ls : List Line). lines_at w before ++ ls) (lines_at-skip l w [] h) ∙ append-nil (lines_at w before)

-- ---- one event

abbrev own_refusals : List Line → ℕ
own_refusals lines = count_lines is_own_refusal lines

-- a line of the event is no answer, or answers what is outstanding behind the lines before it
abbrev is_well : Outstanding → ℕ → Event → List Line → Text → Bool
is_well out i e here text = not (is_answer text) || fits_event out i e here text

abbrev AllWell : Outstanding → ℕ → Event → List Line → List Line → Type 0
AllWell out i e here [] = Unit {0}
AllWell out i e here (l ∷ ls) = (is_well out i e here l.text ≡ true) × AllWell out i e (here ++ l ∷ []) ls

after-one : (out : Outstanding) (here : List Line) (l : Line) → after_answers out (here ++ l ∷ []) ≡ after_answer (after_answers out here) (answer_in l.text) l.text
after-one out [] l = refl
after-one out (x ∷ here) l = after-one (after_answer out (answer_in x.text) x.text) here l

-- ---- what one text says

own-fits : (out : Outstanding) (text : Text) → is_own_refusal text ≡ true → fits out (answer_in text) text ≡ true
own-fits out text h = rw h refl

other-in-place : (i : ℕ) (e : Event) (text : Text) → is_own_refusal text ≡ false → own_in_place i e text ≡ true
other-in-place i e (says.Refused c j refusal) h = rw h refl
other-in-place i e _ h = refl

no-answer : (text : Text) → is_answer text ≡ false → is_own_refusal text ≡ false
no-answer (says.Refused c j refusal) h = cc h
no-answer _ h = refl

no-answer-fits : (out : Outstanding) (text : Text) → is_answer text ≡ false → fits out (answer_in text) text ≡ true
no-answer-fits out text h = by (speaks_to text) h (is_own_refusal text)
  where
    by : (o : Option Addressed) → is_some o ≡ false → (b : Bool) → fits out (if b then None else o) text ≡ true
    by None k true = refl
    by None k false = refl
    by (Some a) k b = cc k

record FitsHere (out : Outstanding) (i : ℕ) (e : Event) (here : List Line) (text : Text) : Type 0 where
  fit : fits (after_answers out here) (answer_in text) text ≡ true
  own : own_in_place i e text ≡ true
  first : is_own_refusal text ≡ true → own_refusals here ≡ 0

well-to : (out : Outstanding) (i : ℕ) (e : Event) (here : List Line) (text : Text) → is_well out i e here text ≡ true → FitsHere out i e here text
well-to out i e here text h = by (is_answer text) refl
  where
    owned : is_own_refusal text ≡ true → fits_event out i e here text ≡ true → FitsHere out i e here text
    owned o a = let both = both-true (own_in_place i e text) (nat_eq (own_refusals here) 0) (subst (λ (b : Bool). (if b then own_in_place i e text && nat_eq (own_refusals here) 0 else fits (after_answers out here) (answer_in text) text) ≡ true) o a) in let none = both.1 in record { fit = own-fits (after_answers out here) text o; own = both.0; first = λ x. grind (arith, none, nat_tests) }

    other : is_own_refusal text ≡ false → fits_event out i e here text ≡ true → FitsHere out i e here text
    other o a = record { fit = subst (λ (b : Bool). (if b then own_in_place i e text && nat_eq (own_refusals here) 0 else fits (after_answers out here) (answer_in text) text) ≡ true) o a; own = other-in-place i e text o; first = λ x. clash (is_own_refusal text) x o }

    answered : is_answer text ≡ true → fits_event out i e here text ≡ true
    answered a = cc (a, h)

    by : (b : Bool) → is_answer text ≡ b → FitsHere out i e here text
    by true a = elim (cases_Bool (is_own_refusal text)) [ inl o ↦ owned o (answered a) | inr o ↦ other o (answered a) ]
    by false a = record { fit = no-answer-fits (after_answers out here) text a; own = other-in-place i e text (no-answer text a); first = λ x. clash (is_own_refusal text) x (no-answer text a) }

fits-from : (out : Outstanding) (i : ℕ) (e : Event) (here : List Line) (text : Text) → FitsHere out i e here text → fits_event out i e here text ≡ true
fits-from out i e here text h = by (is_own_refusal text) refl
  where
    none : is_own_refusal text ≡ true → nat_eq (own_refusals here) 0 ≡ true
    none o = let z = h.first o in grind (arith, z, nat_tests)

    by : (b : Bool) → is_own_refusal text ≡ b → (if b then own_in_place i e text && nat_eq (own_refusals here) 0 else fits (after_answers out here) (answer_in text) text) ≡ true
    by true o = rw (h.own, none o) refl
    by false o = h.fit

well-from : (out : Outstanding) (i : ℕ) (e : Event) (here : List Line) (text : Text) → FitsHere out i e here text → is_well out i e here text ≡ true
well-from out i e here text h = rw (fits-from out i e here text h) (by (is_answer text))
  where
    by : (b : Bool) → (not b || true) ≡ true
    by true = refl
    by false = refl

-- ---- a client's own refusals

abbrev one_if : Bool → ℕ
one_if b = if b then 1 else 0

-- with so many before, each is the first
abbrev OnceFrom : ℕ → List Line → Type 0
OnceFrom n [] = Unit {0}
OnceFrom n (l ∷ ls) = (is_own_refusal l.text ≡ true → n ≡ 0) × OnceFrom (n + one_if (is_own_refusal l.text)) ls

count-front : (l : Line) (ls : List Line) → own_refusals (l ∷ ls) ≡ one_if (is_own_refusal l.text) + own_refusals ls
count-front l ls = sum_by-cons (λ (x : Line). cond (is_own_refusal x.text) 1 0) l ls ∙ ap (λ (n : ℕ). n + own_refusals ls) (same (is_own_refusal l.text))
  where
    same : (b : Bool) → cond b 1 0 ≡ one_if b
    same true = refl
    same false = refl

count-one : (here : List Line) (l : Line) → own_refusals (here ++ l ∷ []) ≡ own_refusals here + one_if (is_own_refusal l.text)
count-one [] l = let front = count-front l [] in omega (arith, front)
count-one (x ∷ here) l = let front = count-front x (here ++ l ∷ []) in let more = count-front x here in let rest = count-one here l in omega (arith, front, more, rest)

once-to : (n : ℕ) (ls : List Line) → OnceFrom n ls → (own_refusals ls ≡ 0) ⊎ (n + own_refusals ls ≤ 1)
once-to n [] h = inl refl
once-to n (l ∷ ls) h = by (is_own_refusal l.text) refl (once-to (n + one_if (is_own_refusal l.text)) ls h.1)
  where
    by : (b : Bool) → is_own_refusal l.text ≡ b → (own_refusals ls ≡ 0) ⊎ (n + one_if (is_own_refusal l.text) + own_refusals ls ≤ 1) → (own_refusals (l ∷ ls) ≡ 0) ⊎ (n + own_refusals (l ∷ ls) ≤ 1)
    by true e (inl k) = let front = count-front l ls in let one = ap one_if e in let zero_is = h.0 e in inr (omega (arith, front, one, zero_is, k))
    by true e (inr k) = let front = count-front l ls in let one = ap one_if e in let zero_is = h.0 e in inr (omega (arith, front, one, zero_is, k))
    by false e (inl k) = let front = count-front l ls in let one = ap one_if e in inl (omega (arith, front, one, k))
    by false e (inr k) = let front = count-front l ls in let one = ap one_if e in inr (omega (arith, front, one, k))

once-from : (n : ℕ) (ls : List Line) → (own_refusals ls ≡ 0) ⊎ (n + own_refusals ls ≤ 1) → OnceFrom n ls
once-from n [] h = tt
once-from n (l ∷ ls) h = (first h, once-from (n + one_if (is_own_refusal l.text)) ls (rest h))
  where
    first : (own_refusals (l ∷ ls) ≡ 0) ⊎ (n + own_refusals (l ∷ ls) ≤ 1) → is_own_refusal l.text ≡ true → n ≡ 0
    first (inl k) e = let front = count-front l ls in let one = ap one_if e in absurd (omega (arith, front, one, k))
    first (inr k) e = let front = count-front l ls in let one = ap one_if e in omega (arith, front, one, k)

    rest : (own_refusals (l ∷ ls) ≡ 0) ⊎ (n + own_refusals (l ∷ ls) ≤ 1) → (own_refusals ls ≡ 0) ⊎ (n + one_if (is_own_refusal l.text) + own_refusals ls ≤ 1)
    rest (inl k) = let front = count-front l ls in inl (omega (arith, front, k))
    rest (inr k) = let front = count-front l ls in inr (omega (arith, front, k))

-- ---- the lines of one event

module _ (out : Outstanding) (i : ℕ) (e : Event) where
  record EventKeeps (here ls : List Line) : Type 0 where
    fit : AllFit (after_answers out here) ls
    own : AllOwnInPlace i e ls
    once : OnceFrom (own_refusals here) ls

  keeps-to : (here ls : List Line) → AllWell out i e here ls → EventKeeps here ls
  keeps-to here [] h = record { fit = tt; own = tt; once = tt }
  keeps-to here (l ∷ ls) h = let one = well-to out i e here l.text h.0 in let rest = keeps-to (here ++ l ∷ []) ls h.1 in record {
    fit = (one.fit, subst (λ (o : Outstanding). AllFit o ls) (after-one out here l) rest.fit);
    own = (one.own, rest.own);
    once = (one.first, subst (λ (n : ℕ). OnceFrom n ls) (count-one here l) rest.once);
  }

  keeps-from : (here ls : List Line) → EventKeeps here ls → AllWell out i e here ls
  keeps-from here [] h = tt
  keeps-from here (l ∷ ls) h = (
    well-from out i e here l.text (record { fit = h.fit.0; own = h.own.0; first = h.once.0 }),
    keeps-from (here ++ l ∷ []) ls (record {
      fit = subst (λ (o : Outstanding). AllFit o ls) (sym (after-one out here l)) h.fit.1;
      own = h.own.1;
      once = subst (λ (n : ℕ). OnceFrom n ls) (sym (count-one here l)) h.once.1;
    }),
  )

  -- those among all lines
  abbrev WellAmong : List Line → List Line → Type 0
  WellAmong before [] = Unit {0}
  WellAmong before (l ∷ ls) = (when_eq l.when (AtEvent i) ≡ true → is_well out i e (lines_at (AtEvent i) before) l.text ≡ true) × WellAmong (before ++ l ∷ []) ls

  among-to : (before rest : List Line) → WellAmong before rest → AllWell out i e (lines_at (AtEvent i) before) (lines_at (AtEvent i) rest)
  among-to before [] h = tt
  among-to before (l ∷ ls) h = elim (cases_Bool (when_eq l.when (AtEvent i))) [
    | inl w ↦ subst (AllWell out i e (lines_at (AtEvent i) before)) (sym (lines_at-take l (AtEvent i) ls w)) (h.0 w, subst (λ (here : List Line). AllWell out i e here (lines_at (AtEvent i) ls)) (one-taken before l (AtEvent i) w) (among-to (before ++ l ∷ []) ls h.1))
    | inr w ↦ subst (AllWell out i e (lines_at (AtEvent i) before)) (sym (lines_at-skip l (AtEvent i) ls w)) (subst (λ (here : List Line). AllWell out i e here (lines_at (AtEvent i) ls)) (one-skipped before l (AtEvent i) w) (among-to (before ++ l ∷ []) ls h.1))
  ]

  among-from : (before rest : List Line) → AllWell out i e (lines_at (AtEvent i) before) (lines_at (AtEvent i) rest) → WellAmong before rest
  among-from before [] h = tt
  among-from before (l ∷ ls) h = elim (cases_Bool (when_eq l.when (AtEvent i))) [ inl w ↦ taken w (subst (AllWell out i e (lines_at (AtEvent i) before)) (lines_at-take l (AtEvent i) ls w) h) (among-from (before ++ l ∷ []) ls) | inr w ↦ skipped w (subst (AllWell out i e (lines_at (AtEvent i) before)) (lines_at-skip l (AtEvent i) ls w) h) (among-from (before ++ l ∷ []) ls) ]
    where
      taken : when_eq l.when (AtEvent i) ≡ true → AllWell out i e (lines_at (AtEvent i) before) (l ∷ lines_at (AtEvent i) ls) → (AllWell out i e (lines_at (AtEvent i) (before ++ l ∷ [])) (lines_at (AtEvent i) ls) → WellAmong (before ++ l ∷ []) ls) → WellAmong before (l ∷ ls)
      taken w k more = (λ v. k.0, more (subst (λ (here : List Line). AllWell out i e here (lines_at (AtEvent i) ls)) (sym (one-taken before l (AtEvent i) w)) k.1))

      skipped : when_eq l.when (AtEvent i) ≡ false → AllWell out i e (lines_at (AtEvent i) before) (lines_at (AtEvent i) ls) → (AllWell out i e (lines_at (AtEvent i) (before ++ l ∷ [])) (lines_at (AtEvent i) ls) → WellAmong (before ++ l ∷ []) ls) → WellAmong before (l ∷ ls)
      skipped w k more = (λ v. clash (when_eq l.when (AtEvent i)) v w, more (subst (λ (here : List Line). AllWell out i e here (lines_at (AtEvent i) ls)) (sym (one-skipped before l (AtEvent i) w)) k))

-- ---- events by their numbers

some-within : (es : List Event) (i : ℕ) (e : Event) → event_at es i ≡ Some e → (1 ≤ i) × (i ≤ length es)
some-within [] i e h = cc h
some-within (x ∷ es) zero e h = cc h
some-within (x ∷ es) (suc zero) e h = (omega arith, omega arith)
some-within (x ∷ es) (suc (suc n)) e h = let more = some-within es (suc n) e h in let last = more.1 in (omega arith, omega (arith, last))

within-some : (es : List Event) (i : ℕ) → 1 ≤ i → i ≤ length es → (e : Event) × (event_at es i ≡ Some e)
within-some [] i h k = absurd (omega (arith, h, k))
within-some (x ∷ es) zero h k = absurd (omega (arith, h))
within-some (x ∷ es) (suc zero) h k = (x, refl)
within-some (x ∷ es) (suc (suc n)) h k = within-some es (suc n) (omega arith) (omega (arith, k))

-- each event follows, told with its number
abbrev AllFollow : Outstanding → ℕ → List Event → List Line → Type 0
AllFollow out number es lines = (k : ℕ) (e : Event) → event_at es (suc k) ≡ Some e → FollowsEvent (outstanding_behind k out number es lines) (number + k) e (lines_at (AtEvent (number + k)) lines)

all-follow-to : (out : Outstanding) (number : ℕ) (es : List Event) (lines : List Line) → FollowsFrom out number es lines → AllFollow out number es lines
all-follow-to out number [] lines h k e s = cc s
all-follow-to out number (x ∷ es) lines h zero e s = subst (λ (y : Event). FollowsEvent out (number + 0) y (lines_at (AtEvent (number + 0)) lines)) (some-inj s) (subst (λ (n : ℕ). FollowsEvent out n x (lines_at (AtEvent n) lines)) (plus-zero number) h.0)
  where
    some-inj : Some x ≡ Some e → x ≡ e
    some-inj s = cc s

    plus-zero : (n : ℕ) → n ≡ n + 0
    plus-zero n = omega arith
all-follow-to out number (x ∷ es) lines h (suc k) e s = subst (λ (n : ℕ). FollowsEvent (outstanding_behind k (after_one out number x (lines_at (AtEvent number) lines)) (number + 1) es lines) n e (lines_at (AtEvent n) lines)) (shift number k)
    (all-follow-to (after_one out number x (lines_at (AtEvent number) lines)) (number + 1) es lines h.1 k e s)
  where
    shift : (n k : ℕ) → n + 1 + k ≡ n + suc k
    shift n k = omega arith

all-follow-from : (out : Outstanding) (number : ℕ) (es : List Event) (lines : List Line) → AllFollow out number es lines → FollowsFrom out number es lines
all-follow-from out number [] lines h = tt
all-follow-from out number (x ∷ es) lines h = (
  subst (λ (n : ℕ). FollowsEvent out n x (lines_at (AtEvent n) lines)) (plus-zero number) (h zero x refl),
  all-follow-from (after_one out number x (lines_at (AtEvent number) lines)) (number + 1) es lines (λ k e s. subst (λ (n : ℕ). FollowsEvent (outstanding_behind k (after_one out number x (lines_at (AtEvent number) lines)) (number + 1) es lines) n e (lines_at (AtEvent n) lines)) (shift number k) (h (suc k) e s)),
)
  where
    plus-zero : (n : ℕ) → n + 0 ≡ n
    plus-zero n = omega arith

    shift : (n k : ℕ) → n + suc k ≡ n + 1 + k
    shift n k = omega arith

-- ---- all lines

module _ (events : List Event) (full : List Line) where
  abbrev breaks_in : List Line → Line → Bool
  breaks_in before l = is_answer l.text && not (fits_when events full before l.text l.when)

  abbrev NoneIn : List Line → List Line → Type 0
  NoneIn before [] = Unit {0}
  NoneIn before (l ∷ ls) = (breaks_in before l ≡ false) × NoneIn (before ++ l ∷ []) ls

  -- what a line owes
  record Owes (before : List Line) (w : When) (text : Text) : Type 0 where
    of_event : is_answer text ≡ true → IsOfEvent (length events) w
    well : (i : ℕ) (e : Event) → event_at events i ≡ Some e → when_eq w (AtEvent i) ≡ true → is_well (outstanding_at events full i e) i e (lines_at (AtEvent i) before) text ≡ true

  no-answer-well : (out : Outstanding) (i : ℕ) (e : Event) (here : List Line) (text : Text) → is_answer text ≡ false → is_well out i e here text ≡ true
  no-answer-well out i e here text a = rw a refl

  same-number : (i k : ℕ) → nat_eq k i ≡ true → k ≡ i
  same-number i k h = grind (arith, h, nat_tests)

  owes-to : (before : List Line) (w : When) (text : Text) → (is_answer text && not (fits_when events full before text w)) ≡ false → Owes before w text
  owes-to before End text h = record { of_event = λ a. cc (a, h); well = λ i e s v. cc v }
  owes-to before (AtEvent k) text h = by (event_at events k) refl h
    where
      by : (o : Option Event) → event_at events k ≡ o → (is_answer text && not (fits_number events full k (lines_at (AtEvent k) before) text o)) ≡ false → Owes before (AtEvent k) text
      by None s g = record { of_event = λ a. cc (a, g); well = λ i e t v. elim (cases_Bool (is_answer text)) [ inl a ↦ cc (a, g) | inr a ↦ no-answer-well (outstanding_at events full i e) i e (lines_at (AtEvent i) before) text a ] }
      by (Some x) s g = record {
        of_event = λ a. some-within events k x s;
        well = λ i e t v. subst (λ (n : ℕ). is_well (outstanding_at events full n e) n e (lines_at (AtEvent n) before) text ≡ true) (same-number i k v) (subst (λ (y : Event). is_well (outstanding_at events full k y) k y (lines_at (AtEvent k) before) text ≡ true) (same-event i e t v) (was_well g));
      }
        where
          same-event : (i : ℕ) (e : Event) → event_at events i ≡ Some e → nat_eq k i ≡ true → x ≡ e
          same-event i e t v = cc (same-number i k v, s, t)

          was_well : (is_answer text && not (fits_event (outstanding_at events full k x) k x (lines_at (AtEvent k) before) text)) ≡ false → is_well (outstanding_at events full k x) k x (lines_at (AtEvent k) before) text ≡ true
          was_well g = turn (is_answer text) (fits_event (outstanding_at events full k x) k x (lines_at (AtEvent k) before) text) g
            where
              turn : (a b : Bool) → (a && not b) ≡ false → (not a || b) ≡ true
              turn true true g = refl
              turn true false g = cc g
              turn false b g = refl

  owes-from : (before : List Line) (w : When) (text : Text) → Owes before w text → (is_answer text && not (fits_when events full before text w)) ≡ false
  owes-from before End text h = not-so (is_answer text && true) (λ a. h.of_event (both-true (is_answer text) true a).0)
  owes-from before (AtEvent k) text h = by (event_at events k) refl
    where
      by : (o : Option Event) → event_at events k ≡ o → (is_answer text && not (fits_number events full k (lines_at (AtEvent k) before) text o)) ≡ false
      by None s = not-so (is_answer text && true) (λ a. let of = h.of_event (both-true (is_answer text) true a).0 in let there = within-some events k of.0 of.1 in cc (s, there.1))
      by (Some x) s = turn (is_answer text) (fits_event (outstanding_at events full k x) k x (lines_at (AtEvent k) before) text) (h.well k x s (self k))
        where
          self : (n : ℕ) → nat_eq n n ≡ true
          self n = grind (arith, nat_tests)

          turn : (a b : Bool) → (not a || b) ≡ true → (a && not b) ≡ false
          turn true true g = refl
          turn true false g = cc g
          turn false b g = refl

  record AllOwe (before rest : List Line) : Type 0 where
    of_events : AllOfEvents (length events) rest
    well : (i : ℕ) (e : Event) → event_at events i ≡ Some e → WellAmong (outstanding_at events full i e) i e before rest

  all-to : (before rest : List Line) → NoneIn before rest → AllOwe before rest
  all-to before [] h = record { of_events = tt; well = λ i e s. tt }
  all-to before (l ∷ ls) h = let one = owes-to before l.when l.text h.0 in let more = all-to (before ++ l ∷ []) ls h.1 in record { of_events = (one.of_event, more.of_events); well = λ i e s. (one.well i e s, more.well i e s) }

  all-from : (before rest : List Line) → AllOwe before rest → NoneIn before rest
  all-from before [] h = tt
  all-from before (l ∷ ls) h = (owes-from before l.when l.text (record { of_event = h.of_events.0; well = λ i e s. (h.well i e s).0 }), all-from (before ++ l ∷ []) ls (record { of_events = h.of_events.1; well = λ i e s. (h.well i e s).1 }))

in-full : (events : List Event) (full before rest : List Line) → before ++ rest ≡ full → NoneBreaksFrom (breaks_following events) before rest → NoneIn events full before rest
in-full events full before [] same h = tt
in-full events full before (l ∷ ls) same h = (
  subst (λ (all : List Line). (is_answer l.text && not (fits_when events all before l.text l.when)) ≡ false) same h.0,
  in-full events full (before ++ l ∷ []) ls (append_assoc before (l ∷ []) ls ∙ same) h.1,
)

from-full : (events : List Event) (full before rest : List Line) → before ++ rest ≡ full → NoneIn events full before rest → NoneBreaksFrom (breaks_following events) before rest
from-full events full before [] same h = tt
from-full events full before (l ∷ ls) same h = (
  subst (λ (all : List Line). (is_answer l.text && not (fits_when events all before l.text l.when)) ≡ false) (sym same) h.0,
  from-full events full (before ++ l ∷ []) ls (append_assoc before (l ∷ []) ls ∙ same) h.1,
)

few : (n : ℕ) → (n ≡ 0) ⊎ (0 + n ≤ 1) → n ≤ 1
few n (inl h) = omega (arith, h)
few n (inr h) = omega (arith, h)

event-to : (out : Outstanding) (n : ℕ) (e : Event) (lines : List Line) → WellAmong (after_event out n e (lines_at (AtEvent n) lines)) n e [] lines → FollowsEvent out n e (lines_at (AtEvent n) lines)
event-to out n e lines h = let k = keeps-to (after_event out n e (lines_at (AtEvent n) lines)) n e [] (lines_at (AtEvent n) lines) (among-to (after_event out n e (lines_at (AtEvent n) lines)) n e [] lines h) in
    record { fit = k.fit; own = k.own; once = few (own_refusals (lines_at (AtEvent n) lines)) (once-to 0 (lines_at (AtEvent n) lines) k.once) }

event-from : (out : Outstanding) (n : ℕ) (e : Event) (lines : List Line) → FollowsEvent out n e (lines_at (AtEvent n) lines) → WellAmong (after_event out n e (lines_at (AtEvent n) lines)) n e [] lines
event-from out n e lines h = among-from (after_event out n e (lines_at (AtEvent n) lines)) n e [] lines (keeps-from (after_event out n e (lines_at (AtEvent n) lines)) n e [] (lines_at (AtEvent n) lines)
    (record { fit = h.fit; own = h.own; once = once-from 0 (lines_at (AtEvent n) lines) (inr (let o = h.once in omega (arith, o))) }))

next : (k : ℕ) → suc k ≡ 1 + k
next k = omega arith

pub follows-by-lines : (events : List Event) (lines : List Line) → NoneBreaks (breaks_following events) lines ↔ Follows events lines
follows-by-lines events lines = (
  λ h. let all = all-to events lines [] lines (in-full events lines [] lines refl h) in record {
    answers = all-follow-from nothing_asked 1 events lines (λ k e s. subst (λ (n : ℕ). FollowsEvent (outstanding_behind k nothing_asked 1 events lines) n e (lines_at (AtEvent n) lines)) (next k) (event-to (outstanding_behind k nothing_asked 1 events lines) (suc k) e lines (all.well (suc k) e s)));
    of_events = all.of_events;
  },
  λ h. from-full events lines [] lines refl (all-from events lines [] lines (record { of_events = h.of_events; well = λ i e s. by i e s h })),
)
  where
    by : (i : ℕ) (e : Event) → event_at events i ≡ Some e → Follows events lines → WellAmong (outstanding_at events lines i e) i e [] lines
    by zero e s h = absurd (no-zero (some-within events 0 e s))
      where
        no-zero : (1 ≤ 0) × (0 ≤ length events) → ⊥
        no-zero k = let one = k.0 in omega (arith, one)
    by (suc k) e s h = event-from (outstanding_behind k nothing_asked 1 events lines) (suc k) e lines (subst (λ (n : ℕ). FollowsEvent (outstanding_behind k nothing_asked 1 events lines) n e (lines_at (AtEvent n) lines)) (sym (next k)) (all-follow-to nothing_asked 1 events lines h.answers k e s))
