-- One more event, with its lines: what stands before an abort, a stop and a refused fault is kept.
use Rattle.jn_serial.proofs.Common.{◌≡◌, ℕ, ◌+◌, ◌≤◌, Bool, true, false, nat_le, List, [], ◌∷◌, ◌++◌, Option, refl, ap, arith, inl, inr, append_assoc, append-nil, cases_Bool, nat_tests, ClientNo, Tid, Event, When, AtEvent, End, Text, Line, is_before, lines_before, begun_after, begun_then}
use Rattle.jn_base.specs.declared.names.Cause.{Cause}
use Rattle.jn_base.specs.declared.names.Cause.TheVariants as causes
use Rattle.jn_report.specs.declared.line.Text.TheVariants as says
use Rattle.jn_serial.specs.Caused.{any_event, count_events, is_caused_by, is_caused, CausedFrom, Caused}
use Rattle.jn_serial.proofs.Growth.{IsWithin, AreWithin}

any_event-more : (test : ℕ → Event → Bool) (n : ℕ) (es fs : List Event) → any_event test n es ≡ true → any_event test n (es ++ fs) ≡ true
any_event-more test n [] fs h = cc
any_event-more test n (e ∷ es) fs h = elim (cases_Bool (test n e)) [ inl g ↦ rw g refl | inr g ↦ rw g (any_event-more test (n + 1) es fs (rw g at h)) ]

count_events-more : (test : ℕ → Event → Bool) (n : ℕ) (es fs : List Event) → count_events test n es ≤ count_events test n (es ++ fs)
count_events-more test n [] fs = omega arith
count_events-more test n (e ∷ es) fs = omega (arith, count_events-more test (n + 1) es fs)

within-more : (count : ℕ) (test : ℕ → Event → Bool) (n : ℕ) (es fs : List Event) → nat_le count (count_events test n es) ≡ true → nat_le count (count_events test n (es ++ fs)) ≡ true
within-more count test n es fs h = grind (arith, nat_tests, count_events-more test n es fs)

is_caused_by-more : (es fs : List Event) (lines : List Line) (w : When) (c : ClientNo) (t : Tid) (cause : Cause) → is_caused_by es lines w c t cause ≡ true → is_caused_by (es ++ fs) lines w c t cause ≡ true
is_caused_by-more es fs lines w c t causes.Requested h = any_event-more _ 1 es fs h
is_caused_by-more es fs lines w c t (causes.Broken s u by) h = h
is_caused_by-more es fs lines w c t (causes.Lost s) h = any_event-more _ 1 es fs h
is_caused_by-more es fs lines w c t (causes.Full s refusal free need) h = h

is_caused-more : (es fs : List Event) (lines : List Line) (w : When) (text : Text) → is_caused es lines w text ≡ true → is_caused (es ++ fs) lines w text ≡ true
is_caused-more es fs lines w (says.Aborted c j t cause) h = is_caused_by-more es fs lines w c t cause h
is_caused-more es fs lines w (says.Stopped s) h = within-more _ _ 1 es fs h
is_caused-more es fs lines w (says.Outside s o) h = within-more _ _ 1 es fs h
is_caused-more es fs lines w (says.Up s e) h = refl
is_caused-more es fs lines w (says.Down s) h = refl
is_caused-more es fs lines w (says.Ignored k) h = refl
is_caused-more es fs lines w (says.Lost k) h = refl
is_caused-more es fs lines w (says.Commit t) h = refl
is_caused-more es fs lines w (says.Broke s t u by) h = refl
is_caused-more es fs lines w (says.Begun c j t) h = refl
is_caused-more es fs lines w (says.Opened c j s) h = refl
is_caused-more es fs lines w (says.Did c j) h = refl
is_caused-more es fs lines w (says.Read c j bytes) h = refl
is_caused-more es fs lines w (says.Bytes c j bytes) h = refl
is_caused-more es fs lines w (says.Found c j f) h = refl
is_caused-more es fs lines w (says.Name c j name f) h = refl
is_caused-more es fs lines w (says.Refused c j refusal) h = refl
is_caused-more es fs lines w (says.Waiting c j s u t) h = refl
is_caused-more es fs lines w (says.Committed c j t) h = refl
is_caused-more es fs lines w (says.RefusedEvent r) h = refl
is_caused-more es fs lines w (says.File s f) h = refl
is_caused-more es fs lines w (says.Page s f p bytes) h = refl
is_caused-more es fs lines w (says.Locked s u t) h = refl
is_caused-more es fs lines w (says.Commits k) h = refl
is_caused-more es fs lines w (says.Message k a b kind) h = refl

-- what a client has begun by more lines
pub begun_then-append : (c : ClientNo) (now : Option Tid) (xs ys : List Line) → begun_then c now (xs ++ ys) ≡ begun_then c (begun_then c now xs) ys
begun_then-append c now [] ys = refl
begun_then-append c now (x ∷ xs) ys = begun_then-append c (begun_after c now x.text) xs ys

-- more events
pub CausedFrom-events : (es fs : List Event) (before ls : List Line) → CausedFrom es before ls → CausedFrom (es ++ fs) before ls
CausedFrom-events es fs before [] h = tt
CausedFrom-events es fs before (l ∷ ls) h = (is_caused-more es fs (before ++ l ∷ []) l.when l.text h.0, CausedFrom-events es fs (before ++ l ∷ []) ls h.1)

pub Caused-events : (es fs : List Event) (ls : List Line) → Caused es ls → Caused (es ++ fs) ls
Caused-events es fs ls h = CausedFrom-events es fs [] ls h

-- more lines
pub CausedFrom-append : (es : List Event) (before xs ys : List Line) → CausedFrom es before xs → CausedFrom es (before ++ xs) ys → CausedFrom es before (xs ++ ys)
CausedFrom-append es before [] ys h k = rw append-nil at k
CausedFrom-append es before (l ∷ xs) ys h k = (h.0, CausedFrom-append es (before ++ l ∷ []) xs ys h.1 (rw append_assoc k))

pub Caused-lines : (es : List Event) (ls ms : List Line) → Caused es ls → CausedFrom es ls ms → Caused es (ls ++ ms)
Caused-lines es ls ms h k = CausedFrom-append es [] ls ms h k

-- a line that needs no cause
abbrev pub needs_cause : Text → Bool
needs_cause (says.Aborted c j t cause) = true
needs_cause (says.Stopped s) = true
needs_cause (says.Outside s fault) = true
needs_cause _ = false

abbrev pub NeedNoCause : List Line → Type 0
NeedNoCause [] = Unit {0}
NeedNoCause (l ∷ ls) = (needs_cause l.text ≡ false) × NeedNoCause ls

no_cause_needed : (es : List Event) (lines : List Line) (w : When) (text : Text) → needs_cause text ≡ false → is_caused es lines w text ≡ true
no_cause_needed es lines w (says.Aborted c j t cause) h = cc
no_cause_needed es lines w (says.Stopped s) h = cc
no_cause_needed es lines w (says.Outside s o) h = cc
no_cause_needed es lines w (says.Up s e) h = refl
no_cause_needed es lines w (says.Down s) h = refl
no_cause_needed es lines w (says.Ignored k) h = refl
no_cause_needed es lines w (says.Lost k) h = refl
no_cause_needed es lines w (says.Commit t) h = refl
no_cause_needed es lines w (says.Broke s t u by) h = refl
no_cause_needed es lines w (says.Begun c j t) h = refl
no_cause_needed es lines w (says.Opened c j s) h = refl
no_cause_needed es lines w (says.Did c j) h = refl
no_cause_needed es lines w (says.Read c j bytes) h = refl
no_cause_needed es lines w (says.Bytes c j bytes) h = refl
no_cause_needed es lines w (says.Found c j f) h = refl
no_cause_needed es lines w (says.Name c j name f) h = refl
no_cause_needed es lines w (says.Refused c j refusal) h = refl
no_cause_needed es lines w (says.Waiting c j s u t) h = refl
no_cause_needed es lines w (says.Committed c j t) h = refl
no_cause_needed es lines w (says.RefusedEvent r) h = refl
no_cause_needed es lines w (says.File s f) h = refl
no_cause_needed es lines w (says.Page s f p bytes) h = refl
no_cause_needed es lines w (says.Locked s u t) h = refl
no_cause_needed es lines w (says.Commits k) h = refl
no_cause_needed es lines w (says.Message k a b kind) h = refl

pub CausedFrom-plain : (es : List Event) (before ls : List Line) → NeedNoCause ls → CausedFrom es before ls
CausedFrom-plain es before [] h = tt
CausedFrom-plain es before (l ∷ ls) h = (no_cause_needed es (before ++ l ∷ []) l.when l.text h.0, CausedFrom-plain es (before ++ l ∷ []) ls h.1)

-- lines of an event and later ones are not before it, and all earlier ones are
pub lines_before-later : (low high i : ℕ) (ls : List Line) → AreWithin low high ls → i ≤ low → lines_before (AtEvent i) ls ≡ []
lines_before-later low high i [] within h = refl
lines_before-later low high i (l ∷ ls) within h = skip l ls (lines_before-later low high i ls within.1 h) (later l.when within.0)
  where
    later : (w : When) → IsWithin low high w → is_before w (AtEvent i) ≡ false
    later (AtEvent j) g = grind (arith, nat_tests)
    later End g = refl

    skip : (l : Line) (ls : List Line) → lines_before (AtEvent i) ls ≡ [] → is_before l.when (AtEvent i) ≡ false → lines_before (AtEvent i) (l ∷ ls) ≡ []
    skip l ls rest g = rw g rest

pub lines_before-whole : (low i : ℕ) (ls : List Line) → AreWithin low i ls → lines_before (AtEvent i) ls ≡ ls
lines_before-whole low i [] within = refl
lines_before-whole low i (l ∷ ls) within = take l ls (lines_before-whole low i ls within.1) (before l.when within.0)
  where
    before : (w : When) → IsWithin low i w → is_before w (AtEvent i) ≡ true
    before (AtEvent j) g = grind (arith, nat_tests)
    before End g = absurd g

    take : (l : Line) (ls : List Line) → lines_before (AtEvent i) ls ≡ ls → is_before l.when (AtEvent i) ≡ true → lines_before (AtEvent i) (l ∷ ls) ≡ l ∷ ls
    take l ls rest g = rw g (ap (λ (m : List Line). l ∷ m) rest)
