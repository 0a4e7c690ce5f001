-- What stands before an abort, a stop and a refused fault, without lines aside.
use Rattle.jn_aside.proofs.Common.{◌≡◌, ℕ, Bool, true, false, not, nat_le, ◌&&◌, List, [], ◌∷◌, ◌++◌, append-nil, refl, sym, ◌∙◌, ap, ServerNo, ClientNo, Tid, server_eq, client_eq, Event, When, AtEvent, Text, Line, is_before, when_eq, lines_at, says_it, count_lines, is_in, refuses_own, is_aside, plain, begins, goes_down, breaks, refuses_event, stops, refuses_fault, is_stop}
use Rattle.std.proofs.Math.Path.{fun_ext}
use Rattle.jn_base.specs.declared.names.Cause.{Cause}
use Rattle.jn_base.specs.declared.names.Cause.TheVariants as causes
use Rattle.jn_base.specs.declared.op.Command.TheVariants as commands
use Rattle.jn_schedule.specs.declared.Event.TheVariants as events
use Rattle.jn_report.specs.declared.line.Text.TheVariants as says
use Rattle.jn_serial.specs.Caused.{any_event, count_events, lines_after, aborts, asks, joins, loses, is_caused_by, is_accepted, arms_stop, gives_fault, is_caused, CausedFrom, Caused}
use Rattle.jn_aside.proofs.Plain.{of-aside, IsMute, mute, plain-append, plain-aside, plain-other, filter-plain, says-plain, count-plain, is_in-plain, Passes, passes-aside}

-- ---- lines of one event and of later ones

at-plain : (test : Text → Bool) → IsMute test → (w : When) (xs : List Line) → says_it test (lines_at w (plain xs)) ≡ says_it test (lines_at w xs)
at-plain test h w xs = ap (says_it test) (filter-plain (λ v. when_eq v w) xs) ∙ says-plain test h (lines_at w xs)

after-plain : (test : Text → Bool) → IsMute test → (w : When) (xs : List Line) → says_it test (lines_after w (plain xs)) ≡ says_it test (lines_after w xs)
after-plain test h w xs = ap (says_it test) (filter-plain (λ v. is_before w v) xs) ∙ says-plain test h (lines_after w xs)

-- ---- each test of an event

-- tests that are the same of each event
same-tests : (f g : ℕ → Event → Bool) → ((n : ℕ) (e : Event) → f n e ≡ g n e) → f ≡ g
same-tests f g h = fun_ext (λ n. fun_ext (λ e. h n e))

aborts-plain : (c : ClientNo) (t : Tid) (xs : List Line) (n : ℕ) (e : Event) → aborts c t (plain xs) n e ≡ aborts c t xs n e
aborts-plain c t xs n (events.Command d commands.Abort) = ap (λ b. client_eq c d && b) (is_in-plain c t n xs)
aborts-plain c t xs n _ = refl

asks-plain : (c : ClientNo) (t : Tid) (xs : List Line) (w : When) → asks c t (plain xs) w ≡ asks c t xs w
asks-plain c t xs w = same-tests (asks c t (plain xs) w) (asks c t xs w) (λ n e. ap (λ b. is_before (AtEvent n) w && b) (aborts-plain c t xs n e))

joins-plain : (c : ClientNo) (t : Tid) (s : ServerNo) (xs : List Line) (n : ℕ) (e : Event) → joins c t s (plain xs) n e ≡ joins c t s xs n e
joins-plain c t s xs n (events.Command d (commands.Begin r)) = ap (λ b. client_eq c d && (server_eq r s && b)) (says-plain (begins c n t) (mute (begins c n t) (λ r n. refl) (λ k a b kind. refl)) xs)
joins-plain c t s xs n (events.Command d (commands.Open r)) = ap (λ b. client_eq c d && (server_eq r s && (b && not (says_it (refuses_own c n) (lines_at (AtEvent n) (plain xs)))))) (is_in-plain c t n xs)
    ∙ ap (λ b. client_eq c d && (server_eq r s && (is_in c t n xs && not b))) (at-plain (refuses_own c n) (mute (refuses_own c n) (λ r n. refl) (λ k a b kind. refl)) (AtEvent n) xs)
joins-plain c t s xs n _ = refl

loses-plain : (c : ClientNo) (t : Tid) (s : ServerNo) (xs : List Line) → loses c t s (plain xs) ≡ loses c t s xs
loses-plain c t s xs = same-tests (loses c t s (plain xs)) (loses c t s xs) (λ n e. ap (λ b. b && says_it (goes_down s) (lines_after (AtEvent n) (plain xs))) (joins-plain c t s xs n e)
    ∙ ap (λ b. joins c t s xs n e && b) (after-plain (goes_down s) (mute (goes_down s) (λ r n. refl) (λ k a b kind. refl)) (AtEvent n) xs))

accepted-plain : (xs : List Line) (w : When) (n : ℕ) → is_accepted (plain xs) w n ≡ is_accepted xs w n
accepted-plain xs w n = ap (λ b. is_before (AtEvent n) w && not b) (at-plain refuses_event (mute refuses_event (λ r n. refl) (λ k a b kind. refl)) (AtEvent n) xs)

arms-plain : (s : ServerNo) (xs : List Line) (w : When) → arms_stop s (plain xs) w ≡ arms_stop s xs w
arms-plain s xs w = same-tests (arms_stop s (plain xs) w) (arms_stop s xs w) one
  where
    one : (n : ℕ) (e : Event) → arms_stop s (plain xs) w n e ≡ arms_stop s xs w n e
    one n (events.Arm r k kind) = ap (λ b. server_eq r s && (is_stop kind && b)) (accepted-plain xs w n)
    one n _ = refl

gives-plain : (s : ServerNo) (xs : List Line) (w : When) → gives_fault s (plain xs) w ≡ gives_fault s xs w
gives-plain s xs w = same-tests (gives_fault s (plain xs) w) (gives_fault s xs w) one
  where
    one : (n : ℕ) (e : Event) → gives_fault s (plain xs) w n e ≡ gives_fault s xs w n e
    one n (events.Arm r k kind) = ap (λ b. server_eq r s && b) (accepted-plain xs w n)
    one n (events.Decay r page) = ap (λ b. server_eq r s && b) (at-plain (refuses_fault s) (mute (refuses_fault s) (λ r n. refl) (λ k a b kind. refl)) (AtEvent n) xs)
    one n _ = refl

-- ---- a line, and all lines

caused_by-plain : (es : List Event) (xs : List Line) (w : When) (c : ClientNo) (t : Tid) (cause : Cause) → is_caused_by es (plain xs) w c t cause ≡ is_caused_by es xs w c t cause
caused_by-plain es xs w c t causes.Requested = ap (λ test. any_event test 1 es) (asks-plain c t xs w)
caused_by-plain es xs w c t (causes.Broken s u by) = says-plain (breaks s t u by) (mute (breaks s t u by) (λ r n. refl) (λ k a b kind. refl)) xs
caused_by-plain es xs w c t (causes.Lost s) = ap (λ test. any_event test 1 es) (loses-plain c t s xs)
caused_by-plain es xs w c t (causes.Full s refusal free need) = refl

caused-plain : (es : List Event) (xs : List Line) (w : When) (x : Text) → is_caused es (plain xs) w x ≡ is_caused es xs w x
caused-plain es xs w (says.Aborted c j t cause) = caused_by-plain es xs w c t cause
caused-plain es xs w (says.Stopped s) = ap (λ n. nat_le n (count_events (arms_stop s (plain xs) w) 1 es)) (count-plain (stops s) (mute (stops s) (λ r n. refl) (λ k a b kind. refl)) xs)
    ∙ ap (λ test. nat_le (count_lines (stops s) xs) (count_events test 1 es)) (arms-plain s xs w)
caused-plain es xs w (says.Outside s fault) = ap (λ n. nat_le n (count_events (gives_fault s (plain xs) w) 1 es)) (count-plain (refuses_fault s) (mute (refuses_fault s) (λ r n. refl) (λ k a b kind. refl)) xs)
    ∙ ap (λ test. nat_le (count_lines (refuses_fault s) xs) (count_events test 1 es)) (gives-plain s xs w)
caused-plain es xs w _ = refl

-- with a line that isn't aside
seam : (xs : List Line) (l : Line) → is_aside l.text ≡ false → plain (xs ++ l ∷ []) ≡ plain xs ++ l ∷ []
seam xs l e = plain-append xs (l ∷ []) ∙ ap (λ ys. plain xs ++ ys) (plain-other l [] e)

with-line : (es : List Event) (xs : List Line) (l : Line) → is_aside l.text ≡ false → is_caused es (plain xs ++ l ∷ []) l.when l.text ≡ is_caused es (xs ++ l ∷ []) l.when l.text
with-line es xs l e = ap (λ ys. is_caused es ys l.when l.text) (sym (seam xs l e)) ∙ caused-plain es (xs ++ l ∷ []) l.when l.text

from : (es : List Event) → Passes (List Line) (CausedFrom es) (λ before (l : Line). is_caused es (before ++ l ∷ []) l.when l.text ≡ true) (λ before (l : Line). before ++ l ∷ []) plain
from es = record {
  none = λ before. tt;
  join = λ before l ls h k. (h, k);
  first = λ before l ls h. h.0;
  rest = λ before l ls h. h.1;
  free = λ before l. of-aside (λ x. is_caused es (before ++ l ∷ []) l.when x ≡ true) (λ s n. refl) (λ k a b kind. refl) l.text;
  still = λ before l e. plain-append before (l ∷ []) ∙ ap (λ ys. plain before ++ ys) (plain-aside l [] e) ∙ append-nil (plain before);
  goes = seam;
  down = λ before l e h. with-line es before l e ∙ h;
  up = λ before l e h. sym (with-line es before l e) ∙ h;
}

pub caused-aside : (es : List Event) (a b : List Line) → plain a ≡ plain b → Caused es a → Caused es b
caused-aside es a b e h = passes-aside (List Line) (CausedFrom es) _ _ _ (from es) [] a b e h
