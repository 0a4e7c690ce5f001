-- Answers to clients, without lines aside.
use Rattle.jn_aside.proofs.Common.{◌≡◌, inl, inr, ℕ, ◌+◌, ◌≤◌, Bool, true, List, [], ◌∷◌, length, Some, None, refl, ◌∙◌, ap, subst, if◌then◌else◌, cases_Bool, Event, AtEvent, Text, Line, when_eq, lines_at, Outstanding, nothing_asked, with_asked, answer_in, fits, after_answer, AllFit, after_answers, refuses_own, after_event, own_in_place, AllOwnInPlace, is_own_refusal, FollowsEvent, after_one, FollowsFrom, is_answer, IsOfEvent, AllOfEvents, Follows, is_aside, plain, count_lines}
use Rattle.jn_calls.specs.declared.order.Order.TheVariants as orders
use Rattle.jn_schedule.specs.declared.Event.TheVariants as events
use Rattle.jn_aside.proofs.Plain.{of-aside, mute, same-of, filter-aside, says-plain, count-plain, Passes, passes-aside, whole}

-- ---- the lines of an event

none-answered : (x : Text) → is_aside x ≡ true → answer_in x ≡ None
none-answered = of-aside (λ x. answer_in x ≡ None) (λ s n. refl) (λ k a b kind. refl)

fit : Passes Outstanding AllFit (λ out (l : Line). fits out (answer_in l.text) l.text ≡ true) (λ out (l : Line). after_answer out (answer_in l.text) l.text) (λ out. out)
fit = whole Outstanding AllFit _ _ (λ out. tt) (λ out l ls h k. (h, k)) (λ out l ls h. h)
    (λ out l e. ap (λ o. fits out o l.text) (none-answered l.text e)) (λ out l e. ap (λ o. after_answer out o l.text) (none-answered l.text e))

own : (number : ℕ) (e : Event) → Passes (Unit {0}) (λ s ls. AllOwnInPlace number e ls) (λ s (l : Line). own_in_place number e l.text ≡ true) (λ s l. s) (λ s. s)
own number e = whole (Unit {0}) (λ s ls. AllOwnInPlace number e ls) _ _ (λ s. tt) (λ s l ls h k. (h, k)) (λ s l ls h. h)
    (λ s l. of-aside (λ x. own_in_place number e x ≡ true) (λ s n. refl) (λ k a b kind. refl) l.text) (λ s l e. refl)

answers-plain : (out : Outstanding) (ls : List Line) → after_answers out (plain ls) ≡ after_answers out ls
answers-plain out [] = refl
answers-plain out (l ∷ ls) = elim (cases_Bool (is_aside l.text)) [
  | inl e ↦ rw (e, none-answered l.text e) (answers-plain out ls)
  | inr e ↦ rw e (answers-plain (after_answer out (answer_in l.text) l.text) ls)
]

event-plain : (out : Outstanding) (number : ℕ) (e : Event) (ls : List Line) → after_event out number e (plain ls) ≡ after_event out number e ls
event-plain out number (events.Command c command) ls = ap (λ (b : Bool). if b then out else with_asked out c (Some (record { number = number; order = orders.Command command }))) (says-plain (refuses_own c number) (mute (refuses_own c number) (λ s n. refl) (λ k a b kind. refl)) ls)
event-plain out number (events.Call c s call) ls = ap (λ (b : Bool). if b then out else with_asked out c (Some (record { number = number; order = orders.Call s call }))) (says-plain (refuses_own c number) (mute (refuses_own c number) (λ s n. refl) (λ k a b kind. refl)) ls)
event-plain out number _ ls = refl

one-plain : (out : Outstanding) (number : ℕ) (e : Event) (ls : List Line) → after_one out number e (plain ls) ≡ after_one out number e ls
one-plain out number e ls = answers-plain (after_event out number e (plain ls)) ls ∙ ap (λ o. after_answers o ls) (event-plain out number e ls)

event-aside : (out : Outstanding) (number : ℕ) (e : Event) (a b : List Line) → plain a ≡ plain b → FollowsEvent out number e a → FollowsEvent out number e b
event-aside out number e a b q h = record {
  fit = subst (λ o. AllFit o b) (same-of (after_event out number e) (event-plain out number e) a b q) (passes-aside Outstanding AllFit _ _ _ fit (after_event out number e a) a b q h.fit);
  own = passes-aside (Unit {0}) (λ s ls. AllOwnInPlace number e ls) _ _ _ (own number e) tt a b q h.own;
  once = subst (λ n. n ≤ 1) (same-of (count_lines is_own_refusal) (count-plain is_own_refusal (mute is_own_refusal (λ s n. refl) (λ k a b kind. refl))) a b q) h.once;
}

-- ---- all events

from-aside : (out : Outstanding) (number : ℕ) (es : List Event) (a b : List Line) → plain a ≡ plain b → FollowsFrom out number es a → FollowsFrom out number es b
from-aside out number [] a b q h = tt
from-aside out number (e ∷ es) a b q h = let here = filter-aside (λ w. when_eq w (AtEvent number)) a b q in (
  event-aside out number e (lines_at (AtEvent number) a) (lines_at (AtEvent number) b) here h.0,
  from-aside (after_one out number e (lines_at (AtEvent number) b)) (number + 1) es a b q
      (subst (λ o. FollowsFrom o (number + 1) es a) (same-of (after_one out number e) (one-plain out number e) (lines_at (AtEvent number) a) (lines_at (AtEvent number) b) here) h.1),
)

of-events : (count : ℕ) → Passes (Unit {0}) (λ s ls. AllOfEvents count ls) (λ s (l : Line). is_answer l.text ≡ true → IsOfEvent count l.when) (λ s l. s) (λ s. s)
of-events count = whole (Unit {0}) (λ s ls. AllOfEvents count ls) _ _ (λ s. tt) (λ s l ls h k. (h, k)) (λ s l ls h. h)
    (λ s l. of-aside (λ x. is_answer x ≡ true → IsOfEvent count l.when) (λ s n e. absurd (cc e)) (λ k a b kind e. absurd (cc e)) l.text) (λ s l e. refl)

pub follows-aside : (events : List Event) (a b : List Line) → plain a ≡ plain b → Follows events a → Follows events b
follows-aside events a b q h = record {
  answers = from-aside nothing_asked 1 events a b q h.answers;
  of_events = passes-aside (Unit {0}) (λ s ls. AllOfEvents (length events) ls) _ _ _ (of-events (length events)) tt a b q h.of_events;
}
