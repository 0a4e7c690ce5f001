-- How many events have begun.
use Rattle.jn_headline.proofs.Common.{◌≡◌, ℕ, suc, ◌+◌, true, false, List, [], ◌∷◌, length, refl, sym, ◌∙◌, ap, arith, list_all, Event, World, Step, NextEvent, Tell, after, run, steps-append, Act, Does, Refuses, Tells, Shows, Item, steps_in, steps_of, world_of, may_do, may_act, IsUnder, AreUnder, is_of_end, adds, first, second, event_after}
use Rattle.jn_schedule.specs.declared.Event.TheVariants as events

-- ---- steps of an end begin none

of-end : (step : Step) (n : ℕ) → is_of_end step ≡ true → event_after step n ≡ n
of-end NextEvent n h = absurd (cc h)
of-end _ n h = refl

pub end-begins-none : (steps : List Step) (w : World) → list_all is_of_end steps ≡ true → (run steps w).event ≡ w.event
end-begins-none [] w h = refl
end-begins-none (step ∷ steps) w h = end-begins-none steps (after step w) (second (is_of_end step) (list_all is_of_end steps) h) ∙ (let a = adds w step in a.event_is) ∙ of-end step w.event (first (is_of_end step) (list_all is_of_end steps) h)

-- ---- nor do the steps under an event

no-event : (event : Event) → may_do event NextEvent ≡ false
no-event (events.Command c command) = refl
no-event (events.Deliver k) = refl
no-event _ = refl

may-not : (event : Event) (step : Step) (n : ℕ) → may_do event step ≡ true → event_after step n ≡ n
may-not event NextEvent n h = absurd (clash (sym (no-event event) ∙ h))
  where
    clash : false ≡ true → ⊥
    clash e = cc
may-not event _ n h = refl

acts-begin-none : (event : Event) (acts : List Act) (w : World) → list_all (may_act event) acts ≡ true → (run (steps_in acts) w).event ≡ w.event
acts-begin-none event [] w h = refl
acts-begin-none event (Does step ∷ acts) w h = acts-begin-none event acts (after step w) (second (may_do event step) (list_all (may_act event) acts) h) ∙ (let a = adds w step in a.event_is) ∙ may-not event step w.event (first (may_do event step) (list_all (may_act event) acts) h)
acts-begin-none event (Refuses refusal ∷ acts) w h = acts-begin-none event acts w (second (may_act event (Refuses refusal)) (list_all (may_act event) acts) h)
acts-begin-none event (Tells s fault ∷ acts) w h = acts-begin-none event acts w (second (may_act event (Tells s fault)) (list_all (may_act event) acts) h)
acts-begin-none event (Shows s prints ∷ acts) w h = acts-begin-none event acts w (second (may_act event (Shows s prints)) (list_all (may_act event) acts) h)

under-begin-none : (event : Event) (acts : List Act) (w : World) → IsUnder event acts → (run (steps_in acts) w).event ≡ w.event
under-begin-none (events.Command c command) acts w h = ap (λ (l : List Act). (run (steps_in l) w).event) h ∙ (let a = adds w (Tell c command) in a.event_is)
under-begin-none (events.Call c s call) acts w h = absurd h
under-begin-none (events.Again c) acts w h = acts-begin-none (events.Again c) acts w h
under-begin-none (events.Deliver k) acts w h = acts-begin-none (events.Deliver k) acts w h
under-begin-none events.Settle acts w h = acts-begin-none events.Settle acts w h
under-begin-none (events.Step q) acts w h = acts-begin-none (events.Step q) acts w h
under-begin-none (events.Nudge q) acts w h = acts-begin-none (events.Nudge q) acts w h
under-begin-none (events.Timeout q T) acts w h = acts-begin-none (events.Timeout q T) acts w h
under-begin-none (events.Scrub q) acts w h = acts-begin-none (events.Scrub q) acts w h
under-begin-none (events.Decay q p) acts w h = acts-begin-none (events.Decay q p) acts w h
under-begin-none (events.Revive q p) acts w h = acts-begin-none (events.Revive q p) acts w h
under-begin-none (events.Arm q n kind) acts w h = acts-begin-none (events.Arm q n kind) acts w h
under-begin-none (events.Crash q) acts w h = acts-begin-none (events.Crash q) acts w h
under-begin-none (events.Restart q) acts w h = acts-begin-none (events.Restart q) acts w h
under-begin-none (events.Show q) acts w h = acts-begin-none (events.Show q) acts w h

-- ---- so each item begins one

pub items-begin : (items : List Item) (w : World) → AreUnder items → (world_of items w).event ≡ w.event + length items
items-begin [] w h = none w.event
  where
    none : (n : ℕ) → n ≡ n + 0
    none n = omega arith
items-begin (item ∷ items) w h = ap (λ (v : World). v.event) (steps-append (steps_in item.acts) (steps_of items) (after NextEvent w)) ∙ items-begin items (run (steps_in item.acts) (after NextEvent w)) h.1
    ∙ ap (λ (n : ℕ). n + length items) (under-begin-none item.event item.acts (after NextEvent w) h.0) ∙ one-more w.event (length items)
  where
    one-more : (n m : ℕ) → n + 1 + m ≡ n + suc m
    one-more n m = omega arith
