-- One more event, with its lines: what holds of the events and lines so far is kept.
use Rattle.jn_serial.proofs.Common.{◌≡◌, ◌⊎◌, inl, inr, ℕ, zero, suc, ◌+◌, ◌<◌, ◌≤◌, true, false, List, [], ◌∷◌, ◌++◌, length, Some, refl, sym, ◌∙◌, ap, subst, arith, append-nil, nat_tests, Event, When, AtEvent, End, Line, when_eq, lines_at, event_at, Outstanding, FollowsEvent, FollowsFrom, after_one}
use Rattle.jn_serial.proofs.Orders.{lines_at-append}

-- each line stands at an event from low on and below high
abbrev pub IsWithin : ℕ → ℕ → When → Type 0
IsWithin low high (AtEvent i) = (low ≤ i) × (i < high)
IsWithin low high End = ⊥

abbrev pub AreWithin : ℕ → ℕ → List Line → Type 0
AreWithin low high [] = Unit {0}
AreWithin low high (l ∷ ls) = IsWithin low high l.when × AreWithin low high ls

lines_at-skip : (l : Line) (w : When) (ls : List Line) → when_eq l.when w ≡ false → lines_at w (l ∷ ls) ≡ lines_at w ls
lines_at-skip l w ls h = rw h refl

lines_at-take : (l : Line) (w : When) (ls : List Line) → when_eq l.when w ≡ true → lines_at w (l ∷ ls) ≡ l ∷ lines_at w ls
lines_at-take l w ls h = rw h refl

other_event : (low high i : ℕ) (w : When) → IsWithin low high w → (i < low) ⊎ (high ≤ i) → when_eq w (AtEvent i) ≡ false
other_event low high i (AtEvent j) within out = grind (arith, nat_tests)
other_event low high i End within out = refl

-- no line of these stands at an event outside
pub lines_at-outside : (low high i : ℕ) (ls : List Line) → AreWithin low high ls → (i < low) ⊎ (high ≤ i) → lines_at (AtEvent i) ls ≡ []
lines_at-outside low high i [] within out = refl
lines_at-outside low high i (l ∷ ls) within out = lines_at-skip l (AtEvent i) ls (other_event low high i l.when within.0 out) ∙ lines_at-outside low high i ls within.1 out

this_event : (i : ℕ) (w : When) → IsWithin i (i + 1) w → when_eq w (AtEvent i) ≡ true
this_event i (AtEvent j) within = grind (arith, nat_tests)
this_event i End within = absurd within

pub lines_at-whole : (i : ℕ) (ls : List Line) → AreWithin i (i + 1) ls → lines_at (AtEvent i) ls ≡ ls
lines_at-whole i [] within = refl
lines_at-whole i (l ∷ ls) within = lines_at-take l (AtEvent i) ls (this_event i l.when within.0) ∙ ap (λ (m : List Line). l ∷ m) (lines_at-whole i ls within.1)

-- lines of earlier events, and then those of one more
pub lines_at-earlier : (low high i : ℕ) (ls ms : List Line) → AreWithin low high ms → i < low → lines_at (AtEvent i) (ls ++ ms) ≡ lines_at (AtEvent i) ls
lines_at-earlier low high i ls ms within before = lines_at-append (AtEvent i) ls ms ∙ ap (λ (m : List Line). lines_at (AtEvent i) ls ++ m) (lines_at-outside low high i ms within (inl before)) ∙ append-nil (lines_at (AtEvent i) ls)

pub lines_at-newest : (i : ℕ) (ls ms : List Line) → AreWithin 0 i ls → AreWithin i (i + 1) ms → lines_at (AtEvent i) (ls ++ ms) ≡ ms
lines_at-newest i ls ms old new = lines_at-append (AtEvent i) ls ms ∙ ap (λ (m : List Line). m ++ lines_at (AtEvent i) ms) (lines_at-outside 0 i i ls old (inr (≤-self i))) ∙ lines_at-whole i ms new
  where
    ≤-self : (n : ℕ) → n ≤ n
    ≤-self n = omega arith

pub AreWithin-wider : (low high low' high' : ℕ) (ls : List Line) → low' ≤ low → high ≤ high' → AreWithin low high ls → AreWithin low' high' ls
AreWithin-wider low high low' high' [] a b within = tt
AreWithin-wider low high low' high' (l ∷ ls) a b within = (wider l.when within.0, AreWithin-wider low high low' high' ls a b within.1)
  where
    wider : (w : When) → IsWithin low high w → IsWithin low' high' w
    wider (AtEvent i) h = (omega arith, omega arith)
    wider End h = absurd h

pub AreWithin-append : (low high : ℕ) (ls ms : List Line) → AreWithin low high ls → AreWithin low high ms → AreWithin low high (ls ++ ms)
AreWithin-append low high [] ms a b = b
AreWithin-append low high (l ∷ ls) ms a b = (a.0, AreWithin-append low high ls ms a.1 b)

-- the event of a number among more events
pub event_at-front : (es fs : List Event) (j : ℕ) → j ≤ length es → event_at (es ++ fs) j ≡ event_at es j
event_at-front es fs zero h = none es fs
  where
    none : (es fs : List Event) → event_at (es ++ fs) zero ≡ event_at es zero
    none [] [] = refl
    none [] (f ∷ fs) = refl
    none (e ∷ es) fs = refl
event_at-front [] fs (suc j) h = absurd (omega arith)
event_at-front (e ∷ es) fs (suc zero) h = refl
event_at-front (e ∷ es) fs (suc (suc j)) h = event_at-front es fs (suc j) (omega arith)

pub event_at-next : (es fs : List Event) (e : Event) → event_at (es ++ e ∷ fs) (suc (length es)) ≡ Some e
event_at-next [] fs e = refl
event_at-next (d ∷ es) fs e = event_at-next es fs e

-- what is outstanding after all these events
abbrev pub outstanding_after : Outstanding → ℕ → List Event → List Line → Outstanding
outstanding_after out number [] lines = out
outstanding_after out number (e ∷ es) lines =
    outstanding_after (after_one out number e (lines_at (AtEvent number) lines)) (number + 1) es lines

-- one more event with its lines
pub follows-more : (out : Outstanding) (number : ℕ) (es : List Event) (e : Event) (ls : List Line)
    → FollowsFrom out number es ls
    → FollowsEvent (outstanding_after out number es ls) (number + length es) e (lines_at (AtEvent (number + length es)) ls)
    → FollowsFrom out number (es ++ e ∷ []) ls
follows-more out number [] e ls old new = (subst (λ n. FollowsEvent out n e (lines_at (AtEvent n) ls)) (omega arith) new, tt)
follows-more out number (d ∷ es) e ls old new = (
  old.0,
  follows-more (after_one out number d (lines_at (AtEvent number) ls)) (number + 1) es e ls old.1 (subst (λ n. FollowsEvent (outstanding_after out number (d ∷ es) ls) n e (lines_at (AtEvent n) ls)) (shift number (length es)) new),
)
  where
    shift : (a b : ℕ) → a + suc b ≡ (a + 1) + b
    shift a b = omega arith

-- only the lines at events are seen
pub follows-same : (out : Outstanding) (number : ℕ) (es : List Event) (ls ms : List Line) → ((i : ℕ) → lines_at (AtEvent i) ms ≡ lines_at (AtEvent i) ls) → FollowsFrom out number es ls → FollowsFrom out number es ms
follows-same out number [] ls ms same h = tt
follows-same out number (e ∷ es) ls ms same h =
    subst (λ l. FollowsEvent out number e l × FollowsFrom (after_one out number e l) (number + 1) es ms) (sym (same number)) (h.0, follows-same (after_one out number e (lines_at (AtEvent number) ls)) (number + 1) es ls ms same h.1)
