-- Draws and events are in range.
use Rattle.jn_gen.proofs.Common.{◌≡◌, ◌∙◌, ℕ, zero, suc, ◌+◌, ◌-◌, ◌^◌, ◌<◌, ◌≤◌, min, Bool, true, false, List, [], ◌∷◌, ◌++◌, length, get_or, drop, take, refl, ap, sym, arith, nat_lt, cond, lit<, append_assoc, append-nil, length-replicate, take-append-drop, AllByRecursion, Event, filled, kind_parts, EventInRange, PartsInRange, Draws, after_event, choices, does, draw, draws_from, event_of, events_from, fault_of, first_epoch, next_state, state_after, tells}
use Rattle.jn_base.specs.declared.op.Command.TheVariants as commands
use Rattle.jn_base.specs.declared.op.Op.TheVariants as ops
use Rattle.jn_schedule.specs.declared.Event.TheVariants as events

pub state_fits : (x : ℕ) → next_state x < 2 ^ 64
unfolding next_state
state_fits x = omega arith

pub drawn_below : (count x : ℕ) → 0 < count → draw count x < count
unfolding draw
drawn_below count x some = omega arith

-- ---- what is drawn for an event

record DrawnInRange (d : Draws) : Type 0 where
  pub least : 1 ≤ d.client.0
  pub client : d.client.0 ≤ 8
  pub server : d.server.0 ≤ 7
  pub file : d.file.0 ≤ 2 ^ 32 - 1
  pub block : d.block.0 ≤ 2519
  pub byte : d.byte < 256

drawn_in_range : (x : ℕ) → DrawnInRange (draws_from x)
drawn_in_range x =
    let client = drawn_below 4 (state_after 2 x) (lit< tt) in
    let server = drawn_below 2 (state_after 3 x) (lit< tt) in
    let file = drawn_below 4 (state_after 4 x) (lit< tt) in
    let block = drawn_below 6 (state_after 5 x) (lit< tt) in
    record {
      least = omega arith;
      client = omega arith;
      server = omega arith;
      file = omega arith;
      block = omega arith;
      byte = drawn_below 256 (state_after 6 x) (lit< tt);
    }

-- ---- the events among which is chosen

either : (b : Bool) (x y : Event) → EventInRange x → EventInRange y → EventInRange (cond b x y)
either true x y a b = a
either false x y a b = b

fault_in_range : (f : ℕ) → PartsInRange (kind_parts (fault_of f))
fault_in_range zero = (tt, tt)
fault_in_range (suc zero) = (tt, tt)
fault_in_range (suc (suc zero)) = (tt, tt)
fault_in_range (suc (suc (suc f))) = (tt, tt)

at_any : {X : Type 0} (P : X → Type 0) (xs : List X) (i : ℕ) (d : X) → AllByRecursion P xs → P d → P (get_or xs i d)
at_any P [] i d all last = last
at_any P (x ∷ xs) zero d all last = all.0
at_any P (x ∷ xs) (suc i) d all last = at_any P xs i d all.1 last

length-filled : (b : ℕ) → length (filled (b ∷ [])) ≡ 448
length-filled b = let zero_byte : ℕ = 0 in ap suc (length-replicate 447 zero_byte)

chosen_in_range : (d : Draws) → DrawnInRange d → EventInRange (event_of d)
chosen_in_range d range =
    let client : (1 ≤ d.client.0) × (d.client.0 ≤ 8) = (range.least, range.client) in
    let server : (0 ≤ d.server.0) × (d.server.0 ≤ 7) = (omega arith, range.server) in
    let file : (0 ≤ d.file.0) × (d.file.0 ≤ 2 ^ 32 - 1) = (omega arith, range.file) in
    let block : (0 ≤ d.block.0) × (d.block.0 ≤ 2519) = (omega arith, range.block) in
    let byte = range.byte in
    let write : EventInRange (does d (ops.Write d.file d.block (filled (d.byte ∷ [])))) = (client, (tt, (server, (file, (block, (length-filled d.byte, tt)))))) in
    let ticket : d.byte - 170 < 2 ^ 32 = omega arith in
    let page : (0 ≤ d.byte) × (d.byte ≤ 20001) = (omega arith, omega arith) in
    let call : (1 ≤ d.byte + 1) × (d.byte + 1 ≤ 1000000) = (omega arith, omega arith) in
    let restart : EventInRange (events.Restart d.server) = (tt, (server, tt)) in
    let begin : EventInRange (tells d (commands.Begin d.server)) = (client, (tt, (server, tt))) in
    let opened : EventInRange (tells d (commands.Open d.server)) = (client, (tt, (server, tt))) in
    let create : EventInRange (does d (ops.Create d.file)) = (client, (tt, (server, (file, tt)))) in
    let read : EventInRange (does d (ops.Read d.file d.block)) = (client, (tt, (server, (file, (block, tt))))) in
    let ended : EventInRange (tells d commands.End) = (client, (tt, tt)) in
    let abort : EventInRange (tells d commands.Abort) = (client, (tt, tt)) in
    let again : EventInRange (events.Again d.client) = (client, (tt, tt)) in
    let cut : EventInRange (does d (ops.Cut d.file d.block)) = (client, (tt, (server, (file, (block, tt))))) in
    let remove : EventInRange (does d (ops.Remove d.file)) = (client, (tt, (server, (file, tt)))) in
    let timeout : EventInRange (events.Timeout d.server (first_epoch d (d.byte - 170))) = (tt, (server, ((range.server, one_fits, ticket), tt))) in
    let settle : EventInRange events.Settle = (tt, tt) in
    let arm : EventInRange (events.Arm d.server (d.byte + 1) (fault_of d.file.0)) = (tt, (server, (call, fault_in_range d.file.0))) in
    let crash : EventInRange (events.Crash d.server) = (tt, (server, tt)) in
    let decay : EventInRange (events.Decay d.server d.byte) = (tt, (server, (page, tt))) in
    at_any EventInRange (choices d) d.choice (events.Restart d.server) (
      begin,
      (
        opened,
        (
          create,
          (
            write,
            (
              write,
              (
                read,
                (
                  ended,
                  (
                    either (nat_lt d.byte 64) _ _ abort again,
                    (
                      either (nat_lt d.byte 85) _ _ cut (either (nat_lt d.byte 170) _ _ remove timeout),
                      (settle, (settle, (settle, (settle, (arm, (either (nat_lt d.byte 128) _ _ crash decay, (restart, tt))))))),
                    ),
                  ),
                ),
              ),
            ),
          ),
        ),
      ),
    )
    restart
  where
    one_fits : 1 < 2 ^ 32
    one_fits = lit< tt

-- the events of a trial are in range
pub events_in_range : (x n : ℕ) → AllByRecursion EventInRange (events_from x n)
unfolding events_from
events_in_range x zero = tt
events_in_range x (suc n) = (chosen_in_range (draws_from x) (drawn_in_range x), events_in_range (after_event x) n)

-- ---- as a loop does

-- one event more
pub events_more : (x x' n m : ℕ) (list list' : List Event) (d : Draws) (e : Event) (total : List Event) → n ≡ suc m → x' ≡ after_event x → d ≡ draws_from x → e ≡ event_of d
    → list' ≡ list ++ e ∷ [] → list ++ events_from x n ≡ total → list' ++ events_from x' m ≡ total
unfolding events_from
events_more x x' n m list list' d e total left state drawn is pushed so_far =
    ap (λ (l : List Event). l ++ events_from x' m) pushed
    ∙ append_assoc list (e ∷ []) (events_from x' m)
    ∙ ap (λ (y : ℕ). list ++ (e ∷ events_from y m)) state
    ∙ ap (λ (f : Event). list ++ (f ∷ events_from (after_event x) m)) (is ∙ ap event_of drawn)
    ∙ ap (λ (k : ℕ). list ++ events_from x k) (sym left)
    ∙ so_far

-- all of the count, and then those that come later
pub events_whole : (x n later : ℕ) (list total : List Event) → n ≡ 0 → list ++ events_from x (n + later) ≡ total → list ++ events_from x later ≡ total
events_whole x n later list total left so_far = ap (λ (k : ℕ). list ++ events_from x k) (omega (arith, left)) ∙ so_far

-- as many events are drawn as are asked for
pub events_count : (x n : ℕ) → length (events_from x n) ≡ n
unfolding events_from
events_count x zero = refl
events_count x (suc n) = ap suc (events_count (after_event x) n)

-- ---- some at a time

pub none_drawn : (x : ℕ) → events_from x 0 ≡ []
unfolding events_from
none_drawn x = refl

pub cancel : (xs ys zs : List Event) → xs ++ ys ≡ xs ++ zs → ys ≡ zs
cancel [] ys zs h = h
cancel (x ∷ xs) ys zs h = cancel xs ys zs (ap (drop 1) h)

-- the first of the events are those that are drawn first
front : (x n most left : ℕ) → n ≡ min most left → events_from x n ≡ take most (events_from x left)
unfolding events_from
front x zero zero left h = refl
front x (suc n) zero left h = absurd (omega (arith, h))
front x zero (suc most) zero h = refl
front x (suc n) (suc most) zero h = absurd (omega (arith, h))
front x zero (suc most) (suc left) h = absurd (omega (arith, h))
front x (suc n) (suc most) (suc left) h = ap (λ (es : List Event). event_of (draws_from x) ∷ es) (front (after_event x) n most left (omega (arith, h)))

module _ (x y most left count : ℕ) (items : List Event) (is : count ≡ min most left) (drawn : (later : ℕ) → items ++ events_from y later ≡ events_from x (count + later)) where
  -- what is given at once
  pub next_given : items ≡ take most (events_from x left)
  next_given =
      sym (append-nil items)
      ∙ ap (λ (es : List Event). items ++ es) (sym (none_drawn y))
      ∙ drawn 0
      ∙ ap (events_from x) (omega arith)
      ∙ front x count most left is

  -- and what is left then
  pub next_left : events_from y (left - count) ≡ drop most (events_from x left)
  next_left =
      cancel items (events_from y (left - count)) (drop most (events_from x left)) (
      drawn (left - count)
      ∙ ap (events_from x) (omega (arith, is))
      ∙ sym (take-append-drop most (events_from x left))
      ∙ ap (λ (es : List Event). es ++ drop most (events_from x left)) (sym next_given)
      )
