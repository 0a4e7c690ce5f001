-- The lines of a run answer what its clients were told to do.
use Rattle.jn_system_reports.proofs.Common.{◌≡◌, ℕ, suc, ◌+◌, ◌≤◌, ◌<◌, Bool, true, false, List, [], ◌∷◌, ◌++◌, append-nil, append_assoc, length, drop, Some, None, refl, sym, ◌∙◌, ap, subst, arith, ◌&&◌, ◌||◌, not, nat_eq, if◌then◌else◌, map, list_all, nat_tests, drop-append_seam, ServerNo, ClientNo, Party, Command, Message, client_eq, client_tells, AllFiles, Event, When, AtEvent, AtEnd, Refusal, Text, Line, ClientTable, Commanded, Refuses, Sends, command_row, lines_at, Waited, nothing_asked, with_asked, is_own, answer_in, AllFit, after_answers, after_answer, after_event, own_in_place, is_command_of, AllOwnInPlace, FollowsEvent, after_one, FollowsFrom, IsOfEvent, AllOfEvents, Follows, fits, addressed, AreInTurn, IsWithin, AreWithin, lines_at-earlier, lines_at-newest, AreWithin-wider, AreWithin-append, World, opening, Step, NextEvent, Tell, Dismiss, after, run, IsRun, commanded, Printed, FileThere, PageStored, UnitLocked, text_printed, Act, Does, Refused, Tells, Shows, Item, events_of, steps_in, steps_of, told_in, told_under, after_item, at_event, may_do, may_act, IsUnder, AreUnder, IsReported, list_any, is_call}
use Rattle.std.proofs.lemmas.List.{length-map}
use Rattle.jn_calls.specs.declared.order.Order.TheVariants as orders
use Rattle.jn_schedule.specs.declared.Event.TheVariants as events
use Rattle.jn_report.specs.declared.line.Text.TheVariants as says
use Rattle.jn_serial.proofs.Refused.{refused-nowhere, refused-once}
use Rattle.jn_system_reports.specs.Reporting.Reported.{lines_of}
use Rattle.jn_system_reports.proofs.Reporting.Lists.{Each}
use Rattle.jn_system_reports.proofs.Reporting.Prints.{each-print}
use Rattle.jn_system_reports.proofs.Reporting.Reached.{Reached, next-reached, opening-reached}
use Rattle.jn_system_reports.proofs.Reporting.Fitting.{asked_of, Waits, Fit, left, IsOther, IsMute, Heard, heard-then, mute-heard}
use Rattle.jn_system_reports.proofs.Reporting.Hearing.{IsQuiet, StepHeard, told-is, step-hears, new-waits, Commands, commands}

-- ---- the acts of an event

tell-is-none : (e : Event) (c : ClientNo) (command : Command) → may_do e (Tell c command) ≡ false
tell-is-none (events.Command d other) c command = refl
tell-is-none (events.Call d s call) c command = refl
tell-is-none (events.Again d) c command = refl
tell-is-none (events.Deliver k) c command = refl
tell-is-none events.Settle c command = refl
tell-is-none (events.Step s) c command = refl
tell-is-none (events.Nudge s) c command = refl
tell-is-none (events.Timeout s T) c command = refl
tell-is-none (events.Scrub s) c command = refl
tell-is-none (events.Decay s p) c command = refl
tell-is-none (events.Revive s p) c command = refl
tell-is-none (events.Arm s n kind) c command = refl
tell-is-none (events.Crash s) c command = refl
tell-is-none (events.Restart s) c command = refl
tell-is-none (events.Show s) c command = refl

none-may : (e : Event) → (may_do e NextEvent ≡ false) × (may_do e Dismiss ≡ false)
none-may (events.Command d other) = (refl, refl)
none-may (events.Call d s call) = (refl, refl)
none-may (events.Again d) = (refl, refl)
none-may (events.Deliver k) = (refl, refl)
none-may events.Settle = (refl, refl)
none-may (events.Step s) = (refl, refl)
none-may (events.Nudge s) = (refl, refl)
none-may (events.Timeout s T) = (refl, refl)
none-may (events.Scrub s) = (refl, refl)
none-may (events.Decay s p) = (refl, refl)
none-may (events.Revive s p) = (refl, refl)
none-may (events.Arm s n kind) = (refl, refl)
none-may (events.Crash s) = (refl, refl)
none-may (events.Restart s) = (refl, refl)
none-may (events.Show s) = (refl, refl)

not-both : (b : Bool) → b ≡ false → b ≡ true → ⊥
not-both b e f = grind arith

abbrev pub IsQuietAct : Act → Type 0
IsQuietAct (Does step) = IsQuiet step
IsQuietAct act = Unit {0}

step-quiet : (e : Event) (step : Step) → may_do e step ≡ true → IsQuiet step
step-quiet e (Tell c command) h = absurd (not-both _ (tell-is-none e c command) h)
step-quiet e NextEvent h = absurd (not-both _ (none-may e).0 h)
step-quiet e Dismiss h = absurd (not-both _ (none-may e).1 h)
step-quiet e _ h = tt

act-quiet : (e : Event) (act : Act) → may_act e act ≡ true → IsQuietAct act
act-quiet e (Does step) h = step-quiet e step h
act-quiet e _ h = tt

all-quiet : (e : Event) (acts : List Act) → list_all (may_act e) acts ≡ true → Each IsQuietAct acts
all-quiet e [] h = tt
all-quiet e (act ∷ acts) h = (act-quiet e act (first-of (may_act e act) (list_all (may_act e) acts) h), all-quiet e acts (second-of (may_act e act) (list_all (may_act e) acts) h))
  where
    first-of : (a b : Bool) → (a && b) ≡ true → a ≡ true
    first-of a b k = grind arith

    second-of : (a b : Bool) → (a && b) ≡ true → b ≡ true
    second-of a b k = grind arith

-- an event is an order, or its acts are quiet
abbrev pub IsPlain : Event → Type 0
IsPlain (events.Command c command) = ⊥
IsPlain (events.Call c s call) = ⊥
IsPlain e = Unit {0}

pub under-quiet : (e : Event) (acts : List Act) → IsPlain e → IsUnder e acts → Each IsQuietAct acts
under-quiet (events.Command c command) acts p h = absurd p
under-quiet (events.Show s) acts p h = all-quiet (events.Show s) acts h
under-quiet (events.Again d) acts p h = all-quiet (events.Again d) acts h
under-quiet (events.Call d s call) acts p h = absurd h
under-quiet (events.Deliver k) acts p h = all-quiet (events.Deliver k) acts h
under-quiet events.Settle acts p h = all-quiet events.Settle acts h
under-quiet (events.Step s) acts p h = all-quiet (events.Step s) acts h
under-quiet (events.Nudge s) acts p h = all-quiet (events.Nudge s) acts h
under-quiet (events.Timeout s T) acts p h = all-quiet (events.Timeout s T) acts h
under-quiet (events.Scrub s) acts p h = all-quiet (events.Scrub s) acts h
under-quiet (events.Decay s g) acts p h = all-quiet (events.Decay s g) acts h
under-quiet (events.Revive s g) acts p h = all-quiet (events.Revive s g) acts h
under-quiet (events.Arm s n kind) acts p h = all-quiet (events.Arm s n kind) acts h
under-quiet (events.Crash s) acts p h = all-quiet (events.Crash s) acts h
under-quiet (events.Restart s) acts p h = all-quiet (events.Restart s) acts h

-- no event is a call
pub no-calls : (items : List Item) → AreUnder items → list_any is_call (events_of items) ≡ false
no-calls [] h = refl
no-calls (item ∷ items) h = ap (λ (b : Bool). b || list_any is_call (events_of items)) (none item.event item.acts h.0) ∙ no-calls items h.1
  where
    none : (e : Event) (acts : List Act) → IsUnder e acts → is_call e ≡ false
    none (events.Call c s call) acts u = absurd u
    none _ acts u = refl

print-mute : (s : ServerNo) (x : Printed) → IsMute (text_printed s x)
print-mute s (FileThere f) = (refl, tt)
print-mute s (PageStored f p bytes) = (refl, tt)
print-mute s (UnitLocked u T) = (refl, tt)

pub run-split : (a b : List Step) (r : World) → IsRun (a ++ b) r → IsRun a r × IsRun b (run a r)
run-split [] b r h = (tt, h)
run-split (step ∷ a) b r h = let k = run-split a b (after step r) h.1 in ((h.0, k.0), k.1)

module _ (files : AllFiles) (epochs : ServerNo → ℕ) where
  pub record ActsHeard (out : Waited) (texts : List Text) (event : ℕ) (r : World) : Type 0 where
    pub reached : Reached files epochs r
    pub same_event : r.event ≡ event
    pub heard : Heard out texts r.clients

  hears : (r : World) → Reached files epochs r → (step : Step) → IsQuiet step → StepHeard r.lines r.clients r.event (after step r)
  hears r reached step quiet = step-hears r _ reached.facts reached.talk step quiet

  then-acts : (r : World) (step : Step) (acts : List Act) (out : Waited) (h : StepHeard r.lines r.clients r.event (after step r)) → Heard out h.texts (after step r).clients
      → ActsHeard (left out h.texts) (told_in acts (after step r)) (after step r).event (run (steps_in acts) (after step r)) → ActsHeard out (told_in (Does step ∷ acts) r) r.event (run (steps_in acts) (after step r))
  then-acts r step acts out h first rest = record {
    reached = rest.reached;
    same_event = rest.same_event ∙ h.same_event;
    heard = subst (λ z. Heard out (z ++ told_in acts (after step r)) (run (steps_in acts) (after step r)).clients) (sym (told-is r step h.texts h.adds))
        (heard-then out h.texts (told_in acts (after step r)) (after step r).clients (run (steps_in acts) (after step r)).clients first rest.heard);
  }

  pub acts-heard : (acts : List Act) (r : World) → Reached files epochs r → IsRun (steps_in acts) r → Each IsQuietAct acts → (out : Waited) → Waits out r.clients → ActsHeard out (told_in acts r) r.event (run (steps_in acts) r)
  acts-heard [] r reached i quiet out waits = record { reached = reached; same_event = refl; heard = mute-heard out [] r.clients waits tt }
  acts-heard (Does step ∷ acts) r reached i quiet out waits = let h = hears r reached step quiet.0 in let first = h.heard out waits in
      then-acts r step acts out h first (acts-heard acts (after step r) (next-reached files epochs r step i.0 reached) i.1 quiet.1 (left out h.texts) first.now)
  acts-heard (Refused refusal ∷ acts) r reached i quiet out waits = let rest = acts-heard acts r reached i quiet.1 out waits in record {
    reached = rest.reached;
    same_event = rest.same_event;
    heard = heard-then out (says.RefusedEvent refusal ∷ []) (told_in acts r) r.clients (run (steps_in acts) r).clients (mute-heard out (says.RefusedEvent refusal ∷ []) r.clients waits ((refl, tt), tt)) rest.heard;
  }
  acts-heard (Tells s fault ∷ acts) r reached i quiet out waits = let rest = acts-heard acts r reached i quiet.1 out waits in record {
    reached = rest.reached;
    same_event = rest.same_event;
    heard = heard-then out (says.Outside s fault ∷ []) (told_in acts r) r.clients (run (steps_in acts) r).clients (mute-heard out (says.Outside s fault ∷ []) r.clients waits ((refl, tt), tt)) rest.heard;
  }
  acts-heard (Shows s prints ∷ acts) r reached i quiet out waits = let first = mute-heard out (map (text_printed s) prints) r.clients waits (each-print IsMute s (print-mute s) prints) in
      let rest = acts-heard acts r reached i quiet.1 (left out (map (text_printed s) prints)) first.now in
      record { reached = rest.reached; same_event = rest.same_event; heard = heard-then out (map (text_printed s) prints) (told_in acts r) r.clients (run (steps_in acts) r).clients first rest.heard }

  -- ---- an event

  -- the lines of an event follow, and then the clients wait for what is left
  pub record EventFollows (out : Waited) (number : ℕ) (e : Event) (texts : List Text) (r : World) : Type 0 where
    pub reached : Reached files epochs r
    pub same_event : r.event ≡ number
    pub follows : FollowsEvent out number e (at_event number texts)
    pub now : Waits (after_one out number e (at_event number texts)) r.clients

  all-fit : (out : Waited) (number : ℕ) (texts : List Text) → Fit out texts → AllFit out (at_event number texts)
  all-fit out number [] h = tt
  all-fit out number (x ∷ texts) h = (h.0, all-fit (after_answer out (answer_in x) x) number texts h.1)

  answers-left : (out : Waited) (number : ℕ) (texts : List Text) → after_answers out (at_event number texts) ≡ left out texts
  answers-left out number [] = refl
  answers-left out number (x ∷ texts) = answers-left (after_answer out (answer_in x) x) number texts

  one-own : (number : ℕ) (e : Event) (text : Text) → IsOther text → own_in_place number e text ≡ true
  one-own number e (says.Refused c j refusal) h = not-own (is_own refusal) h
    where
      not-own : (b : Bool) → b ≡ false → (not b || (nat_eq number j && is_command_of e c)) ≡ true
      not-own b k = grind arith
  one-own number e _ h = refl

  all-own : (number : ℕ) (e : Event) (texts : List Text) → Each IsOther texts → AllOwnInPlace number e (at_event number texts)
  all-own number e [] h = tt
  all-own number e (x ∷ texts) h = (one-own number e x h.0, all-own number e texts h.1)

  no-command : (e : Event) → IsPlain e → (c : ClientNo) → is_command_of e c ≡ false
  no-command (events.Command d command) p c = absurd p
  no-command (events.Call d s call) p c = absurd p
  no-command _ p c = refl

  plain-event : (out : Waited) (number : ℕ) (e : Event) (lines : List Line) → IsPlain e → after_event out number e lines ≡ out
  plain-event out number (events.Command c command) lines p = absurd p
  plain-event out number (events.Call c s call) lines p = absurd p
  plain-event out number _ lines p = refl

  plain-follows : (out : Waited) (e : Event) (acts : List Act) (r : World) → Reached files epochs r → IsRun (steps_in acts) r → Waits out r.clients → IsPlain e → IsUnder e acts → EventFollows out r.event e (told_in acts r) (run (steps_in acts) r)
  plain-follows out e acts r reached i waits plain under = record {
    reached = h.reached;
    same_event = h.same_event;
    follows = record { fit = subst (λ (o : Waited). AllFit o lines) (sym same) (all-fit out r.event (told_in acts r) h.heard.fit); own = own; once = refused-nowhere r.event e lines (no-command e plain) own };
    now = λ c. ap (λ (o : Waited). after_answers o lines c) same ∙ ap (λ (o : Waited). o c) (answers-left out r.event (told_in acts r)) ∙ h.heard.now c;
  }
    where
      h : ActsHeard out (told_in acts r) r.event (run (steps_in acts) r)
      h = acts-heard acts r reached i (under-quiet e acts plain under) out waits

      lines : List Line
      lines = at_event r.event (told_in acts r)

      own : AllOwnInPlace r.event e lines
      own = all-own r.event e (told_in acts r) h.heard.others

      same : after_event out r.event e (at_event r.event (told_in acts r)) ≡ out
      same = plain-event out r.event e (at_event r.event (told_in acts r)) plain

  -- a command
  module _ (out : Waited) (c : ClientNo) (command : Command) (r : World) (waits : Waits out r.clients) where
    refused-follows : (refusal : Refusal) → is_own refusal ≡ true → Reached files epochs (commanded c (Refuses refusal) r) → EventFollows out r.event (events.Command c command) (says.Refused c r.event refusal ∷ []) (commanded c (Refuses refusal) r)
    refused-follows refusal own reached = record { reached = reached; same_event = refl; follows = record { fit = (fit (is_own refusal) own, tt); own = (in-place (is_own refusal) own, tt); once = refused-once (record { when = AtEvent r.event; text = says.Refused c r.event refusal }) }; now = λ d. left-is (is_own refusal) own d ∙ waits d }
      where
        fit : (b : Bool) → b ≡ true → fits (after_event out r.event (events.Command c command) (at_event r.event (says.Refused c r.event refusal ∷ []))) (if b then None else addressed c r.event) (says.Refused c r.event refusal) ≡ true
        fit true k = refl
        fit false k = absurd (grind arith)

        in-place : (b : Bool) → b ≡ true → (not b || (nat_eq r.event r.event && client_eq c c)) ≡ true
        in-place b k = grind (arith, nat_tests, client_tells c c)

        left-is : (b : Bool) → b ≡ true → (d : ClientNo) → after_answer (if (b && (client_eq c c && nat_eq r.event r.event)) || false then out else with_asked out c (Some (record { number = r.event; order = orders.Command command }))) (if b then None else addressed c r.event) (says.Refused c r.event refusal) d ≡ out d
        left-is true k d = ap (λ (t : Bool). (if (t || false) then out else with_asked out c (Some (record { number = r.event; order = orders.Command command }))) d) (itself c r.event)
          where
            itself : (c : ClientNo) (n : ℕ) → (client_eq c c && nat_eq n n) ≡ true
            itself c n = grind (arith, nat_tests, client_tells c c)
        left-is false k d = absurd (grind arith)

    sent-follows : (u : ClientTable) (to : Party) (message : Message) → asked_of u.outstanding ≡ Some (record { number = r.event; order = orders.Command command }) → Reached files epochs (commanded c (Sends u to message) r) → EventFollows out r.event (events.Command c command) [] (commanded c (Sends u to message) r)
    sent-follows u to message h reached = record { reached = reached; same_event = refl; follows = record { fit = tt; own = tt; once = omega arith }; now = new-waits r.clients c u out waits _ h }

    nothing-more : (l : List Text) → drop (length l) l ++ [] ≡ []
    nothing-more l = append-nil (drop (length l) l) ∙ ap (λ z. drop (length l) z) (sym (append-nil l)) ∙ drop-append_seam l []

    by-row : (row : Commanded) → Commands r.event command row → Reached files epochs (commanded c row r) → EventFollows out r.event (events.Command c command) (drop (length r.lines) (commanded c row r).lines ++ []) (commanded c row r)
    by-row (Refuses refusal) h reached = subst (λ l. EventFollows out r.event (events.Command c command) l (commanded c (Refuses refusal) r))
        (sym (append-nil (drop (length r.lines) (r.lines ++ says.Refused c r.event refusal ∷ [])) ∙ drop-append_seam r.lines (says.Refused c r.event refusal ∷ []))) (refused-follows refusal h reached)
    by-row (Sends u to message) h reached = subst (λ l. EventFollows out r.event (events.Command c command) l (commanded c (Sends u to message) r)) (sym (nothing-more r.lines)) (sent-follows u to message h reached)

    command-follows : Reached files epochs (after (Tell c command) r) → EventFollows out r.event (events.Command c command) (told_in (Does (Tell c command) ∷ []) r) (after (Tell c command) r)
    command-follows reached = by-row (command_row (r.clients c) r.event command) (commands (r.clients c) r.event command) reached

  -- any event
  pub event-follows : (out : Waited) (e : Event) (acts : List Act) (r : World) → Reached files epochs r → IsRun (steps_in acts) r → Waits out r.clients → IsUnder e acts → EventFollows out r.event e (told_in acts r) (run (steps_in acts) r)
  event-follows out (events.Command c command) acts r reached i waits under = subst (λ (l : List Act). IsRun (steps_in l) r → EventFollows out r.event (events.Command c command) (told_in l r) (run (steps_in l) r)) (sym under)
      (λ k. command-follows out c command r waits (next-reached files epochs r (Tell c command) k.0 reached)) i
  event-follows out (events.Again d) acts r reached i waits under = plain-follows out (events.Again d) acts r reached i waits tt under
  event-follows out (events.Call d s call) acts r reached i waits under = absurd under
  event-follows out (events.Deliver k) acts r reached i waits under = plain-follows out (events.Deliver k) acts r reached i waits tt under
  event-follows out events.Settle acts r reached i waits under = plain-follows out events.Settle acts r reached i waits tt under
  event-follows out (events.Step s) acts r reached i waits under = plain-follows out (events.Step s) acts r reached i waits tt under
  event-follows out (events.Nudge s) acts r reached i waits under = plain-follows out (events.Nudge s) acts r reached i waits tt under
  event-follows out (events.Timeout s T) acts r reached i waits under = plain-follows out (events.Timeout s T) acts r reached i waits tt under
  event-follows out (events.Scrub s) acts r reached i waits under = plain-follows out (events.Scrub s) acts r reached i waits tt under
  event-follows out (events.Decay s g) acts r reached i waits under = plain-follows out (events.Decay s g) acts r reached i waits tt under
  event-follows out (events.Revive s g) acts r reached i waits under = plain-follows out (events.Revive s g) acts r reached i waits tt under
  event-follows out (events.Arm s n kind) acts r reached i waits under = plain-follows out (events.Arm s n kind) acts r reached i waits tt under
  event-follows out (events.Crash s) acts r reached i waits under = plain-follows out (events.Crash s) acts r reached i waits tt under
  event-follows out (events.Restart s) acts r reached i waits under = plain-follows out (events.Restart s) acts r reached i waits tt under
  event-follows out (events.Show s) acts r reached i waits under = plain-follows out (events.Show s) acts r reached i waits tt under

-- ---- all events

pub texts-within : (number : ℕ) (texts : List Text) → AreWithin number (number + 1) (at_event number texts)
texts-within number [] = tt
texts-within number (x ∷ texts) = ((≤-self number, <-self number), texts-within number texts)
  where
    ≤-self : (n : ℕ) → n ≤ n
    ≤-self n = omega arith

    <-self : (n : ℕ) → n < n + 1
    <-self n = omega arith

-- the lines of the items stand at their events, and follow
pub record ItemsFollow (out : Waited) (items : List Item) (r : World) : Type 0 where
  pub within : AreWithin (r.event + 1) (r.event + 1 + length items) (lines_of items r)
  pub follows : (before : List Line) → AreWithin 0 (r.event + 1) before → FollowsFrom out (r.event + 1) (events_of items) (before ++ lines_of items r)
  pub turn : AreInTurn (r.event + 1) (events_of items) (lines_of items r)

-- more lines, then the lines of later events
module _ (n high : ℕ) (before here later : List Line) (old : AreWithin 0 n before) (new : AreWithin n (n + 1) here) (after : AreWithin (n + 1) high later) where
  pub lines-here : lines_at (AtEvent n) (before ++ (here ++ later)) ≡ here
  lines-here = ap (λ l. lines_at (AtEvent n) l) (sym (append_assoc before here later)) ∙ lines_at-earlier (n + 1) high n (before ++ here) later after (below n) ∙ lines_at-newest n before here old new
    where
      below : (n : ℕ) → n < n + 1
      below n = omega arith

  pub all-before : AreWithin 0 (n + 1) (before ++ here)
  all-before = AreWithin-append 0 (n + 1) before here (AreWithin-wider 0 n 0 (n + 1) before (zero-up 0) (up n) old) (AreWithin-wider n (n + 1) 0 (n + 1) here (zero-up n) (self (n + 1)) new)
    where
      zero-up : (n : ℕ) → 0 ≤ n
      zero-up n = omega arith

      up : (n : ℕ) → n ≤ n + 1
      up n = omega arith

      self : (n : ℕ) → n ≤ n
      self n = omega arith

module _ (out : Waited) (item : Item) (items : List Item) (r q : World) (event : q.event ≡ r.event + 1) (is : q ≡ after_item item r) (follows : FollowsEvent out (r.event + 1) item.event (at_event (r.event + 1) (told_under item r)))
    (rest : ItemsFollow (after_one out (r.event + 1) item.event (at_event (r.event + 1) (told_under item r))) items q) where
  abbrev here : List Line
  here = at_event (r.event + 1) (told_under item r)

  later-within : AreWithin (r.event + 1 + 1) (r.event + 1 + length (item ∷ items)) (lines_of items (after_item item r))
  later-within = AreWithin-wider (q.event + 1) (q.event + 1 + length items) (r.event + 1 + 1) (r.event + 1 + length (item ∷ items)) (lines_of items (after_item item r)) (low event) (high (length items) event) (subst (λ (z : World). AreWithin (q.event + 1) (q.event + 1 + length items) (lines_of items z)) is rest.within)
    where
      low : q.event ≡ r.event + 1 → r.event + 1 + 1 ≤ q.event + 1
      low e = omega (arith, e)

      high : (k : ℕ) → q.event ≡ r.event + 1 → q.event + 1 + k ≤ r.event + 1 + suc k
      high k e = omega (arith, e)

  then-follow : ItemsFollow out (item ∷ items) r
  then-follow = record {
    within = AreWithin-append (r.event + 1) (r.event + 1 + length (item ∷ items)) here (lines_of items (after_item item r)) (AreWithin-wider (r.event + 1) (r.event + 1 + 1) (r.event + 1) (r.event + 1 + length (item ∷ items)) here (self (r.event + 1)) (high r.event (length items)) (texts-within (r.event + 1) (told_under item r)))
        (AreWithin-wider (r.event + 1 + 1) (r.event + 1 + length (item ∷ items)) (r.event + 1) (r.event + 1 + length (item ∷ items)) (lines_of items (after_item item r)) (up (r.event + 1)) (self (r.event + 1 + length (item ∷ items))) later-within);
    follows = by;
    turn = (
      here,
      (
        lines_of items (after_item item r),
        (
          refl,
          (
            texts-within (r.event + 1) (told_under item r),
            subst (λ n. AreInTurn (n + 1) (events_of items) (lines_of items (after_item item r))) event (subst (λ (z : World). AreInTurn (q.event + 1) (events_of items) (lines_of items z)) is rest.turn),
          ),
        ),
      ),
    );
  }
    where
      self : (n : ℕ) → n ≤ n
      self n = omega arith

      up : (n : ℕ) → n ≤ n + 1
      up n = omega arith

      high : (n k : ℕ) → n + 1 + 1 ≤ n + 1 + suc k
      high n k = omega arith

      by : (before : List Line) → AreWithin 0 (r.event + 1) before → FollowsFrom out (r.event + 1) (events_of (item ∷ items)) (before ++ lines_of (item ∷ items) r)
      by before k = (
        subst (λ l. FollowsEvent out (r.event + 1) item.event l) (sym is-here) follows,
        subst (λ l. FollowsFrom (after_one out (r.event + 1) item.event l) (r.event + 1 + 1) (events_of items) (before ++ (here ++ lines_of items (after_item item r)))) (sym is-here)
            (subst (λ l. FollowsFrom (after_one out (r.event + 1) item.event here) (r.event + 1 + 1) (events_of items) l) (append_assoc before here (lines_of items (after_item item r))) on),
      )
        where
          is-here : lines_at (AtEvent (r.event + 1)) (before ++ (here ++ lines_of items (after_item item r))) ≡ here
          is-here = lines-here (r.event + 1) (r.event + 1 + length (item ∷ items)) before here (lines_of items (after_item item r)) k (texts-within (r.event + 1) (told_under item r)) later-within

          wide : AreWithin 0 (r.event + 1 + 1) (before ++ here)
          wide = all-before (r.event + 1) (r.event + 1 + length (item ∷ items)) before here (lines_of items (after_item item r)) k (texts-within (r.event + 1) (told_under item r)) later-within

          on : FollowsFrom (after_one out (r.event + 1) item.event here) (r.event + 1 + 1) (events_of items) (before ++ here ++ lines_of items (after_item item r))
          on = subst (λ n. FollowsFrom (after_one out (r.event + 1) item.event here) (n + 1) (events_of items) (before ++ here ++ lines_of items (after_item item r))) event
              (subst (λ (z : World). FollowsFrom (after_one out (r.event + 1) item.event here) (q.event + 1) (events_of items) (before ++ here ++ lines_of items z)) is (rest.follows (before ++ here) (subst (λ n. AreWithin 0 (n + 1) (before ++ here)) (sym event) wide)))

module _ (files : AllFiles) (epochs : ServerNo → ℕ) where
  pub items-follow : (items : List Item) (r : World) → Reached files epochs r → IsRun (steps_of items) r → AreUnder items → (out : Waited) → Waits out r.clients → ItemsFollow out items r
  items-follow [] r reached i under out waits = record { within = tt; follows = λ before k. tt; turn = tt }
  items-follow (item ∷ items) r reached i under out waits = let split = run-split (steps_in item.acts) (steps_of items) (after NextEvent r) i.1 in
      let h = event-follows files epochs out item.event item.acts (after NextEvent r) (next-reached files epochs r NextEvent tt reached) split.0 waits under.0 in
      then-follow out item items r (after_item item r) h.same_event refl h.follows (items-follow items (after_item item r) h.reached split.1 under.1 _ h.now)

  answers-of-events : (count : ℕ) (lines : List Line) → AreWithin 1 (1 + count) lines → AllOfEvents count lines
  answers-of-events count [] h = tt
  answers-of-events count (l ∷ lines) h = (λ a. by l.when h.0, answers-of-events count lines h.1)
    where
      by : (w : When) → IsWithin 1 (1 + count) w → IsOfEvent count w
      by (AtEvent i) k = (k.0, below i count k.1)
        where
          below : (i n : ℕ) → i < 1 + n → i ≤ n
          below i n g = omega (arith, g)
      by AtEnd k = absurd k

  pub run-in-turn : (servers : ℕ) (items : List Item) → IsReported items (opening servers files epochs) → AreInTurn 1 (events_of items) (lines_of items (opening servers files epochs))
  run-in-turn servers items h = (items-follow items (opening servers files epochs) (opening-reached files epochs servers) h.steps h.under nothing_asked (λ c. refl)).turn

  pub run-follows : (servers : ℕ) (items : List Item) → IsReported items (opening servers files epochs) → Follows (events_of items) (lines_of items (opening servers files epochs))
  run-follows servers items h = let f = items-follow items (opening servers files epochs) (opening-reached files epochs servers) h.steps h.under nothing_asked (λ c. refl) in record {
    answers = f.follows [] tt;
    of_events = subst (λ n. AllOfEvents n (lines_of items (opening servers files epochs))) (sym (length-map items (λ (item : Item). item.event))) (answers-of-events (length items) (lines_of items (opening servers files epochs)) f.within);
  }
