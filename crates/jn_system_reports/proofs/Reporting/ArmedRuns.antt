-- Each stop and each refused fault of a run's lines has an arm, or a decay of its event.
use Rattle.jn_system_reports.proofs.Common.{◌≡◌, ◌≢◌, ◌⊎◌, inl, inr, ◌≤◌, ℕ, suc, ◌+◌, Bool, true, false, List, [], ◌∷◌, ◌++◌, append-nil, append_assoc, length, refl, sym, ◌∙◌, ap, subst, arith, ◌&&◌, ◌||◌, not, if◌then◌else◌, nat_lt, list_any, list_all, nat_tests, ServerNo, server_eq, server_tells, AllFiles, Event, AtEvent, Text, Line, lines_at, says, count_lines, count_events, is_stop, refuses_event, stops, arms_stop, refuses_fault, gives_fault, AreWithin, lines_at-newest, AreWithin-append, AreWithin-wider, World, opening, NextEvent, after, IsRun, Act, Does, Tells, Shows, Item, events_of, steps_in, steps_of, told_in, told_under, after_item, at_event, may_act, IsUnder, AreUnder, Waiting, none_wait, one_more, armed, with_event, strike_all, AreStruck, FaultsWait, IsReported, ArmedFrom, AreArmed}
use Rattle.jn_base.specs.declared.device.FaultKind.{FaultKind}
use Rattle.jn_schedule.specs.declared.Event.TheVariants as events
use Rattle.jn_report.specs.declared.line.Text.TheVariants as says
use Rattle.jn_system_reports.specs.Reporting.Reported.{Refuses, lines_of}
use Rattle.jn_system_reports.proofs.Reporting.Lists.{Each}
use Rattle.jn_system_reports.proofs.Reporting.Reached.{Reached, next-reached, opening-reached}
use Rattle.jn_system_reports.proofs.Reporting.Fitting.{asked_of}
use Rattle.jn_system_reports.proofs.Reporting.Following.{event-follows, run-split, texts-within}
use Rattle.jn_system_reports.proofs.Reporting.Arming.{bit, MayCount, MayAll, Armed, armed-texts, cover-done, own_stop, own_fault, stop-is, fault-is, stop-takes, fault-takes}

-- ---- an arm reports nothing but its refusal

abbrev IsRefusal : Text → Type 0
IsRefusal (says.RefusedEvent refusal) = Unit {0}
IsRefusal text = ⊥

arm-texts : (s : ServerNo) (n : ℕ) (kind : FaultKind) (acts : List Act) (r : World) → list_all (may_act (events.Arm s n kind)) acts ≡ true → Each IsRefusal (told_in acts r)
arm-texts s n kind acts r h = by acts h
  where
    second : (a b : Bool) → (a && b) ≡ true → b ≡ true
    second a b k = grind arith

    no : (b : Bool) → (false && b) ≡ true → ⊥
    no b k = grind arith

    by : (acts : List Act) → list_all (may_act (events.Arm s n kind)) acts ≡ true → Each IsRefusal (told_in acts r)
    by [] h = tt
    by (Does step ∷ acts) h = absurd (no (list_all (may_act (events.Arm s n kind)) acts) h)
    by (Refuses refusal ∷ acts) h = (tt, by acts (second _ _ h))
    by (Tells t fault ∷ acts) h = absurd (no (list_all (may_act (events.Arm s n kind)) acts) h)
    by (Shows t prints ∷ acts) h = absurd (no (list_all (may_act (events.Arm s n kind)) acts) h)

-- ---- what an event may give

said : (test : Text → Bool) (n : ℕ) (texts : List Text) → says test (at_event n texts) ≡ list_any test texts
said test n [] = refl
said test n (x ∷ texts) = ap (λ (b : Bool). test x || b) (said test n texts)

said-last : (test : Text → Bool) (here : List Line) (l : Line) → test l.text ≡ true → says test (here ++ l ∷ []) ≡ true
said-last test [] l h = ap (λ (b : Bool). b || false) h
said-last test (x ∷ here) l h = ap (λ (b : Bool). test x.text || b) (said-last test here l h) ∙ any (test x.text)
  where
    any : (b : Bool) → (b || true) ≡ true
    any b = grind arith

zero-least : (n : ℕ) → 0 ≤ n
zero-least n = omega arith

module _ (n : ℕ) (es : List Event) (before : List Line) (texts : List Text) (x : Waiting) (len : n ≡ 1 + length es) (old : AreWithin 0 n before) where
  here-lines : lines_at (AtEvent n) (before ++ at_event n texts) ≡ at_event n texts
  here-lines = lines_at-newest n before (at_event n texts) old (texts-within n texts)

  abbrev gs : Event → ServerNo → ℕ
  gs e s = bit (arms_stop s (before ++ at_event n texts) (AtEvent (n + 1)) n e)

  abbrev gf : Event → ServerNo → ℕ
  gf e s = bit (gives_fault s (before ++ at_event n texts) (AtEvent (n + 1)) n e)

  pub record EventArms (e : Event) : Type 0 where
    pub stop : (s : ServerNo) → (with_event e texts x).stops s ≤ x.stops s + gs e s
    pub fault : (s : ServerNo) → (with_event e texts x).faults s ≤ x.faults s + gf e s
    pub may : MayAll n es e before (gs e) (gf e) len texts

  up : (a b : ℕ) → a ≤ a + b
  up a b = omega arith

  -- an event that gives nothing
  gives-none : (e : Event) → with_event e texts x ≡ x → ((s : ServerNo) → gs e s ≡ 0) → ((s : ServerNo) → gf e s ≡ 0) → EventArms e
  gives-none e same gs-none gf-none = record {
    stop = λ s. subst (λ (y : Waiting). y.stops s ≤ x.stops s + gs e s) (sym same) (up (x.stops s) (gs e s));
    fault = λ s. subst (λ (y : Waiting). y.faults s ≤ x.faults s + gf e s) (sym same) (up (x.faults s) (gf e s));
    may = all texts;
  }
    where
      one : (text : Text) → MayCount n es e before (gs e) (gf e) len text
      one text = record {
        stop = λ s here h. subst (λ k. k ≤ bit (arms_stop s (before ++ (here ++ (record { when = AtEvent n; text = text }) ∷ [])) (AtEvent n) n e)) (sym (gs-none s)) (zero-least _);
        fault = λ s here w h. subst (λ k. k ≤ bit (gives_fault s (before ++ (here ++ (record { when = AtEvent n; text = text }) ∷ [])) (AtEvent n) n e)) (sym (gf-none s)) (zero-least _);
      }

      all : (ts : List Text) → MayAll n es e before (gs e) (gf e) len ts
      all [] = tt
      all (t ∷ ts) = (one t, all ts)

  is-next : nat_lt n (n + 1) ≡ true
  is-next = grind (arith, nat_tests)

  arm-gives : (r : ServerNo) (k : ℕ) (kind : FaultKind) → Each IsRefusal texts → EventArms (events.Arm r k kind)
  arm-gives r k kind refusals = record { stop = λ s. by-stop s (server_tells r s); fault = λ s. by-fault s (server_tells r s); may = all texts refusals }
    where
      is-accepted : (nat_lt n (n + 1) && not (says refuses_event (lines_at (AtEvent n) (before ++ at_event n texts)))) ≡ not (list_any refuses_event texts)
      is-accepted = ap (λ (b : Bool). b && not (says refuses_event (lines_at (AtEvent n) (before ++ at_event n texts)))) is-next ∙ ap (λ l. not (says refuses_event l)) here-lines ∙ ap not (said refuses_event n texts)

      by-stop : (s : ServerNo) → ((server_eq r s ≡ true) × (r ≡ s)) ⊎ ((server_eq r s ≡ false) × (r ≢ s)) → (with_event (events.Arm r k kind) texts x).stops s ≤ x.stops s + gs (events.Arm r k kind) s
      by-stop s t = subst (λ (b : Bool). (with_event (events.Arm r k kind) texts x).stops s ≤ x.stops s + bit (server_eq r s && (is_stop kind && b))) (sym is-accepted) (at t (list_any refuses_event texts) (is_stop kind))
        where
          one : (n : ℕ) → n + 1 ≤ n + 1
          one n = omega arith

          at : ((server_eq r s ≡ true) × (r ≡ s)) ⊎ ((server_eq r s ≡ false) × (r ≢ s)) → (refused stopping : Bool) → (if refused then x else record { stops = if stopping then one_more r x.stops else x.stops; faults = one_more r x.faults }).stops s ≤ x.stops s + bit (server_eq r s && (stopping && not refused))
          at t true stopping = up (x.stops s) (bit (server_eq r s && (stopping && false)))
          at t false false = up (x.stops s) (bit (server_eq r s && false))
          at (inl p) false true = subst (λ (b : Bool). (if b then x.stops r + 1 else x.stops s) ≤ x.stops s + bit (b && true)) (sym p.0) (subst (λ (q : ServerNo). x.stops r + 1 ≤ x.stops q + 1) p.1 (one (x.stops r)))
          at (inr p) false true = subst (λ (b : Bool). (if b then x.stops r + 1 else x.stops s) ≤ x.stops s + bit (b && true)) (sym p.0) (up (x.stops s) 0)

      by-fault : (s : ServerNo) → ((server_eq r s ≡ true) × (r ≡ s)) ⊎ ((server_eq r s ≡ false) × (r ≢ s)) → (with_event (events.Arm r k kind) texts x).faults s ≤ x.faults s + gf (events.Arm r k kind) s
      by-fault s t = subst (λ (b : Bool). (with_event (events.Arm r k kind) texts x).faults s ≤ x.faults s + bit (server_eq r s && b)) (sym is-accepted) (at t (list_any refuses_event texts))
        where
          one : (n : ℕ) → n + 1 ≤ n + 1
          one n = omega arith

          at : ((server_eq r s ≡ true) × (r ≡ s)) ⊎ ((server_eq r s ≡ false) × (r ≢ s)) → (refused : Bool) → (if refused then x else armed r kind x).faults s ≤ x.faults s + bit (server_eq r s && not refused)
          at t true = up (x.faults s) (bit (server_eq r s && false))
          at (inl p) false = subst (λ (b : Bool). (if b then x.faults r + 1 else x.faults s) ≤ x.faults s + bit (b && true)) (sym p.0) (subst (λ (q : ServerNo). x.faults r + 1 ≤ x.faults q + 1) p.1 (one (x.faults r)))
          at (inr p) false = subst (λ (b : Bool). (if b then x.faults r + 1 else x.faults s) ≤ x.faults s + bit (b && true)) (sym p.0) (up (x.faults s) 0)

      one : (text : Text) → IsRefusal text → MayCount n es (events.Arm r k kind) before (gs (events.Arm r k kind)) (gf (events.Arm r k kind)) len text
      one (says.RefusedEvent refusal) h = record { stop = λ s here e. absurd (grind arith); fault = λ s here w e. absurd (grind arith) }
      one _ h = absurd h

      all : (ts : List Text) → Each IsRefusal ts → MayAll n es (events.Arm r k kind) before (gs (events.Arm r k kind)) (gf (events.Arm r k kind)) len ts
      all [] h = tt
      all (t ∷ ts) h = (one t h.0, all ts h.1)

  decay-gives : (r : ServerNo) (page : ℕ) → EventArms (events.Decay r page)
  decay-gives r page = record { stop = λ s. by-stop s (list_any (refuses_fault r) texts); fault = λ s. by-fault s (server_tells r s); may = all texts }
    where
      by-stop : (s : ServerNo) (b : Bool) → (if b then record x { faults = one_more r x.faults } else x).stops s ≤ x.stops s + 0
      by-stop s true = up (x.stops s) 0
      by-stop s false = up (x.stops s) 0

      by-fault : (s : ServerNo) → ((server_eq r s ≡ true) × (r ≡ s)) ⊎ ((server_eq r s ≡ false) × (r ≢ s)) → (with_event (events.Decay r page) texts x).faults s ≤ x.faults s + gf (events.Decay r page) s
      by-fault s t = subst (λ (b : Bool). (with_event (events.Decay r page) texts x).faults s ≤ x.faults s + bit (server_eq r s && b)) (sym (ap (λ l. says (refuses_fault s) l) here-lines ∙ said (refuses_fault s) n texts)) (at t (list_any (refuses_fault r) texts) refl)
        where
          one : (n : ℕ) → n + 1 ≤ n + 1
          one n = omega arith

          at : ((server_eq r s ≡ true) × (r ≡ s)) ⊎ ((server_eq r s ≡ false) × (r ≢ s)) → (b : Bool) → list_any (refuses_fault r) texts ≡ b → (if b then record x { faults = one_more r x.faults } else x).faults s ≤ x.faults s + bit (server_eq r s && list_any (refuses_fault s) texts)
          at t false e = up (x.faults s) (bit (server_eq r s && list_any (refuses_fault s) texts))
          at (inl p) true e = subst (λ (b : Bool). (if server_eq r s then x.faults r + 1 else x.faults s) ≤ x.faults s + bit (server_eq r s && b)) (sym (subst (λ (q : ServerNo). list_any (refuses_fault q) texts ≡ true) p.1 e))
              (subst (λ (b : Bool). (if b then x.faults r + 1 else x.faults s) ≤ x.faults s + bit (b && true)) (sym p.0) (subst (λ (q : ServerNo). x.faults r + 1 ≤ x.faults q + 1) p.1 (one (x.faults r))))
          at (inr p) true e = subst (λ (b : Bool). (if b then x.faults r + 1 else x.faults s) ≤ x.faults s + bit (b && list_any (refuses_fault s) texts)) (sym p.0) (up (x.faults s) 0)

      most : (a b : Bool) → bit (a && b) ≤ bit (a && true)
      most a b = grind arith

      one : (text : Text) → MayCount n es (events.Decay r page) before (gs (events.Decay r page)) (gf (events.Decay r page)) len text
      one text = record {
        stop = λ s here h. zero-least _;
        fault = λ s here w h. subst (λ (b : Bool). gf (events.Decay r page) s ≤ bit (server_eq r s && b)) (sym (ap (λ l. says (refuses_fault s) l) (lines_at-newest n before (here ++ (record { when = AtEvent n; text = text }) ∷ []) old w) ∙ said-last (refuses_fault s) here (record { when = AtEvent n; text = text }) h))
            (most (server_eq r s) (says (refuses_fault s) (lines_at (AtEvent n) (before ++ at_event n texts))));
      }

      all : (ts : List Text) → MayAll n es (events.Decay r page) before (gs (events.Decay r page)) (gf (events.Decay r page)) len ts
      all [] = tt
      all (t ∷ ts) = (one t, all ts)

  pub event-arms : (e : Event) (acts : List Act) (r : World) → texts ≡ told_in acts r → IsUnder e acts → EventArms e
  event-arms (events.Arm s k kind) acts r is under = arm-gives s k kind (subst (λ l. Each IsRefusal l) (sym is) (arm-texts s k kind acts r under))
  event-arms (events.Decay s page) acts r is under = decay-gives s page
  event-arms (events.Command c command) acts r is under = gives-none _ refl (λ s. refl) (λ s. refl)
  event-arms (events.Call c t call) acts r is under = absurd under
  event-arms (events.Again c) acts r is under = gives-none _ refl (λ s. refl) (λ s. refl)
  event-arms (events.Deliver k) acts r is under = gives-none _ refl (λ s. refl) (λ s. refl)
  event-arms events.Settle acts r is under = gives-none _ refl (λ s. refl) (λ s. refl)
  event-arms (events.Step t) acts r is under = gives-none _ refl (λ s. refl) (λ s. refl)
  event-arms (events.Nudge t) acts r is under = gives-none _ refl (λ s. refl) (λ s. refl)
  event-arms (events.Timeout t T) acts r is under = gives-none _ refl (λ s. refl) (λ s. refl)
  event-arms (events.Scrub t) acts r is under = gives-none _ refl (λ s. refl) (λ s. refl)
  event-arms (events.Revive t page) acts r is under = gives-none _ refl (λ s. refl) (λ s. refl)
  event-arms (events.Crash t) acts r is under = gives-none _ refl (λ s. refl) (λ s. refl)
  event-arms (events.Restart t) acts r is under = gives-none _ refl (λ s. refl) (λ s. refl)
  event-arms (events.Show t) acts r is under = gives-none _ refl (λ s. refl) (λ s. refl)

-- ---- all events

-- what waits and has struck is covered by the events so far
pub record CoveredSoFar (x : Waiting) (n : ℕ) (es : List Event) (before : List Line) : Type 0 where
  pub stop : (s : ServerNo) → x.stops s + count_lines (stops s) before ≤ count_events (arms_stop s before (AtEvent n)) 1 es
  pub fault : (s : ServerNo) → x.faults s + count_lines (refuses_fault s) before ≤ count_events (gives_fault s before (AtEvent n)) 1 es

-- one event with its lines
module _ (n : ℕ) (es : List Event) (e : Event) (before : List Line) (texts : List Text) (x : Waiting) (len : n ≡ 1 + length es) (old : AreWithin 0 n before) (so-far : CoveredSoFar x n es before) (arms : EventArms n es before texts x len old e)
    (struck : AreStruck (with_event e texts x) texts) where
  start : (a b c k g : ℕ) → a ≤ b + g → b + c ≤ k → a + c ≤ k + g
  start a b c k g h l = omega (arith, h, l)

  at-start : (test : Text → Bool) → count_lines test (before ++ []) ≡ count_lines test before
  at-start test = ap (λ l. count_lines test l) (append-nil before)

  armed-event : (fs : List Event) → Armed n es e before (gs n es before texts x len old e) (gf n es before texts x len old e) len fs (with_event e texts x) [] texts
  armed-event fs = armed-texts n es e before (gs n es before texts x len old e) (gf n es before texts x len old e) len fs texts (with_event e texts x) [] struck (texts-within n texts)
      (λ s. subst (λ k. (with_event e texts x).stops s + k ≤ count_events (arms_stop s before (AtEvent n)) 1 es + gs n es before texts x len old e s) (sym (at-start (stops s))) (start _ _ _ _ _ (arms.stop s) (so-far.stop s)))
      (λ s. subst (λ k. (with_event e texts x).faults s + k ≤ count_events (gives_fault s before (AtEvent n)) 1 es + gf n es before texts x len old e s) (sym (at-start (refuses_fault s))) (start _ _ _ _ _ (arms.fault s) (so-far.fault s))) arms.may

  self : (n : ℕ) → n ≤ n
  self n = omega arith

  covered-then : CoveredSoFar (strike_all texts (with_event e texts x)) (n + 1) (es ++ e ∷ []) (before ++ at_event n texts)
  covered-then = let a = armed-event [] in record {
    stop = λ s. cover-done (stops s) (refuses_fault s) (arms_stop s) (own_stop s) (stop-is s) (λ y. y.stops s) (stop-takes s) n es e before (gs n es before texts x len old e s) len (strike_all texts (with_event e texts x)) (at_event n texts) (a.stops_then s) (texts-within n texts) (self _);
    fault = λ s. cover-done (refuses_fault s) (refuses_fault s) (gives_fault s) (own_fault s) (fault-is s) (λ y. y.faults s) (fault-takes s) n es e before (gf n es before texts x len old e s) len (strike_all texts (with_event e texts x)) (at_event n texts) (a.faults_then s) (texts-within n texts) (self _);
  }

armed-more : (es : List Event) (before xs ys : List Line) → ArmedFrom es before xs → ArmedFrom es (before ++ xs) ys → ArmedFrom es before (xs ++ ys)
armed-more es before [] ys h k = subst (λ l. ArmedFrom es l ys) (append-nil before) k
armed-more es before (l ∷ xs) ys h k = (h.0, armed-more es (before ++ l ∷ []) xs ys h.1 (subst (λ z. ArmedFrom es z ys) (sym (append_assoc before (l ∷ []) xs)) k))

pub length-more : (es : List Event) (e : Event) → length (es ++ e ∷ []) ≡ length es + 1
length-more [] e = refl
length-more (d ∷ es) e = ap suc (length-more es e) ∙ shift (length es)
  where
    shift : (n : ℕ) → suc (n + 1) ≡ suc n + 1
    shift n = omega arith

module _ (files : AllFiles) (epochs : ServerNo → ℕ) where
  -- one item, and then the others
  item-armed : (item : Item) (items : List Item) (r : World) (es : List Event) (before : List Line) (x : Waiting) (len : r.event + 1 ≡ 1 + length es) (old : AreWithin 0 (r.event + 1) before) → CoveredSoFar x (r.event + 1) es before
      → EventArms (r.event + 1) es before (told_under item r) x len old item.event → AreStruck (with_event item.event (told_under item r) x) (told_under item r)
      → (CoveredSoFar (strike_all (told_under item r) (with_event item.event (told_under item r) x)) (r.event + 1 + 1) (es ++ item.event ∷ []) (before ++ at_event (r.event + 1) (told_under item r)) → AreWithin 0 (r.event + 1 + 1) (before ++ at_event (r.event + 1) (told_under item r))
      → ArmedFrom ((es ++ item.event ∷ []) ++ events_of items) (before ++ at_event (r.event + 1) (told_under item r)) (lines_of items (after_item item r)))
      → ArmedFrom (es ++ events_of (item ∷ items)) before (lines_of (item ∷ items) r)
  item-armed item items r es before x len old so-far arms struck rest = armed-more (es ++ events_of (item ∷ items)) before (at_event (r.event + 1) (told_under item r)) (lines_of items (after_item item r))
      (subst (λ l. ArmedFrom (es ++ events_of (item ∷ items)) l (at_event (r.event + 1) (told_under item r))) (append-nil before) (armed-event (r.event + 1) es item.event before (told_under item r) x len old so-far arms struck (events_of items)).lines)
      (subst (λ l. ArmedFrom l (before ++ at_event (r.event + 1) (told_under item r)) (lines_of items (after_item item r))) (append_assoc es (item.event ∷ []) (events_of items))
      (rest (covered-then (r.event + 1) es item.event before (told_under item r) x len old so-far arms struck)
      (AreWithin-append 0 (r.event + 1 + 1) before (at_event (r.event + 1) (told_under item r)) (AreWithin-wider 0 (r.event + 1) 0 (r.event + 1 + 1) before (self 0) (up (r.event + 1)) old)
      (AreWithin-wider (r.event + 1) (r.event + 1 + 1) 0 (r.event + 1 + 1) (at_event (r.event + 1) (told_under item r)) (zero-least (r.event + 1)) (self (r.event + 1 + 1)) (texts-within (r.event + 1) (told_under item r))))))
    where
      self : (n : ℕ) → n ≤ n
      self n = omega arith

      up : (n : ℕ) → n ≤ n + 1
      up n = omega arith

  items-armed : (items : List Item) (r : World) (es : List Event) (before : List Line) (x : Waiting) → Reached files epochs r → IsRun (steps_of items) r → AreUnder items → FaultsWait x items r → r.event + 1 ≡ 1 + length es → AreWithin 0 (r.event + 1) before
      → CoveredSoFar x (r.event + 1) es before → ArmedFrom (es ++ events_of items) before (lines_of items r)
  items-armed [] r es before x h i under waits len old so-far = tt
  items-armed (item ∷ items) r es before x h i under waits len old so-far = let split = run-split (steps_in item.acts) (steps_of items) (after NextEvent r) i.1 in
      let next = event-follows files epochs (λ c. asked_of (r.clients c).outstanding) item.event item.acts (after NextEvent r) (next-reached files epochs r NextEvent tt h) split.0 (λ c. refl) under.0 in
      item-armed item items r es before x len old so-far (event-arms (r.event + 1) es before (told_under item r) x len old item.event item.acts (after NextEvent r) refl under.0) waits.0
      (λ c w. items-armed items (after_item item r) (es ++ item.event ∷ []) (before ++ at_event (r.event + 1) (told_under item r)) (strike_all (told_under item r) (with_event item.event (told_under item r) x)) next.reached split.1 under.1 waits.1
      (numbers (after_item item r).event (r.event + 1) (length es) (length (es ++ item.event ∷ [])) next.same_event len (length-more es item.event))
      (subst (λ n. AreWithin 0 (n + 1) (before ++ at_event (r.event + 1) (told_under item r))) (sym next.same_event) w)
      (subst (λ n. CoveredSoFar (strike_all (told_under item r) (with_event item.event (told_under item r) x)) (n + 1) (es ++ item.event ∷ []) (before ++ at_event (r.event + 1) (told_under item r))) (sym next.same_event) c))
    where
      numbers : (a b c d : ℕ) → a ≡ b → b ≡ 1 + c → d ≡ c + 1 → a + 1 ≡ 1 + d
      numbers a b c d e f g = omega (arith, e, f, g)

  pub run-armed : (items : List Item) (servers : ℕ) → IsReported items (opening servers files epochs) → AreArmed (events_of items) (lines_of items (opening servers files epochs))
  run-armed items servers h = items-armed items (opening servers files epochs) [] [] none_wait (opening-reached files epochs servers) h.steps h.under h.faults refl tt (record { stop = λ s. zero-least _; fault = λ s. zero-least _ })
