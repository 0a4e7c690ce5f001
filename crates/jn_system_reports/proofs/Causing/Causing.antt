-- The lines of a run have their causes, event by event.
use Rattle.jn_system_reports.proofs.Common.{◌≡◌, ◌≤◌, ℕ, ◌+◌, true, false, List, [], ◌∷◌, ◌++◌, append-nil, append_assoc, length, Some, None, refl, sym, ◌∙◌, ap, subst, arith, ServerNo, ClientNo, Tid, Command, AllFiles, Event, When, AtEvent, Text, Line, Outstanding, Commanded, Refuses, Sends, command_row, opening_world, World, Memory, opening, new_memory, Step, NextEvent, Tell, after, run, IsRun, commanded, opening-keeps, opening-mirrors, opening-facts, is_caused_by, is_caused, CausedFrom, Caused, AreWithin, AreWithin-wider, AreWithin-append, is_fault, ArmedFrom, map, Printed, FileThere, PageStored, UnitLocked, text_printed, Act, Does, Refused, Tells, Shows, Item, events_of, steps_in, steps_of, told_by, told_in, told_under, after_item, at_event, IsUnder, AreUnder, IsReported, some-memory}
use Rattle.jn_schedule.specs.declared.Event.TheVariants as events
use Rattle.jn_report.specs.declared.line.Text.TheVariants as says
use Rattle.jn_system_reports.specs.Reporting.Reported.{lines_of}
use Rattle.jn_system_reports.proofs.Reporting.Lists.{Each}
use Rattle.jn_system_reports.proofs.Reporting.ArmedRuns.{run-armed, length-more}
use Rattle.jn_system_reports.proofs.Reporting.Following.{IsQuietAct, IsPlain, under-quiet, run-split, texts-within}
use Rattle.jn_system_reports.proofs.Reporting.Prints.{each-print}
use Rattle.jn_system_reports.proofs.Reporting.Hearing.{IsQuiet, step-hears, told-is}
use Rattle.jn_system_reports.proofs.Reporting.Past.{EntryFact}
use Rattle.jn_system_reports.proofs.Reporting.Talk.{opening-talk}
use Rattle.jn_system_reports.proofs.Causing.Evidence.{Stands, stands-more, stands-last, stood-causes, stood-more}
use Rattle.jn_system_reports.proofs.Causing.WorkerKeeps.{WorkTold}
use Rattle.jn_system_reports.proofs.Causing.Facts.{HasCause}
use Rattle.jn_system_reports.proofs.Causing.ServerSteps.{IsServers, servers-mute}
use Rattle.jn_system_reports.proofs.Causing.Steps.{AbortStands, IsTold}
use Rattle.jn_system_reports.proofs.Causing.Runs.{Stays, StepStays, next-stays, still-stays}

-- ---- aborts among lines

abbrev AbortCaused : List Event → List Line → When → Text → Type 0
AbortCaused es lines w (says.Aborted c j T cause) = is_caused_by es lines w c T cause ≡ true
AbortCaused es lines w text = Unit {0}

-- each abort has its cause
abbrev AbortsFrom : List Event → List Line → List Line → Type 0
AbortsFrom es before [] = Unit {0}
AbortsFrom es before (l ∷ ls) = AbortCaused es (before ++ l ∷ []) l.when l.text × AbortsFrom es (before ++ l ∷ []) ls

aborts-append : (es : List Event) (before xs ys : List Line) → AbortsFrom es before xs → AbortsFrom es (before ++ xs) ys → AbortsFrom es before (xs ++ ys)
aborts-append es before [] ys h k = subst (λ l. AbortsFrom es l ys) (append-nil before) k
aborts-append es before (l ∷ xs) ys h k = (h.0, aborts-append es (before ++ l ∷ []) xs ys h.1 (subst (λ z. AbortsFrom es z ys) (sym (append_assoc before (l ∷ []) xs)) k))

-- and each stop and each refused fault its event
with-arms : (es : List Event) (before ls : List Line) → ArmedFrom es before ls → AbortsFrom es before ls → CausedFrom es before ls
with-arms es before [] h k = tt
with-arms es before (l ∷ ls) h k = (one (before ++ l ∷ []) l.when l.text h.0 k.0, with-arms es (before ++ l ∷ []) ls h.1 k.1)
  where
    one : (lines : List Line) (w : When) (text : Text) → (is_fault text ≡ true → is_caused es lines w text ≡ true) → AbortCaused es lines w text → is_caused es lines w text ≡ true
    one lines w (says.Aborted c j T cause) a b = b
    one lines w (says.Stopped s) a b = a refl
    one lines w (says.Outside s fault) a b = a refl
    one lines w _ a b = refl

self : (n : ℕ) → n ≤ n
self n = omega arith

-- the lines of a step, some of whose event stand before
step-aborts : (es fs : List Event) (ls more : List Line) → AreWithin (1 + length es) (1 + length es + 1) more → (new : List Text) → Each (AbortStands es ls) new → AbortsFrom (es ++ fs) (ls ++ more) (at_event (1 + length es) new)
step-aborts es fs ls more within [] h = tt
step-aborts es fs ls more within (x ∷ new) h = (
  subst (λ l. AbortCaused (es ++ fs) l (AtEvent (1 + length es)) x) (sym (append_assoc ls more (line ∷ []))) (one x h.0),
  subst (λ l. AbortsFrom (es ++ fs) l (at_event (1 + length es) new)) (sym (append_assoc ls more (line ∷ []))) (step-aborts es fs ls (more ++ line ∷ []) wider new h.1),
)
  where
    line : Line
    line = record { when = AtEvent (1 + length es); text = x }

    wider : AreWithin (1 + length es) (1 + length es + 1) (more ++ line ∷ [])
    wider = AreWithin-append (1 + length es) (1 + length es + 1) more (line ∷ []) within (texts-within (1 + length es) (x ∷ []))

    one : (text : Text) → AbortStands es ls text → AbortCaused (es ++ fs) (ls ++ (more ++ line ∷ [])) (AtEvent (1 + length es)) text
    one (says.Aborted c j T cause) k = stood-causes es fs (ls ++ (more ++ line ∷ [])) c T cause (stood-more es es (λ i e s. s) ls (more ++ line ∷ []) (1 + length es + 1) wider c T cause k)
    one _ k = tt

at-more : (n : ℕ) (a b : List Text) → at_event n (a ++ b) ≡ at_event n a ++ at_event n b
at-more n [] b = refl
at-more n (x ∷ a) b = ap (λ (l : List Line). (record { when = AtEvent n; text = x }) ∷ l) (at-more n a b)

-- a print reports nothing of a client
print-servers : (s : ServerNo) (x : Printed) → IsServers (text_printed s x)
print-servers s (FileThere f) = tt
print-servers s (PageStored f p bytes) = tt
print-servers s (UnitLocked u T) = tt

print-stands : (es : List Event) (ls : List Line) (s : ServerNo) (x : Printed) → AbortStands es ls (text_printed s x)
print-stands es ls s (FileThere f) = tt
print-stands es ls s (PageStored f p bytes) = tt
print-stands es ls s (UnitLocked u T) = tt

module _ (files : AllFiles) (epochs : ServerNo → ℕ) where
  -- ---- the acts of an event

  pub record ActsStay (es : List Event) (ls : List Line) (acts : List Act) (r : World) : Type 0 where
    pub stays : Stays files epochs es (ls ++ at_event (1 + length es) (told_in acts r)) (run (steps_in acts) r)
    pub aborts : (fs : List Event) → AbortsFrom (es ++ fs) ls (at_event (1 + length es) (told_in acts r))
    pub same_event : (run (steps_in acts) r).event ≡ r.event

  -- some lines, and then those of the other acts
  then-acts : (es : List Event) (ls : List Line) (new : List Text) (acts : List Act) (q : World) → Each (AbortStands es ls) new → ActsStay es (ls ++ at_event (1 + length es) new) acts q
      → Stays files epochs es (ls ++ at_event (1 + length es) (new ++ told_in acts q)) (run (steps_in acts) q) × ((fs : List Event) → AbortsFrom (es ++ fs) ls (at_event (1 + length es) (new ++ told_in acts q)))
  then-acts es ls new acts q h rest = (
    subst (λ l. Stays files epochs es l (run (steps_in acts) q)) (append_assoc ls (at_event (1 + length es) new) _ ∙ ap (λ l. ls ++ l) (sym (at-more (1 + length es) new (told_in acts q)))) rest.stays,
    λ fs. subst (λ l. AbortsFrom (es ++ fs) ls l) (sym (at-more (1 + length es) new (told_in acts q))) (aborts-append (es ++ fs) ls (at_event (1 + length es) new) _
        (subst (λ l. AbortsFrom (es ++ fs) l (at_event (1 + length es) new)) (append-nil ls) (step-aborts es fs ls [] tt new h)) (rest.aborts fs)),
  )

  acts-stay : (acts : List Act) (es : List Event) (ls : List Line) (r : World) → Stays files epochs es ls r → IsRun (steps_in acts) r → Each IsQuietAct acts → ActsStay es ls acts r
  acts-stay [] es ls r h i quiet = record { stays = subst (λ l. Stays files epochs es l r) (sym (append-nil ls)) h; aborts = λ fs. tt; same_event = refl }
  acts-stay (Does step ∷ acts) es ls r h i quiet = let s = next-stays files epochs es es (λ j e k. k) ls r step i.0 (λ c command e. absurd (subst (λ (z : Step). IsQuiet z) e quiet.0)) h in
      let rest = acts-stay acts es (ls ++ at_event (1 + length es) (told_by (Does step) r)) (after step r) s.stays i.1 quiet.1 in
      let both = then-acts es ls (told_by (Does step) r) acts (after step r) s.aborts rest in
      record { stays = both.0; aborts = both.1; same_event = rest.same_event ∙ (step-hears r _ h.facts h.talk step quiet.0).same_event }
  acts-stay (Refused refusal ∷ acts) es ls r h i quiet = let rest = acts-stay acts es (ls ++ at_event (1 + length es) (says.RefusedEvent refusal ∷ [])) r (still-stays files epochs es es (λ j e k. k) ls (says.RefusedEvent refusal ∷ []) (λ c n now. refl) r h) i quiet.1 in
      let both = then-acts es ls (says.RefusedEvent refusal ∷ []) acts r (tt, tt) rest in record { stays = both.0; aborts = both.1; same_event = rest.same_event }
  acts-stay (Tells s fault ∷ acts) es ls r h i quiet = let rest = acts-stay acts es (ls ++ at_event (1 + length es) (says.Outside s fault ∷ [])) r (still-stays files epochs es es (λ j e k. k) ls (says.Outside s fault ∷ []) (λ c n now. refl) r h) i quiet.1 in
      let both = then-acts es ls (says.Outside s fault ∷ []) acts r (tt, tt) rest in record { stays = both.0; aborts = both.1; same_event = rest.same_event }
  acts-stay (Shows s prints ∷ acts) es ls r h i quiet = let new = map (text_printed s) prints in
      let rest = acts-stay acts es (ls ++ at_event (1 + length es) new) r (still-stays files epochs es es (λ j e k. k) ls new (servers-mute new (each-print IsServers s (print-servers s) prints)) r h) i quiet.1 in
      let both = then-acts es ls new acts r (each-print (AbortStands es ls) s (print-stands es ls s) prints) rest in record { stays = both.0; aborts = both.1; same_event = rest.same_event }

  -- ---- an event

  pub record EventStays (es : List Event) (ls : List Line) (e : Event) (acts : List Act) (r : World) : Type 0 where
    pub stays : Stays files epochs (es ++ e ∷ []) (ls ++ at_event (1 + length es) (told_in acts r)) (run (steps_in acts) r)
    pub aborts : (fs : List Event) → AbortsFrom (es ++ e ∷ fs) ls (at_event (1 + length es) (told_in acts r))
    pub same_event : (run (steps_in acts) r).event ≡ r.event

  module _ (es : List Event) (ls : List Line) (r : World) (h : Stays files epochs es ls r) where
    plain-stays : (e : Event) (acts : List Act) → IsRun (steps_in acts) r → IsPlain e → IsUnder e acts → EventStays es ls e acts r
    plain-stays e acts i plain under = let a = acts-stay acts es ls r h i (under-quiet e acts plain under) in record {
      stays = subst (λ l. Stays files epochs (es ++ e ∷ []) l (run (steps_in acts) r)) (append-nil (ls ++ at_event (1 + length es) (told_in acts r)))
          (still-stays files epochs es (es ++ e ∷ []) (λ j d k. stands-more 1 es (e ∷ []) j d k) (ls ++ at_event (1 + length es) (told_in acts r)) [] (λ c n now. refl) (run (steps_in acts) r) a.stays);
      aborts = λ fs. a.aborts (e ∷ fs);
      same_event = a.same_event;
    }

    -- a command
    command-stays : (c : ClientNo) (command : Command) → r.event ≡ 1 + length es → AreWithin 0 (1 + length es) ls → IsRun (Tell c command ∷ []) r → EventStays es ls (events.Command c command) (Does (Tell c command) ∷ []) r
    command-stays c command now within i = record {
      stays = subst (λ l. Stays files epochs (es ++ e ∷ []) (ls ++ at_event (1 + length es) l) (after (Tell c command) r)) (sym (append-nil (told_by (Does (Tell c command)) r))) s.stays;
      aborts = λ fs. subst (λ l. AbortsFrom (es ++ e ∷ fs) ls (at_event (1 + length es) l)) (sym (append-nil (told_by (Does (Tell c command)) r)))
          (subst (λ l. AbortsFrom (es ++ e ∷ fs) l (at_event (1 + length es) (told_by (Does (Tell c command)) r))) (append-nil ls) (step-aborts es (e ∷ fs) ls [] tt (told_by (Does (Tell c command)) r) s.aborts));
      same_event = by (command_row (r.clients c) r.event command);
    }
      where
        e : Event
        e = events.Command c command

        same : (d : ClientNo) (k : Command) → Tell c command ≡ Tell d k → events.Command c command ≡ events.Command d k
        same d k q = cc

        told : (d : ClientNo) (k : Command) → Tell c command ≡ Tell d k → IsTold es (es ++ events.Command c command ∷ []) ls r d k
        told d k q = record {
          stands = subst (λ (z : Event). Stands 1 (es ++ events.Command c command ∷ []) r.event z) (same d k q) (subst (λ n. Stands 1 (es ++ events.Command c command ∷ []) n (events.Command c command)) (sym now) (stands-last 1 es (events.Command c command)));
          within = subst (λ n. AreWithin 0 n ls) (sym now) within;
          now = now;
        }

        s : StepStays files epochs es (es ++ events.Command c command ∷ []) ls r (Tell c command)
        s = next-stays files epochs es (es ++ events.Command c command ∷ []) (λ j d k. stands-more 1 es (events.Command c command ∷ []) j d k) ls r (Tell c command) i.0 told h

        by : (row : Commanded) → (commanded c row r).event ≡ r.event
        by (Refuses refusal) = refl
        by (Sends u to message) = refl

    pub event-stays : (e : Event) (acts : List Act) → r.event ≡ 1 + length es → AreWithin 0 (1 + length es) ls → IsRun (steps_in acts) r → IsUnder e acts → EventStays es ls e acts r
    event-stays (events.Command c command) acts now within i under = subst (λ (l : List Act). IsRun (steps_in l) r → EventStays es ls (events.Command c command) l r) (sym under) (λ k. command-stays c command now within k) i
    event-stays (events.Again c) acts now within i under = plain-stays (events.Again c) acts i tt under
    event-stays (events.Call c s call) acts now within i under = absurd under
    event-stays (events.Deliver k) acts now within i under = plain-stays (events.Deliver k) acts i tt under
    event-stays events.Settle acts now within i under = plain-stays events.Settle acts i tt under
    event-stays (events.Step s) acts now within i under = plain-stays (events.Step s) acts i tt under
    event-stays (events.Nudge s) acts now within i under = plain-stays (events.Nudge s) acts i tt under
    event-stays (events.Timeout s T) acts now within i under = plain-stays (events.Timeout s T) acts i tt under
    event-stays (events.Scrub s) acts now within i under = plain-stays (events.Scrub s) acts i tt under
    event-stays (events.Decay s g) acts now within i under = plain-stays (events.Decay s g) acts i tt under
    event-stays (events.Revive s g) acts now within i under = plain-stays (events.Revive s g) acts i tt under
    event-stays (events.Arm s n kind) acts now within i under = plain-stays (events.Arm s n kind) acts i tt under
    event-stays (events.Crash s) acts now within i under = plain-stays (events.Crash s) acts i tt under
    event-stays (events.Restart s) acts now within i under = plain-stays (events.Restart s) acts i tt under
    event-stays (events.Show s) acts now within i under = plain-stays (events.Show s) acts i tt under

  -- ---- all events

  next-event : (es : List Event) (ls : List Line) (r : World) → Stays files epochs es ls r → Stays files epochs es ls (after NextEvent r)
  next-event es ls r h = let s = next-stays files epochs es es (λ j e k. k) ls r NextEvent tt (λ c command e. absurd (no c command e)) h in
      subst (λ l. Stays files epochs es l (after NextEvent r)) (ap (λ l. ls ++ at_event (1 + length es) l) nothing ∙ append-nil ls) s.stays
    where
      no : (c : ClientNo) (command : Command) → NextEvent ≡ Tell c command → ⊥
      no c command e = cc

      nothing : told_by (Does NextEvent) r ≡ []
      nothing = told-is r NextEvent [] (sym (append-nil r.lines))

  items-aborts : (items : List Item) (es : List Event) (ls : List Line) (r : World) → Stays files epochs es ls r → IsRun (steps_of items) r → AreUnder items → r.event ≡ length es → AreWithin 0 (1 + length es) ls → AbortsFrom (es ++ events_of items) ls (lines_of items r)
  items-aborts [] es ls r h i under now within = tt
  items-aborts (item ∷ items) es ls r h i under now within = let split = run-split (steps_in item.acts) (steps_of items) (after NextEvent r) i.1 in
      let e = event-stays es ls (after NextEvent r) (next-event es ls r h) item.event item.acts (one r.event (length es) now) within split.0 under.0 in
      aborts-append (es ++ events_of (item ∷ items)) ls (at_event (r.event + 1) (told_under item r)) (lines_of items (after_item item r))
      (subst (λ n. AbortsFrom (es ++ events_of (item ∷ items)) ls (at_event n (told_under item r))) (sym (one r.event (length es) now)) (e.aborts (events_of items)))
      (subst (λ n. AbortsFrom (es ++ events_of (item ∷ items)) (ls ++ at_event n (told_under item r)) (lines_of items (after_item item r))) (sym (one r.event (length es) now))
      (subst (λ l. AbortsFrom l (ls ++ at_event (1 + length es) (told_under item r)) (lines_of items (after_item item r))) (append_assoc es (item.event ∷ []) (events_of items))
      (items-aborts items (es ++ item.event ∷ []) (ls ++ at_event (1 + length es) (told_under item r)) (after_item item r) e.stays split.1 under.1 (e.same_event ∙ step r.event (length es) (length (es ++ item.event ∷ [])) now (length-more es item.event))
      (AreWithin-append 0 (1 + length (es ++ item.event ∷ [])) ls (at_event (1 + length es) (told_under item r))
      (AreWithin-wider 0 (1 + length es) 0 (1 + length (es ++ item.event ∷ [])) ls (self 0) (high (length es) (length (es ++ item.event ∷ [])) (length-more es item.event)) within)
      (AreWithin-wider (1 + length es) (1 + length es + 1) 0 (1 + length (es ++ item.event ∷ [])) (at_event (1 + length es) (told_under item r)) (zero (1 + length es)) (top (length es) (length (es ++ item.event ∷ [])) (length-more es item.event)) (texts-within (1 + length es) (told_under item r)))))))
    where
      one : (a b : ℕ) → a ≡ b → a + 1 ≡ 1 + b
      one a b e = omega (arith, e)

      step : (a b c : ℕ) → a ≡ b → c ≡ b + 1 → a + 1 ≡ c
      step a b c e f = omega (arith, e, f)

      high : (a b : ℕ) → b ≡ a + 1 → 1 + a ≤ 1 + b
      high a b e = omega (arith, e)

      top : (a b : ℕ) → b ≡ a + 1 → 1 + a + 1 ≤ 1 + b
      top a b e = omega (arith, e)

      zero : (n : ℕ) → 0 ≤ n
      zero n = omega arith

  opening-stays : (servers : ℕ) → Stays files epochs [] [] (opening servers files epochs)
  opening-stays servers = record {
    atoms = [];
    may = tt;
    locks = opening-keeps servers files epochs;
    mirrors = opening-mirrors servers files epochs;
    facts = opening-facts servers files epochs;
    talk = opening-talk servers files epochs (opening_world files epochs);
    past = record {
      last = λ c o e. absurd (none-out o e);
      says = tt;
      entries = λ s m e. subst (λ (x : Memory). Each (EntryFact [] (opening servers files epochs).clients (opening_world files epochs) (HasCause [] [] []) x.coordinator.seen) x.coordinator.transactions) (some-memory (new_memory s (epochs s)) m e) tt;
      flags = λ s c T. tt;
      held = λ s m e T f. absurd (no f);
      named = λ T c e. absurd (no e);
    };
    causes = record {
      messages = tt;
      each = λ c. record { asked = λ o e. absurd (none-out o e); to = λ o s e. absurd (none-out o e); current = λ T e. absurd (none-tid T e); works = λ T e. absurd (none-tid T e); begun = λ T e. absurd (none-tid T e) };
      broken = λ s m e. subst (λ (x : Memory). Each (WorkTold s []) x.worker) (some-memory (new_memory s (epochs s)) m e) tt;
      told = λ test e. absurd (no e);
    };
    parts = λ T W e. absurd (no e);
  }
    where
      none-out : (o : Outstanding) → None ≡ Some o → ⊥
      none-out o e = cc

      none-tid : (T : Tid) → None ≡ Some T → ⊥
      none-tid T e = cc

      no : false ≡ true → ⊥
      no q = grind arith

  pub run-causes : (servers : ℕ) (items : List Item) → IsReported items (opening servers files epochs) → Caused (events_of items) (lines_of items (opening servers files epochs))
  run-causes servers items h = with-arms (events_of items) [] (lines_of items (opening servers files epochs)) (run-armed files epochs items servers h)
      (items-aborts items [] [] (opening servers files epochs) (opening-stays servers) h.steps h.under refl tt)
