-- Whatever files give a work's operations the answers that it gave give those that the lines report of them.
use Rattle.jn_system_reports.proofs.Common.{◌≡◌, ◌⊎◌, inl, inr, ℕ, suc, ◌+◌, true, false, List, [], ◌∷◌, ◌++◌, append_assoc, length, Option, Some, None, refl, sym, ◌∙◌, ap, subst, arith, ServerNo, Tid, WorkId, Op, Files, AllFiles, Event, event_at, event_at-next, ActiveWork, OpenWork, Commanded, Refuses, Sends, command_row, open_at, Machine, Answered, FilesAnswer, Invariant, Atom, run_atoms, opening_world, MayRun, run_grows, run_kept, opening_kept, clash, World, opening, Step, NextEvent, Tell, IsStep, IsRun, after, run, commanded, LockFacts, locks-keep, opening-keeps, Mirrors, run-append, may-append, opening-mirrors, Facts, opening-facts, Act, Does, Refused, Faults, Shows, Item, events_of, steps_in, steps_of, after_item, IsUnder, AreUnder, at_place, answers-front}
use Rattle.jn_system_reports.proofs.Telling.TransactionLines.{ops_in}
use Rattle.jn_schedule.specs.declared.Event.TheVariants as kinds
use Rattle.jn_system_reports.proofs.Reporting.Lists.{Each}
use Rattle.jn_system_reports.proofs.Reporting.Following.{IsQuietAct, under-quiet, run-split}
use Rattle.jn_system_reports.proofs.Reporting.Hearing.{IsQuiet, step-hears}
use Rattle.jn_system_reports.proofs.Reporting.Reached.{Reached, next-reached}
use Rattle.jn_system_reports.proofs.Telling.Acting.{acting, acting-of-active}
use Rattle.jn_system_reports.proofs.Telling.Agreeing.{opening-talk}
use Rattle.jn_system_reports.proofs.Telling.Atoms.{IsPresent, extends, present-back}
use Rattle.jn_system_reports.proofs.Telling.Facts.{said, counts, op_asked, op_sent, IsOpenAt, Hears, IsRunningAt, Talk}
use Rattle.jn_system_reports.proofs.Telling.Runs.{TellsAs, goes-on}
use Rattle.jn_system_reports.proofs.BetweenSteps.Telling.{GoesOn, Tells, step-tells}

-- of each work that is somewhere, and for which an operation was sent
abbrev pub HeardFact : List Event → World → Machine → Type 0
HeardFact events r w = (W : WorkId) → op_sent W r.sent ≡ true → IsPresent w W → (files : Files) → FilesAnswer files (w.trace W) → FilesAnswer files (said events (w.owner W) W.server r.lines)

module _ (events : List Event) (q : World) (v : Machine) (mirrors : Mirrors q v) (facts : Facts q v) (inv : Invariant v) (talk : Talk events q v) (W : WorkId) (sent : op_sent W q.sent ≡ true) (present : IsPresent v W) (files : Files) (agrees : FilesAnswer files (v.trace W)) (goes : GoesOn q (v.owner W)) where
  not-part : v.part (v.owner W) W.server ≡ Some W → ⊥
  not-part e = clash (v.part (v.owner W) W.server) W e (inv.core.rest.no_end (v.owner W) ((facts.clients goes.0).fresh (v.owner W) goes.1 goes.2) W.server)

  its-acting : (a : ActiveWork) × (acting q W ≡ Some a)
  its-acting = by present
    where
      by : IsPresent v W → (a : ActiveWork) × (acting q W ≡ Some a)
      by (inl k) = let a = acting-of-active (q.memory W.server) W k.0 (sym (mirrors.active W) ∙ k.1) in (a.0, a.1.0)
      by (inr (inl k)) = absurd (not-part (((inv.core.states W.server k.pick).prepared W k.work k.is).part))
      by (inr (inr k)) = absurd (not-part (inv.core.rest.part_of W k))

  hears : (told : List Answered) (op : Option Op) (x : OpenWork) (a : ActiveWork) → Hears op x a told (v.trace W) → FilesAnswer files told
  hears told None x a h = h.1.agrees files agrees
  hears told (Some op) x a (inl h) = h.1.agrees files agrees
  hears told (Some op) x a (inr h) = answers-front told (counts op h.1.0) files (h.1.1.1.agrees files agrees)

  -- its client goes on, and has the work
  going-heard : FilesAnswer files (said events (v.owner W) W.server q.lines)
  going-heard = by (open_at W.server (q.clients goes.0).works) ((talk.known W sent).its goes.0 goes.1) ((talk.clients goes.0).running (v.owner W) goes.1 goes.2 W.server)
    where
      by : (o : Option OpenWork) → IsOpenAt W o → IsRunningAt events q v (v.owner W) (q.clients goes.0).outstanding W.server o → FilesAnswer files (said events (v.owner W) W.server q.lines)
      by None is k = absurd is
      by (Some x) is k = hears (said events (v.owner W) W.server q.lines) (op_asked (q.clients goes.0).outstanding x.work) x its-acting.0
          (subst (λ (U : WorkId). Hears (op_asked (q.clients goes.0).outstanding x.work) x its-acting.0 (said events (v.owner W) W.server q.lines) (v.trace U)) is (k.1 its-acting.0 (subst (λ (U : WorkId). acting q U ≡ Some its-acting.0) (sym is) its-acting.1)))

module _ (events : List Event) (r q : World) (w : Machine) (atoms : List Atom) (may : MayRun atoms w) (inv : Invariant w) (talk : Talk events r w) (heard : HeardFact events r w) (tells : Tells events (run_atoms atoms w).owner r q)
    (mirrors' : Mirrors q (run_atoms atoms w)) (facts' : Facts q (run_atoms atoms w)) (talk' : Talk events q (run_atoms atoms w)) where
  abbrev v : Machine
  v = run_atoms atoms w

  heard-on : HeardFact events q (run_atoms atoms w)
  heard-on W sent present files agrees = by (tells.asked W sent)
    where
      going : GoesOn q (v.owner W) → FilesAnswer files (said events (v.owner W) W.server q.lines)
      going goes = going-heard events q v mirrors' facts' (run_kept atoms w may inv) talk' W sent present files agrees goes

      was : op_sent W r.sent ≡ true → FilesAnswer files (said events (v.owner W) W.server r.lines)
      was e = let opened = (talk.known W e).opened in let x = extends atoms w W in subst (λ (T : Tid). FilesAnswer files (said events T W.server r.lines)) (sym ((run_grows atoms w may inv).owner W opened))
          (heard W e (present-back atoms w W may inv opened present) files (answers-front (w.trace W) x.more files (subst (λ z. FilesAnswer files z) x.is agrees)))

      by : (op_sent W r.sent ≡ true) ⊎ GoesOn q (v.owner W) → FilesAnswer files (said events (v.owner W) W.server q.lines)
      by (inr goes) = going goes
      by (inl e) = at (tells.ops (v.owner W))
        where
          at : (ops_in events (v.owner W) None q.lines ≡ ops_in events (v.owner W) None r.lines) ⊎ GoesOn q (v.owner W) → FilesAnswer files (said events (v.owner W) W.server q.lines)
          at (inl same) = subst (λ l. FilesAnswer files (at_place W.server l)) (sym same) (was e)
          at (inr goes) = going goes

-- ---- runs

-- each client is told in the event of its command
abbrev pub AreTold : List Event → List Step → World → Type 0
AreTold events [] r = Unit {0}
AreTold events (step ∷ steps) r = TellsAs events step r × AreTold events steps (after step r)

pub record HearsAll (events : List Event) (files : AllFiles) (epochs : ServerNo → ℕ) (r : World) : Type 0 where
  pub atoms : List Atom
  pub may : MayRun atoms (opening_world files epochs)
  pub mirrors : Mirrors r (run_atoms atoms (opening_world files epochs))
  pub facts : Facts r (run_atoms atoms (opening_world files epochs))
  pub locks : LockFacts r
  pub talk : Talk events r (run_atoms atoms (opening_world files epochs))
  pub heard : HeardFact events r (run_atoms atoms (opening_world files epochs))

module _ (events : List Event) (files : AllFiles) (epochs : ServerNo → ℕ) where
  pub opening-hears : (servers : ℕ) → HearsAll events files epochs (opening servers files epochs)
  opening-hears servers = record {
    atoms = [];
    may = tt;
    mirrors = opening-mirrors servers files epochs;
    facts = opening-facts servers files epochs;
    locks = opening-keeps servers files epochs;
    talk = opening-talk events servers files epochs;
    heard = λ W e. absurd (no e);
  }
    where
      no : false ≡ true → ⊥
      no e = grind arith

  step-hears-all : (step : Step) (r : World) → IsStep step r → TellsAs events step r → HearsAll events files epochs r → HearsAll events files epochs (after step r)
  step-hears-all step r i e h =
      let next = goes-on events files epochs h.atoms h.may r h.mirrors h.facts h.locks h.talk step i e in let same = run-append h.atoms next.atoms (opening_world files epochs) in
      let inv = run_kept h.atoms (opening_world files epochs) h.may (opening_kept files epochs) in record {
        atoms = h.atoms ++ next.atoms;
        may = may-append h.atoms next.atoms (opening_world files epochs) h.may next.may;
        mirrors = subst (λ (z : Machine). Mirrors (after step r) z) (sym same) next.mirrors;
        facts = subst (λ (z : Machine). Facts (after step r) z) (sym same) next.facts;
        locks = locks-keep step r i h.locks;
        talk = subst (λ (z : Machine). Talk events (after step r) z) (sym same) next.talk;
        heard = subst (λ (z : Machine). HeardFact events (after step r) z) (sym same) (heard-on events r (after step r) (run_atoms h.atoms (opening_world files epochs)) next.atoms next.may inv h.talk h.heard
            (step-tells events r (run_atoms h.atoms (opening_world files epochs)) h.mirrors h.facts h.locks h.talk (run_atoms next.atoms (run_atoms h.atoms (opening_world files epochs))).owner (run_grows next.atoms (run_atoms h.atoms (opening_world files epochs)) next.may inv).owner step)
            next.mirrors next.facts next.talk);
      }

  pub run-hears : (steps : List Step) (r : World) → IsRun steps r → AreTold events steps r → HearsAll events files epochs r → HearsAll events files epochs (run steps r)
  run-hears [] r i e h = h
  run-hears (step ∷ steps) r i e h = run-hears steps (after step r) i.1 e.1 (step-hears-all step r i.0 e.0 h)

  -- ---- a reported run tells each client so

  told-more : (a b : List Step) (r : World) → AreTold events a r → AreTold events b (run a r) → AreTold events (a ++ b) r
  told-more [] b r h k = k
  told-more (step ∷ a) b r h k = (h.0, told-more a b (after step r) h.1 k)

  quiet-tells : (step : Step) (r : World) → IsQuiet step → TellsAs events step r
  quiet-tells (Tell c command) r h = absurd h
  quiet-tells _ r h = tt

  -- the steps under an event, after which the event is the same
  record Under (steps : List Step) (r : World) : Type 0 where
    told : AreTold events steps r
    event : (run steps r).event ≡ r.event
    reached : Reached files epochs (run steps r)

  quiet-under : (acts : List Act) (r : World) → Reached files epochs r → IsRun (steps_in acts) r → Each IsQuietAct acts → Under (steps_in acts) r
  quiet-under [] r h i q = record { told = tt; event = refl; reached = h }
  quiet-under (Does step ∷ acts) r h i q = let rest = quiet-under acts (after step r) (next-reached files epochs r step i.0 h) i.1 q.1 in
      record { told = (quiet-tells step r q.0, rest.told); event = rest.event ∙ (step-hears r _ h.facts h.talk step q.0).same_event; reached = rest.reached }
  quiet-under (Refused refusal ∷ acts) r h i q = quiet-under acts r h i q.1
  quiet-under (Faults s fault ∷ acts) r h i q = quiet-under acts r h i q.1
  quiet-under (Shows s prints ∷ acts) r h i q = quiet-under acts r h i q.1

  event-under : (event : Event) (acts : List Act) (r : World) → Reached files epochs r → IsRun (steps_in acts) r → IsUnder event acts → event_at events r.event ≡ Some event → Under (steps_in acts) r
  event-under (kinds.Command c command) acts r h i under e = subst (λ l. Under (steps_in l) r) (sym under) record { told = (e, tt); event = same; reached = next-reached files epochs r (Tell c command) tt h }
    where
      same : (after (Tell c command) r).event ≡ r.event
      same = by (command_row (r.clients c) r.event command)
        where
          by : (row : Commanded) → (commanded c row r).event ≡ r.event
          by (Refuses refusal) = refl
          by (Sends t to message) = refl
  event-under (kinds.Call c s call) acts r h i under e = absurd under
  event-under event acts r h i under e = quiet-under acts r h i (under-quiet event acts tt under)

  pub steps-told : (items : List Item) (r : World) (es later : List Event) → events ≡ es ++ (events_of items ++ later) → length es ≡ r.event → Reached files epochs r → IsRun (steps_of items) r → AreUnder items → AreTold events (steps_of items) r
  steps-told [] r es later e n h i under = tt
  steps-told (item ∷ items) r es later e n h i under =
      let split = run-split (steps_in item.acts) (steps_of items) (after NextEvent r) i.1 in
      let first = event-under item.event item.acts (after NextEvent r) (next-reached files epochs r NextEvent tt h) split.0 under.0
      (ap (λ m. event_at events m) (sym (next-number r.event) ∙ ap suc (sym n)) ∙ ap (λ l. event_at l (suc (length es))) e ∙ event_at-next es (events_of items ++ later) item.event) in (
        tt,
        told-more (steps_in item.acts) (steps_of items) (after NextEvent r) first.told
            (steps-told items (after_item item r) (es ++ item.event ∷ []) later (e ∙ sym (append_assoc es (item.event ∷ []) (events_of items ++ later))) (length-more es item.event ∙ ap (λ m. m + 1) n ∙ sym first.event) first.reached split.1 under.1),
      )
    where
      next-number : (n : ℕ) → suc n ≡ n + 1
      next-number n = omega arith

      length-more : (es : List Event) (e : Event) → length (es ++ e ∷ []) ≡ length es + 1
      length-more [] e = refl
      length-more (x ∷ es) e = ap (λ n. suc n) (length-more es e) ∙ move (length es)
        where
          move : (n : ℕ) → suc (n + 1) ≡ suc n + 1
          move n = omega arith
