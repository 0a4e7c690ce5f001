-- A run has a twin in which each command comes in an event of its own: it differs in the numbers of events and in its lines
-- alone, so that what holds of every run with a schedule holds of every run.
use Rattle.jn_system_settling.proofs.Common.{◌≡◌, ℕ, ◌+◌, false, List, [], ◌∷◌, ◌++◌, length, append_assoc, Some, refl, sym, ◌∙◌, ap, subst, arith, ClientNo, ServerNo, Command, AllFiles, Commanded, Refuses, Sends, command_row, World, opening, Step, NextEvent, Tell, Dismiss, IsStep, IsRun, after, run, commanded, Reached, next-reached, opening-reached, plain_world}
use Rattle.jn_schedule.specs.declared.Event.{Event}
use Rattle.jn_schedule.specs.declared.Event.TheVariants.{Command as CommandOf}
use Rattle.jn_serial.specs.Lines.{event_at}
use Rattle.jn_serial.proofs.Growth.{event_at-next}
use Rattle.jn_system_reports.proofs.Reporting.Hearing.{IsQuiet, step-hears}
use Rattle.jn_system_reports.proofs.Telling.Runs.{TellsAs}
use Rattle.jn_system_reports.proofs.Telling.Agreeing.{Stands, step-stands, opening-stands}
use Rattle.jn_system.proofs.WholeSystem.Numbers.{steps-alike, may-alike}

-- ---- the twin of a run

-- the commands of a run as events
abbrev commands_in : List Step → List Event
commands_in [] = []
commands_in (Tell c command ∷ steps) = CommandOf c command ∷ commands_in steps
commands_in (step ∷ steps) = commands_in steps

module _ (files : AllFiles) (epochs : ServerNo → ℕ) (events : List Event) where
  pub record Twin (count : ℕ) (r : World) : Type 0 where
    pub twin : World
    pub alike : plain_world r ≡ plain_world twin
    pub number : twin.event ≡ count
    pub reached : Reached files epochs twin
    pub stands : Stands events files epochs (λ T. false) [] twin

  quiet-as : (step : Step) (r : World) → IsQuiet step → TellsAs events step r
  quiet-as (Tell c command) r h = absurd h
  quiet-as step r h = tt

  quiet-twin : (step : Step) (n : ℕ) (r : World) → IsQuiet step → IsStep step r → Twin n r → Twin n (after step r)
  quiet-twin step n r quiet i h = let j = may-alike step r h.twin h.alike i in record {
    twin = after step h.twin;
    alike = steps-alike step r h.twin h.alike;
    number = (step-hears h.twin _ h.reached.facts h.reached.talk step quiet).same_event ∙ h.number;
    reached = next-reached files epochs h.twin step j h.reached;
    stands = step-stands events files epochs (λ T. false) [] step h.twin j (quiet-as step h.twin quiet) h.stands;
  }

  -- a command comes in the twin's next event
  told-twin : (c : ClientNo) (command : Command) (n : ℕ) (r : World) → event_at events (n + 1) ≡ Some (CommandOf c command) → Twin n r → Twin (n + 1) (after (Tell c command) r)
  told-twin c command n r told h = let next = ap (λ k. k + 1) h.number in record {
    twin = after (Tell c command) (after NextEvent h.twin);
    alike = steps-alike (Tell c command) r (after NextEvent h.twin) h.alike;
    number = by (command_row (h.twin.clients c) (h.twin.event + 1) command) ∙ next;
    reached = next-reached files epochs (after NextEvent h.twin) (Tell c command) tt (next-reached files epochs h.twin NextEvent tt h.reached);
    stands = step-stands events files epochs (λ T. false) [] (Tell c command) (after NextEvent h.twin) tt (ap (λ k. event_at events k) next ∙ told) (step-stands events files epochs (λ T. false) [] NextEvent h.twin tt tt h.stands);
  }
    where
      by : (row : Commanded) → (commanded c row (after NextEvent h.twin)).event ≡ h.twin.event + 1
      by (Refuses refusal) = refl
      by (Sends t to m) = refl

  -- the clients are dismissed there too
  dismissed-twin : (n : ℕ) (r : World) → Twin n r → Twin n (after Dismiss r)
  dismissed-twin n r h = record {
    twin = after Dismiss h.twin;
    alike = steps-alike Dismiss r h.twin h.alike;
    number = h.number;
    reached = next-reached files epochs h.twin Dismiss tt h.reached;
    stands = step-stands events files epochs (λ T. false) [] Dismiss h.twin tt tt h.stands;
  }

  run-twin : (steps : List Step) (r : World) (es : List Event) → events ≡ es ++ commands_in steps → IsRun steps r → Twin (length es) r → (n : ℕ) × Twin n (run steps r)
  run-twin [] r es e i h = (length es, h)
  run-twin (Tell c command ∷ steps) r es e i h = run-twin steps (after (Tell c command) r) (es ++ CommandOf c command ∷ []) (e ∙ sym (append_assoc es (CommandOf c command ∷ []) (commands_in steps))) i.1
      (subst (λ n. Twin n (after (Tell c command) r)) (sym (length-more es (CommandOf c command))) (told-twin c command (length es) r (ap (λ l. event_at l (length es + 1)) e ∙ next-at (length es + 1) refl) h))
    where
      length-more : (xs : List Event) (x : Event) → length (xs ++ x ∷ []) ≡ length xs + 1
      length-more [] x = refl
      length-more (y ∷ xs) x = let again = length-more xs x in omega (arith, again)

      next-at : (n : ℕ) → n ≡ length es + 1 → event_at (es ++ CommandOf c command ∷ commands_in steps) n ≡ Some (CommandOf c command)
      next-at n k = subst (λ m. event_at (es ++ CommandOf c command ∷ commands_in steps) m ≡ Some (CommandOf c command)) (omega (arith, k)) (event_at-next es (commands_in steps) (CommandOf c command))
  run-twin (NextEvent ∷ steps) r es e i h = run-twin steps (after NextEvent r) es e i.1 (record { twin = h.twin; alike = h.alike; number = h.number; reached = h.reached; stands = h.stands })
  run-twin (Dismiss ∷ steps) r es e i h = run-twin steps _ es e i.1 (dismissed-twin (length es) r h)
  run-twin (step ∷ steps) r es e i h = run-twin steps _ es e i.1 (quiet-twin step (length es) r tt i.0 h)

-- after every run
pub record HasTwin (files : AllFiles) (epochs : ServerNo → ℕ) (r : World) : Type 0 where
  pub events : List Event
  pub count : ℕ
  pub is : Twin files epochs events count r

pub run-has-twin : (servers : ℕ) (files : AllFiles) (epochs : ServerNo → ℕ) (steps : List Step) → IsRun steps (opening servers files epochs) → HasTwin files epochs (run steps (opening servers files epochs))
run-has-twin servers files epochs steps i = let last = run-twin files epochs (commands_in steps) steps (opening servers files epochs) [] refl i (record {
  twin = opening servers files epochs;
  alike = refl;
  number = refl;
  reached = opening-reached files epochs servers;
  stands = opening-stands (commands_in steps) files epochs servers;
}) in record { events = commands_in steps; count = last.0; is = last.1 }
