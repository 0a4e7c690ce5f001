-- What holds after any steps, with the events that they stand under.
use Rattle.jn_system_reports.proofs.Common.{◌≡◌, inr, ℕ, ◌+◌, true, List, [], ◌++◌, append-nil, length, Some, is_some, sym, ◌∙◌, ap, subst, list_any, ServerNo, ClientNo, Tid, WorkId, Command, tid_eq, AllFiles, Event, Text, Line, Pick, Sent, Machine, Invariant, Atom, run_atoms, opening_world, MayRun, run_told, opening_told, Grows, run_grows, run_kept, opening_kept, some_of, World, has_line, Step, Tell, IsStep, after, LockFacts, locks-keep, Mirrors, IsTrue, still-says, run-append, may-append, committed-any, openings, Facts, Next, step-next, Does, told_by, at_event}
use Rattle.jn_msgs.specs.declared.message.Message.TheVariants as messages
use Rattle.jn_system_reports.proofs.Reporting.Lists.{Each}
use Rattle.jn_system_reports.proofs.Reporting.Hearing.{told-is}
use Rattle.jn_system_reports.proofs.Reporting.PastSteps.{PastFacts}
use Rattle.jn_system_reports.proofs.Reporting.PastWorld.{Later, same-past}
use Rattle.jn_system_reports.proofs.Reporting.Reached.{in-all}
use Rattle.jn_system_reports.proofs.Reporting.StepLines.{AddsLines}
use Rattle.jn_system_reports.proofs.Reporting.Talk.{Talk, step-talk}
use Rattle.jn_system_reports.proofs.Causing.Evidence.{Stands, any-more}
use Rattle.jn_system_reports.proofs.Causing.Facts.{WasOpened, HasCause, MessageFact, ClientFact, CauseFacts, IsMute, cause-more}
use Rattle.jn_system_reports.proofs.Causing.ClientSteps.{again-facts}
use Rattle.jn_system_reports.proofs.Causing.Steps.{AbortStands, IsTold, NextCauses, step-causes, past-next, parts-next, lines-stand, votes-say, lost-there}

-- ---- what holds after any steps

pub record Stays (files : AllFiles) (epochs : ServerNo → ℕ) (es : List Event) (ls : List Line) (r : World) : Type 0 where
  pub atoms : List Atom
  pub may : MayRun atoms (opening_world files epochs)
  pub locks : LockFacts r
  pub mirrors : Mirrors r (run_atoms atoms (opening_world files epochs))
  pub facts : Facts r (run_atoms atoms (opening_world files epochs))
  pub talk : Talk r (run_atoms atoms (opening_world files epochs))
  pub past : PastFacts r.sent r.clients r.memory r.found (run_atoms atoms (opening_world files epochs)) (HasCause (openings r.sent) es ls)
  pub causes : CauseFacts es ls r.sent r.clients r.memory r.lines (run_atoms atoms (opening_world files epochs))
  pub parts : (T : Tid) (W : WorkId) → (run_atoms atoms (opening_world files epochs)).ended T ≡ true → (run_atoms atoms (opening_world files epochs)).part T W.server ≡ Some W → WasOpened r.sent T W

module _ (files : AllFiles) (epochs : ServerNo → ℕ) where
  named-is : (es : List Event) (ls : List Line) (r : World) (h : Stays files epochs es ls r) (T : Tid) → (run_atoms h.atoms (opening_world files epochs)).named T ≡ has_line T r.lines
  named-is es ls r h T = (run_told files h.atoms (opening_world files epochs) h.may (opening_kept files epochs) (opening_told files epochs)).1.named T ∙ committed-any T (run_atoms h.atoms (opening_world files epochs)).history
      ∙ ap (λ l. list_any (λ (V : Tid). tid_eq V T) l) h.mirrors.commits

  -- ---- a step

  pub record StepStays (es es' : List Event) (ls : List Line) (r : World) (step : Step) : Type 0 where
    pub stays : Stays files epochs es' (ls ++ at_event (1 + length es) (told_by (Does step) r)) (after step r)
    pub aborts : Each (AbortStands es ls) (told_by (Does step) r)

  module _ (es es' : List Event) (on : (j : ℕ) (e : Event) → Stands 1 es j e → Stands 1 es' j e) (ls : List Line) (r : World) (step : Step) (i : IsStep step r) (told : (c : ClientNo) (command : Command) → step ≡ Tell c command → IsTold es es' ls r c command) (h : Stays files epochs es ls r) where
    abbrev w : Machine
    w = run_atoms h.atoms (opening_world files epochs)

    inv : Invariant (run_atoms h.atoms (opening_world files epochs))
    inv = run_kept h.atoms (opening_world files epochs) h.may (opening_kept files epochs)

    next : Next (after step r) (run_atoms h.atoms (opening_world files epochs))
    next = step-next files epochs h.atoms h.may r h.mirrors h.facts h.locks step i

    same : run_atoms (h.atoms ++ next.atoms) (opening_world files epochs) ≡ run_atoms next.atoms (run_atoms h.atoms (opening_world files epochs))
    same = run-append h.atoms next.atoms (opening_world files epochs)

    grown : Grows (run_atoms h.atoms (opening_world files epochs)) (run_atoms next.atoms (run_atoms h.atoms (opening_world files epochs)))
    grown = run_grows next.atoms (run_atoms h.atoms (opening_world files epochs)) next.may inv

    inv' : Invariant (run_atoms next.atoms (run_atoms h.atoms (opening_world files epochs)))
    inv' = run_kept next.atoms (run_atoms h.atoms (opening_world files epochs)) next.may inv

    named' : (T : Tid) → (run_atoms next.atoms (run_atoms h.atoms (opening_world files epochs))).named T ≡ has_line T (after step r).lines
    named' T = (run_told files next.atoms (run_atoms h.atoms (opening_world files epochs)) next.may inv (run_told files h.atoms (opening_world files epochs) h.may (opening_kept files epochs) (opening_told files epochs)).1).1.named T
        ∙ committed-any T (run_atoms next.atoms (run_atoms h.atoms (opening_world files epochs))).history ∙ ap (λ l. list_any (λ (V : Tid). tid_eq V T) l) next.mirrors.commits

    later : Later (after step r) (run_atoms next.atoms (run_atoms h.atoms (opening_world files epochs)))
    later = record { named = named'; placed = placed; unique = next.facts.unique }
      where
        placed : (s : ServerNo) (c : Pick) (T : Tid) → is_some (((after step r).found s c).flags T) ≡ true → T.server ≡ s
        placed s c T e = let f = some_of (((after step r).found s c).flags T) e in ((inv'.core.states s c).flag T f.0 (ap (λ x. x.flags T) (next.mirrors.found s c) ∙ f.1)).place

    causes : NextCauses es es' on ls r w (run_atoms next.atoms (run_atoms h.atoms (opening_world files epochs))) h.past h.causes h.parts h.mirrors inv h.locks h.facts h.talk (named-is es ls r h) grown (after step r)
    causes = step-causes es es' on ls r w (run_atoms next.atoms w) h.past h.causes h.parts h.mirrors inv h.locks h.facts h.talk (named-is es ls r h) grown step i told
        (λ x k. in-all (IsTrue (run_atoms next.atoms (run_atoms h.atoms (opening_world files epochs)))) (after step r).sent x next.mirrors.says k)

    lines : AddsLines (AbortStands es ls) r (after step r)
    lines = lines-stand es es' on ls r w (run_atoms next.atoms w) h.past h.causes h.parts h.mirrors inv h.locks h.facts h.talk (named-is es ls r h) grown step

    now-stays : Stays files epochs es' (ls ++ at_event (1 + length es) causes.new) (after step r)
    now-stays = record {
      atoms = h.atoms ++ next.atoms;
      may = may-append h.atoms next.atoms (opening_world files epochs) h.may next.may;
      locks = locks-keep step r i h.locks;
      mirrors = subst (λ (z : Machine). Mirrors (after step r) z) (sym same) next.mirrors;
      facts = subst (λ (z : Machine). Facts (after step r) z) (sym same) next.facts;
      talk = subst (λ (z : Machine). Talk (after step r) z) (sym same) (step-talk r w (run_atoms next.atoms w) h.mirrors h.facts h.talk (λ T W of. still-says next.atoms w next.may inv (messages.Inquire T W) of) step);
      past = subst (λ (z : Machine). PastFacts (after step r).sent (after step r).clients (after step r).memory (after step r).found z (HasCause (openings (after step r).sent) es' (ls ++ at_event (1 + length es) causes.new))) (sym same)
          (past-next es es' on ls r w (run_atoms next.atoms w) h.past h.causes h.parts h.mirrors inv h.locks h.facts h.talk (named-is es ls r h) grown step i told causes later);
      causes = subst (λ (z : Machine). CauseFacts es' (ls ++ at_event (1 + length es) causes.new) (after step r).sent (after step r).clients (after step r).memory (after step r).lines z) (sym same) causes.causes;
      parts = subst (λ (z : Machine). (T : Tid) (W : WorkId) → z.ended T ≡ true → z.part T W.server ≡ Some W → WasOpened (after step r).sent T W) (sym same)
          (parts-next es es' on ls r w (run_atoms next.atoms w) h.past h.causes h.parts h.mirrors inv h.locks h.facts h.talk (named-is es ls r h) grown step causes next.ends);
    }

    pub next-stays : StepStays es es' ls r step
    next-stays = record {
      stays = subst (λ l. Stays files epochs es' (ls ++ at_event (1 + length es) l) (after step r)) (sym (told-is r step causes.new causes.adds)) now-stays;
      aborts = subst (λ l. Each (AbortStands es ls) l) (sym (told-is r step lines.texts lines.adds)) lines.each;
    }

  -- ---- an event that does nothing more, and lines of it that report nothing of a client

  pub still-stays : (es es' : List Event) → ((j : ℕ) (e : Event) → Stands 1 es j e → Stands 1 es' j e) → (ls : List Line) (new : List Text) → ((c : ClientNo) → IsMute c new) → (r : World) → Stays files epochs es ls r → Stays files epochs es' (ls ++ at_event (1 + length es) new) r
  still-stays es es' on ls new mute r h = record {
    atoms = h.atoms;
    may = h.may;
    locks = h.locks;
    mirrors = h.mirrors;
    facts = h.facts;
    talk = h.talk;
    past = same-past r w w (HasCause (openings r.sent) es ls) (HasCause (openings r.sent) es' (ls ++ at_event (1 + length es) new)) h.past (cause-more es es' on ls new (openings r.sent) (openings r.sent) (λ a k. k)) (λ T k. k) (λ T k. k)
        (λ c T e. (h.facts.clients c).current T e) (named-is es ls r h) h.facts.unique (λ c T s n free need k. inr k) h.mirrors inv h.locks
        (votes-say es es' on ls r w w h.past h.causes h.parts h.mirrors inv h.locks h.facts h.talk (named-is es ls r h) same-grown) (lost-there es es' on ls r w w h.past h.causes h.parts h.mirrors inv h.locks h.facts h.talk (named-is es ls r h) same-grown) (named-is es ls r h);
    causes = let k = again-facts es es' on ls r w w h.causes h.mirrors h.facts (λ T e. e) new [] mute (λ x i. absurd i) in record {
      messages = subst (λ l. CauseMessages l) (append-nil r.sent) k.messages;
      each = λ c. subst (λ l. ClientCauses l c) (append-nil r.sent) (k.each c);
      broken = h.causes.broken;
      told = λ test e. any-more (λ (l : Line). test l.text) ls (at_event (1 + length es) new) (h.causes.told test e);
    };
    parts = h.parts;
  }
    where
      w : Machine
      w = run_atoms h.atoms (opening_world files epochs)

      inv : Invariant (run_atoms h.atoms (opening_world files epochs))
      inv = run_kept h.atoms (opening_world files epochs) h.may (opening_kept files epochs)

      same-grown : Grows (run_atoms h.atoms (opening_world files epochs)) (run_atoms h.atoms (opening_world files epochs))
      same-grown = run_grows [] (run_atoms h.atoms (opening_world files epochs)) tt inv

      CauseMessages : List Sent → Type 0
      CauseMessages l = Each (MessageFact es' (ls ++ at_event (1 + length es) new) (openings l) r.clients r.memory (run_atoms h.atoms (opening_world files epochs))) l

      ClientCauses : List Sent → ClientNo → Type 0
      ClientCauses l c = ClientFact es' (ls ++ at_event (1 + length es) new) l r.memory c (r.clients c)
