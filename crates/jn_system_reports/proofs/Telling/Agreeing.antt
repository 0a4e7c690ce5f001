-- The commits of the lines are those of the machine, with what its works did.
use Rattle.jn_system_reports.proofs.Common.{◌≡◌, ◌⊎◌, inl, inr, ℕ, Bool, true, false, List, [], ◌∷◌, ◌++◌, Option, Some, None, refl, sym, ◌∙◌, ap, subst, arith, fun_ext, ◌||◌, list_any, All-nil, ServerNo, LockUnit, Tid, WorkId, tid_eq, tid_tells, AllFiles, change, Event, Line, Pick, stable, history_of, Performed, files_then, GivesAnswers, operations_of, replay_operations, OperationsAgreeFrom, Answered, effects, FilesAnswer, Machine, Commit, IsSerial, Atom, trace_of, run_atoms, opening_world, MayRun, Invariant, has_committed, HasTraces, InOrder, not_both, false_unless, run_kept, opening_kept, run_grows, Text, IsTold, run_told, opening_told, in_order, World, commits_in, opening, Step, IsStep, after, LockFacts, ServerFact, locks-keep, opening-keeps, Mirrors, commits_of, run-append, may-append, committed-any, opening-mirrors, IsDone, Facts, opening-facts, at_place, AreAsTold, replay}
use Rattle.jn_system_reports.proofs.Telling.TransactionLines.{ops_in}
use Rattle.jn_system_order.proofs.Ordering.Unlocked.{writes-nothing}
use Rattle.jn_system_reports.proofs.Telling.Tellings.{SaysAs, as-itself, all-answers}
use Rattle.jn_system_reports.proofs.Telling.Facts.{said, IsDrawn, IsEndedAt, Talk}
use Rattle.jn_system_reports.proofs.Telling.Runs.{TellsAs, goes-on}

-- ---- the start

pub opening-talk : (events : List Event) (servers : ℕ) (files : AllFiles) (epochs : ServerNo → ℕ) → Talk events (opening servers files epochs) (opening_world files epochs)
opening-talk events servers files epochs = record {
  clients = λ c. record { asking = λ o e. absurd (none e); owner = λ T e. absurd (none e); running = λ T e. absurd (none e) };
  ended = λ T e. absurd (no e);
  owners = λ T c e. absurd (none e);
  drawn = All-nil (IsDrawn (opening servers files epochs));
  known = λ W e. absurd (no e);
  unasked = λ W e a f. absurd (none f);
  started = λ T e. absurd (no e);
}
  where
    none : {A : Type 0} → {a : A} → None ≡ Some a → ⊥
    none e = cc

    no : false ≡ true → ⊥
    no q = grind arith

-- ---- every run

-- The machine stands where the whole system does, and the talk holds. Of what was ended before nothing is reported but by the
-- lines before.
pub record Stands (events : List Event) (files : AllFiles) (epochs : ServerNo → ℕ) (ended : Tid → Bool) (before : List Text) (r : World) : Type 0 where
  pub atoms : List Atom
  pub may : MayRun atoms (opening_world files epochs)
  pub mirrors : Mirrors r (run_atoms atoms (opening_world files epochs))
  pub facts : Facts r (run_atoms atoms (opening_world files epochs))
  pub locks : LockFacts r
  pub talk : Talk events r (run_atoms atoms (opening_world files epochs))
  pub still : (T : Tid) → ended T ≡ true → (run_atoms atoms (opening_world files epochs)).ended T ≡ true
  pub kept : (T : Tid) → ended T ≡ true → ops_in events T None r.lines ≡ ops_in events T None before

module _ (events : List Event) (files : AllFiles) (epochs : ServerNo → ℕ) (ended : Tid → Bool) (before : List Text) where
  pub step-stands : (step : Step) (r : World) → IsStep step r → TellsAs events step r → Stands events files epochs ended before r → Stands events files epochs ended before (after step r)
  step-stands step r i e h = let next = goes-on events files epochs h.atoms h.may r h.mirrors h.facts h.locks h.talk step i e in let same = run-append h.atoms next.atoms (opening_world files epochs) in record {
    atoms = h.atoms ++ next.atoms;
    may = may-append h.atoms next.atoms (opening_world files epochs) h.may next.may;
    mirrors = subst (λ (z : Machine). Mirrors (after step r) z) (sym same) next.mirrors;
    facts = subst (λ (z : Machine). Facts (after step r) z) (sym same) next.facts;
    locks = locks-keep step r i h.locks;
    talk = subst (λ (z : Machine). Talk events (after step r) z) (sym same) next.talk;
    still = λ T k. subst (λ (z : Machine). z.ended T ≡ true) (sym same) ((run_grows next.atoms (run_atoms h.atoms (opening_world files epochs)) next.may (run_kept h.atoms (opening_world files epochs) h.may (opening_kept files epochs))).ended T (h.still T k));
    kept = λ T k. next.kept T (h.still T k) ∙ h.kept T k;
  }

pub opening-stands : (events : List Event) (files : AllFiles) (epochs : ServerNo → ℕ) (servers : ℕ) → Stands events files epochs (λ T. false) [] (opening servers files epochs)
opening-stands events files epochs servers = record {
  atoms = [];
  may = tt;
  mirrors = opening-mirrors servers files epochs;
  facts = opening-facts servers files epochs;
  locks = opening-keeps servers files epochs;
  talk = opening-talk events servers files epochs;
  still = λ T e. absurd (not_both true refl (sym e));
  kept = λ T e. refl;
}

-- from here on
pub stands-from : (events : List Event) (files : AllFiles) (epochs : ServerNo → ℕ) (ended : Tid → Bool) (before : List Text) (r : World) (h : Stands events files epochs ended before r)
    → Stands events files epochs (run_atoms h.atoms (opening_world files epochs)).ended r.lines r
stands-from events files epochs ended before r h = record { atoms = h.atoms; may = h.may; mirrors = h.mirrors; facts = h.facts; locks = h.locks; talk = h.talk; still = λ T e. e; kept = λ T e. refl }

-- ---- commits

-- each commit of a history does what was reported of its transaction at each server
abbrev pub AreTold : (Tid → ServerNo → List Answered) → List Commit → Type 0
AreTold told [] = Unit {0}
AreTold told (c ∷ history) = ((s : ServerNo) → SaysAs (told c.tid s) (c.traces s)) × AreTold told history

module _ (events : List Event) (r : World) (w : Machine) (inv : Invariant w) (talk : Talk events r w) where
  trace-told : (T : Tid) → w.named T ≡ true → (s : ServerNo) → SaysAs (said events T s r.lines) (trace_of w.trace (w.part T s))
  trace-told T named s = by (w.part T s) refl (talk.ended T (inv.core.named T named).ended (false_unless (w.aborted T) (λ a. not_both (w.named T) named (inv.core.aborted T a).not_named)) s)
    where
      by : (o : Option WorkId) → w.part T s ≡ o → IsEndedAt events r w T s o → SaysAs (said events T s r.lines) (trace_of w.trace o)
      by None e h = subst (λ z. SaysAs z []) (sym h) (as-itself [])
      by (Some W) e h = h.0 (inr (inr ((inv.core.named T named).ready s W e)))

  pub commits-told : (told : Tid → ServerNo → List Answered) → ((T : Tid) → w.named T ≡ true → (s : ServerNo) → told T s ≡ said events T s r.lines) → (history : List Commit) → ((T : Tid) → has_committed T history ≡ true → w.named T ≡ true)
      → HasTraces w.trace w.part history → AreTold told history
  commits-told told same [] named h = tt
  commits-told told same (c ∷ history) named h = (
    λ s. let k = named c.tid (here (tid_tells c.tid c.tid)) in subst (λ z. SaysAs z (c.traces s)) (sym (same c.tid k s)) (subst (λ z. SaysAs (said events c.tid s r.lines) z) (sym (h.0 s)) (trace-told c.tid k s)),
    commits-told told same history (λ T k. named T (later (tid_eq c.tid T) (has_committed T history) k)) h.1,
  )
    where
      here : ((tid_eq c.tid c.tid ≡ true) × (c.tid ≡ c.tid)) ⊎ ((tid_eq c.tid c.tid ≡ false) × (Rattle.std.proofs.Common.◌≢◌ c.tid c.tid)) → (tid_eq c.tid c.tid || has_committed c.tid history) ≡ true
      here (inl p) = ap (λ (b : Bool). b || has_committed c.tid history) p.0
      here (inr p) = absurd (p.1 refl)

      later : (a b : Bool) → b ≡ true → (a || b) ≡ true
      later a b k = grind arith

-- ---- one commit more

module _ (events : List Event) (lines : List Line) where
  agrees-last : (files : AllFiles) (ts : List Tid) (T : Tid) → OperationsAgreeFrom files events lines ts → GivesAnswers (replay_operations files events lines ts) (operations_of events lines T) → OperationsAgreeFrom files events lines (ts ++ T ∷ [])
  agrees-last files [] T h g = (g, tt)
  agrees-last files (t ∷ ts) T h g = (h.0, agrees-last (files_then (operations_of events lines t) files) ts T h.1 g)

  replay-last : (files : AllFiles) (ts : List Tid) (T : Tid) → replay_operations files events lines (ts ++ T ∷ []) ≡ files_then (operations_of events lines T) (replay_operations files events lines ts)
  replay-last files [] T = refl
  replay-last files (t ∷ ts) T = replay-last (files_then (operations_of events lines t) files) ts T

  -- where a commit more does what was reported, the lines still agree, and give the same files
  told-last : (files : AllFiles) (c : Commit) (history : List Commit) → ((s : ServerNo) → SaysAs (at_place s (operations_of events lines c.tid)) (c.traces s)) → ((s : ServerNo) → FilesAnswer (replay files history s) (c.traces s))
      → OperationsAgreeFrom files events lines (commits_of history) × (replay_operations files events lines (commits_of history) ≡ replay files history)
      → OperationsAgreeFrom files events lines (commits_of (c ∷ history)) × (replay_operations files events lines (commits_of (c ∷ history)) ≡ replay files (c ∷ history))
  told-last files c history told serial before = (
    agrees-last files (commits_of history) c.tid before.0 (subst (λ f. GivesAnswers f ops) (sym before.1) answers.0),
    replay-last files (commits_of history) c.tid ∙ ap (λ f. files_then ops f) before.1 ∙ fun_ext (λ s. answers.1 s ∙ ap (λ z. change z (replay files history s)) (told s).effects),
  )
    where
      ops : List Performed
      ops = operations_of events lines c.tid

      answers : GivesAnswers (replay files history) (operations_of events lines c.tid) × ((s : ServerNo) → files_then (operations_of events lines c.tid) (replay files history) s ≡ change (effects (at_place s (operations_of events lines c.tid))) (replay files history s))
      answers = all-answers (operations_of events lines c.tid) (replay files history) (λ s. (told s).agrees (replay files history s) (serial s))

  pub told-agree : (files : AllFiles) (history : List Commit) → AreTold (λ T s. at_place s (operations_of events lines T)) history → IsSerial files history
      → OperationsAgreeFrom files events lines (commits_of history) × (replay_operations files events lines (commits_of history) ≡ replay files history)
  told-agree files [] told serial = (tt, refl)
  told-agree files (c ∷ history) told serial = told-last files c history told.0 serial.0 (told-agree files history told.1 serial.1)

-- ---- the commits agree with the lines

-- these lines report of each transaction that was ended what the world's do
pub record SaySo (events : List Event) (lines so_far : List Line) (r : World) (ended : Tid → Bool) : Type 0 where
  pub ops : (T : Tid) → ended T ≡ true → operations_of events lines T ≡ ops_in events T None r.lines
  pub commits : history_of so_far ≡ commits_in r.lines

pub stands-told : (events : List Event) (files : AllFiles) (epochs : ServerNo → ℕ) (ended : Tid → Bool) (before : List Text) (r : World) (lines so_far : List Line) (h : Stands events files epochs ended before r)
    → SaySo events lines so_far r (run_atoms h.atoms (opening_world files epochs)).ended → AreAsTold files events lines so_far r
stands-told events files epochs ended before r lines so_far h so = record {
  agrees = subst (λ ts. OperationsAgreeFrom files events lines ts) names both.0;
  shown = shown;
  unlocked = λ s n u is free file. shown s (λ k. false) u (λ W p e k. writes-nothing n.worker n.tickets (stable (r.found s)).works (subst (λ o. ServerFact s o (r.found s)) is (h.locks s)).table u free file W p e);
}
  where
    w : Machine
    w = run_atoms h.atoms (opening_world files epochs)

    inv : Invariant (run_atoms h.atoms (opening_world files epochs))
    inv = run_kept h.atoms (opening_world files epochs) h.may (opening_kept files epochs)

    told : IsTold files (run_atoms h.atoms (opening_world files epochs))
    told = (run_told files h.atoms (opening_world files epochs) h.may (opening_kept files epochs) (opening_told files epochs)).1

    order : InOrder files (run_atoms h.atoms (opening_world files epochs))
    order = in_order files epochs h.atoms h.may

    are-told : AreTold (λ T s. at_place s (operations_of events lines T)) (run_atoms h.atoms (opening_world files epochs)).history
    are-told = commits-told events r w inv h.talk (λ T s. at_place s (operations_of events lines T)) (λ T k s. ap (λ z. at_place s z) (so.ops T (inv.core.named T k).ended)) w.history (λ T k. told.named T ∙ k) told.traces

    both : OperationsAgreeFrom files events lines (commits_of (run_atoms h.atoms (opening_world files epochs)).history) × (replay_operations files events lines (commits_of (run_atoms h.atoms (opening_world files epochs)).history) ≡ replay files (run_atoms h.atoms (opening_world files epochs)).history)
    both = told-agree events lines files w.history are-told order.serial

    names : commits_of (run_atoms h.atoms (opening_world files epochs)).history ≡ history_of so_far
    names = h.mirrors.commits ∙ sym so.commits

    same-replay : replay files (run_atoms h.atoms (opening_world files epochs)).history ≡ replay_operations files events lines (history_of so_far)
    same-replay = sym both.1 ∙ ap (λ ts. replay_operations files events lines ts) names

    shown : (s : ServerNo) (c : Pick) (u : LockUnit) → IsDone r (r.found s c) u → (r.found s c).files u ≡ replay_operations files events lines (history_of so_far) s u
    shown s c u free = ap (λ x. x.files u) (sym (h.mirrors.found s c))
        ∙ order.shown s c u (λ W p e k. free W p (ap (λ x. x.works W) (sym (h.mirrors.found s c)) ∙ e) (ap (λ l. list_any (λ (V : Tid). tid_eq V p.tid) l) (sym h.mirrors.commits) ∙ sym (committed-any p.tid w.history) ∙ k))
        ∙ ap (λ f. f s u) same-replay
