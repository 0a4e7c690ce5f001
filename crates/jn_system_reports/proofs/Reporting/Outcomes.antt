-- What is reported aborted or broken isn't named, and never will be.
use Rattle.jn_system_reports.proofs.Common.{◌≡◌, ◌≢◌, ◌⊎◌, inl, inr, ℕ, Bool, true, false, List, [], ◌++◌, append-nil, Option, Some, None, refl, sym, ◌∙◌, ap, subst, arith, if◌then◌else◌, list_any, ServerNo, ClientNo, Tid, WorkId, LockUnit, Cause, Client, Answer, client_eq, tid_eq, client_tells, tid_tells, Message, Outcome, Text, Phase, Broken, Outstanding, Taken, Pick, RowOutcome, Sent, WorkerTable, ClientTable, is_tid, is_current, if_waits, begun_row, opened_row, answer_line, outcome_row, take_row, found-name, Machine, Invariant, IsWorkOf, OutcomeSays, Says, not_both, some_none, false_unless, World, Memory, at_server, commits_in, has_line, of_worker, lines_of, done, LockFacts, UpFact, ServerFact, Mirrors, active_in, working_in, working_of, commits-more, lines-commit, named_by, Opening, one-server}
use Rattle.jn_base.specs.declared.op.Answer.TheVariants as answers
use Rattle.jn_msgs.specs.declared.message.Message.TheVariants as messages
use Rattle.jn_msgs.specs.declared.message.Outcome.TheVariants as outcomes
use Rattle.jn_report.specs.declared.line.Text.TheVariants as says
use Rattle.jn_rows.specs.declared.client.Taken.TheVariants as taken
use Rattle.jn_system_reports.proofs.Reporting.Asking.{Asking, IsAsked, WasAsked, KeepsPhase, KeepsWork}
use Rattle.jn_system_reports.proofs.Reporting.WorkerTalk.{each-work}
use Rattle.jn_system_reports.proofs.Reporting.Gone.{Gone}
use Rattle.jn_system_reports.proofs.Reporting.Breaking.{BreaksOne}
use Rattle.jn_system_reports.proofs.Reporting.Talk.{Talk}
use Rattle.jn_system_reports.proofs.Reporting.Past.{OutcomeFact, SaysPast}

-- ---- what a client reports of an abort

module _ (os : List Opening) (clients : ClientNo → ClientTable) (w : Machine) (Caused : ClientNo → Tid → Cause → Type 0) (c : ClientNo) (name : (clients c).client ≡ c) where
  abbrev t : ClientTable
  t = clients c

  abbrev pub IsTrueAbort : Text → Type 0
  IsTrueAbort (says.Aborted d j T cause) = (d ≡ c) × (t.transaction ≡ Some T) × (w.aborted T ≡ true) × Caused c T cause
  IsTrueAbort (says.Broke s T u by) = ⊥
  IsTrueAbort (says.File s f) = ⊥
  IsTrueAbort (says.Page s f p bytes) = ⊥
  IsTrueAbort (says.Locked s u T) = ⊥
  IsTrueAbort text = Unit {0}

  abbrev pub AbortsTruly : ClientTable × Taken → Type 0
  AbortsTruly (u, taken.Told line answer) = IsTrueAbort line
  AbortsTruly (u, what) = Unit {0}

  waits-abort : (o : Option Outstanding) (test : Outstanding → Bool) (row : ℕ → ClientTable × Taken) → ((j : ℕ) → AbortsTruly (row j)) → AbortsTruly (if_waits t o test row)
  waits-abort None test row h = tt
  waits-abort (Some o) test row h = by (test o)
    where
      by : (b : Bool) → AbortsTruly (if b then row o.event else (t, taken.Ignored))
      by true = h o.event
      by false = tt

  either : (b : Bool) (p q : ClientTable × Taken) → (b ≡ true → AbortsTruly p) → AbortsTruly q → AbortsTruly (if b then p else q)
  either true p q h k = h refl
  either false p q h k = k

  is-its : (T : Tid) → is_current t T ≡ true → t.transaction ≡ Some T
  is-its T e = by t.transaction e
    where
      by : (o : Option Tid) → is_tid T o ≡ true → o ≡ Some T
      by None k = absurd (grind arith)
      by (Some U) k = same (tid_tells T U) k
        where
          same : ((tid_eq T U ≡ true) × (T ≡ U)) ⊎ ((tid_eq T U ≡ false) × (T ≢ U)) → tid_eq T U ≡ true → Some U ≡ Some T
          same (inl p) k = ap (λ (z : Tid). Some z) (sym p.1)
          same (inr p) k = absurd (not_both (tid_eq T U) k p.0)

  answer-abort : (j : ℕ) (answer : Answer) → IsTrueAbort (answer_line t.client j answer)
  answer-abort j answers.Did = tt
  answer-abort j (answers.Read bytes) = tt
  answer-abort j answers.NoFile = tt
  answer-abort j answers.Exists = tt
  answer-abort j (answers.Locked u T) = tt
  answer-abort j answers.TooManyReads = tt
  answer-abort j answers.TooManyWrites = tt
  answer-abort j (answers.Broken u T) = tt
  answer-abort j (answers.Lost m n) = tt
  answer-abort j answers.Closing = tt

  outcome-abort : (T : Tid) (outcome : Outcome) → OutcomeSays w T outcome → OutcomeFact os clients w Caused c T outcome → AbortsTruly (outcome_row t T outcome)
  outcome-abort T outcomes.Committed s h = either (is_current t T) _ _ (λ e. waits-abort t.outstanding _ _ (λ j. tt)) tt
  outcome-abort T (outcomes.Aborted cause) s h = either (is_current t T) _ _ (λ e. waits-abort t.outstanding _ _ (λ j. (name, is-its T e, s, h.1))) tt
  outcome-abort T (outcomes.Waiting q u by) s h = either (is_current t T) _ _ (λ e. waits-abort t.outstanding _ _ (λ j. tt)) tt
  outcome-abort T (outcomes.NotKnown q epoch) s (inl p) = either (is_current t T) _ _ (λ e. absurd (p.over (is-its T e))) tt
  outcome-abort T (outcomes.NotKnown q epoch) s (inr p) = either (is_current t T) _ _ (λ e. waits-abort t.outstanding _ _ (λ j. (name, is-its T e, p.0, p.1))) tt

  same-client : (d : ClientNo) → client_eq d t.client ≡ true → d ≡ c
  same-client d e = grind (arith, client_tells d t.client, e, name)

  pub take-aborts : (message : Message) → Says w message → SaysPast os clients w Caused (Client c, message) → AbortsTruly (take_row t message)
  take-aborts (messages.Begun d q o) s h = waits-abort t.outstanding _ _ (λ j. begun j o)
    where
      begun : (j : ℕ) (o : Option Tid) → AbortsTruly (begun_row t j o)
      begun j None = tt
      begun j (Some T) = tt
  take-aborts (messages.Opened d q T o) s h = waits-abort t.outstanding _ _ (λ j. opened j o)
    where
      opened : (j : ℕ) (o : Option WorkId) → AbortsTruly (opened_row t j o)
      opened j None = tt
      opened j (Some W) = tt
  take-aborts (messages.Answer d q answer) s h = waits-abort t.outstanding _ _ (λ j. answer-abort j answer)
  take-aborts (messages.Outcome d T outcome) s h = either (client_eq d t.client) _ _ (λ e. outcome-abort T outcome s (subst (λ (z : ClientNo). OutcomeFact os clients w Caused z T outcome) (same-client d e) h)) tt
  take-aborts _ s h = tt

-- ---- a work that is broken

pub record IsLost (sent : List Sent) (w : Machine) (T : Tid) : Type 0 where
  pub of : Asking
  pub asked : IsAsked sent of
  pub owner : IsWorkOf w T of.work
  pub gone : Gone w of.work

abbrev pub NeverNamed : List Sent → Machine → Tid → Type 0
NeverNamed sent w T = (w.aborted T ≡ true) ⊎ IsLost sent w T

-- works that something was asked of are those of their transactions' ends
abbrev pub EndsAsked : List Sent → Machine → Type 0
EndsAsked sent w = (a : Asking) → IsAsked sent a → (T : Tid) → IsWorkOf w T a.work → w.ended T ≡ true → w.part T a.work.server ≡ Some a.work

-- so it isn't named
pub not-named : (sent : List Sent) (w : Machine) (T : Tid) → Invariant w → EndsAsked sent w → NeverNamed sent w T → w.named T ≡ false
not-named sent w T inv ends (inl e) = (inv.core.aborted T e).not_named
not-named sent w T inv ends (inr h) = false_unless (w.named T) (λ e. let n = inv.core.named T e in not_both (w.was_ready h.of.work) (n.ready h.of.work.server h.of.work (ends h.of h.asked T h.owner n.ended)) h.gone.not_ready)

module _ (r : World) (w : Machine) (mirrors : Mirrors r w) (talk : Talk r w) (locks : LockFacts r) (inv : Invariant w) (named : (T : Tid) → w.named T ≡ has_line T r.lines) (ends : EndsAsked r.sent w)
    (s : ServerNo) (m : Memory) (is : r.memory s ≡ Some m) (k : Option ℕ) (row : RowOutcome WorkerTable) (quiet : named_by row.notes ≡ [])
    (v : Machine) (mirrors' : Mirrors (done s k (of_worker m row) r) v) (locks' : LockFacts (done s k (of_worker m row) r)) (inv' : Invariant v) (named' : (T : Tid) → v.named T ≡ has_line T (done s k (of_worker m row) r).lines)
    (grow : (T : Tid) (W : WorkId) → IsWorkOf w T W → IsWorkOf v T W) where
  abbrev now : Memory
  now = (of_worker m row).table

  here : at_server r.memory s (Some (of_worker m row).table) s ≡ Some (of_worker m row).table
  here = one-server (λ q z. s ≡ q → z ≡ Some (of_worker m row).table) r.memory s (Some (of_worker m row).table) (λ e. refl) (λ q other e. absurd (other e)) s refl

  up : UpFact s m (r.found s)
  up = subst (λ o. ServerFact s o (r.found s)) is (locks s)

  up' : UpFact s (of_worker m row).table ((done s k (of_worker m row) r).found s)
  up' = subst (λ o. ServerFact s o ((done s k (of_worker m row) r).found s)) here (locks' s)

  -- nothing is named by the row
  same-names : (T : Tid) → v.named T ≡ true → w.named T ≡ true
  same-names T e = named T ∙ sym (ap (λ l. list_any (λ (U : Tid). tid_eq U T) l) (commits-more r.lines (lines_of s k row.notes) ∙ ap (λ l. commits_in r.lines ++ l) (lines-commit s k row.notes ∙ quiet) ∙ append-nil (commits_in r.lines))) ∙ sym (named' T) ∙ e

  pub broke-fact : (T : Tid) (u : LockUnit) (by : Tid) → BreaksOne m.worker row T u by → NeverNamed r.sent v T
  broke-fact T u by h = at (v.aborted T) refl (v.was_ready h.name) refl
    where
      place : h.name.server ≡ s
      place = up.table.place h.name h.work h.found ∙ up.server

      same-name : h.work.name ≡ h.name
      same-name = found-name h.name m.worker h.work h.found

      owner : IsWorkOf w T h.name
      owner = subst (λ (U : Tid). IsWorkOf w U h.name) h.tid (mirrors.owner s m h.name h.work is h.found)

      was : WasAsked r.sent h.work.name
      was = held (subst (λ (p : Phase). KeepsPhase r.sent h.work.name p) h.is (each-work (KeepsWork r.sent) h.name m.worker h.work (talk.works s m is) h.found)).2
        where
          held : ((h.active.reads ≡ []) × (h.active.writes ≡ [])) ⊎ WasAsked r.sent h.work.name → WasAsked r.sent h.work.name
          held (inl e) = absurd (h.held e.0 e.1)
          held (inr x) = x

      its-work : was.of.work ≡ h.name
      its-work = was.work ∙ same-name

      active : w.active h.name ≡ Some (record { list = h.active.list; reads = h.active.reads })
      active = mirrors.active h.name ∙ ap (λ (q : ServerNo). active_in (r.memory q) h.name) place ∙ ap (λ o. active_in o h.name) is ∙ ap working_of h.found ∙ ap working_in h.is

      not-active : v.active h.name ≡ None
      not-active = mirrors'.active h.name ∙ ap (λ (q : ServerNo). active_in ((done s k (of_worker m row) r).memory q) h.name) place ∙ ap (λ o. active_in o h.name) here ∙ ap working_of h.now

      nowhere : (c : Pick) → (v.found h.name.server c).works h.name ≡ None
      nowhere c = ap (λ x. x.works h.name) (mirrors'.found h.name.server c ∙ ap (λ (q : ServerNo). (done s k (of_worker m row) r).found q c) place ∙ up'.same c) ∙ up'.table.sound h.name (record h.work { phase = Broken u by }) h.now

      none-named : v.named T ≡ true → ⊥
      none-named e = let n = inv.core.named T (same-names T e) in not_both (w.was_ready h.name)
          (n.ready h.name.server h.name (subst (λ (V : WorkId). w.part T V.server ≡ Some V) its-work (ends was.of was.asked T (subst (λ (V : WorkId). IsWorkOf w T V) (sym its-work) owner) n.ended))) (inv.core.active h.name _ active).not_ready

      its-owner : v.owner h.name ≡ T
      its-owner = (grow T h.name owner).1

      at : (a : Bool) → v.aborted T ≡ a → (b : Bool) → v.was_ready h.name ≡ b → NeverNamed r.sent v T
      at true e b f = inl e
      at false e true f = absurd (some_none ((v.found h.name.server (λ n. false)).works h.name) ((inv'.core.states h.name.server (λ n. false)).ready h.name refl f (subst (λ (U : Tid). v.aborted U ≡ false) (sym its-owner) e)
          (subst (λ (U : Tid). v.named U ≡ false) (sym its-owner) (false_unless (v.named T) none-named))) (nowhere (λ n. false)))
      at false e false f = inr (record {
        of = was.of;
        asked = was.asked;
        owner = subst (λ (V : WorkId). IsWorkOf v T V) (sym its-work) (grow T h.name owner);
        gone = subst (λ (V : WorkId). Gone v V) (sym its-work) (record { opened = (grow T h.name owner).0; not_active = not-active; nowhere = nowhere; not_ready = f });
      })
