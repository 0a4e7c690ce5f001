-- What the lines report of works that may yet commit stands in the files that the commits so far leave.
use Rattle.jn_system_reports.proofs.Common.{◌≡◌, inl, inr, ℕ, false, List, [], ◌∷◌, ◌++◌, append-nil, None, refl, sym, ◌∙◌, ap, subst, list_any, ServerNo, Tid, WorkId, tid_eq, AllFiles, Event, Line, Text, StableState, commit_in, history_of, operations_of, replay_operations, work_same, FilesAnswer, Invariant, run_atoms, opening_world, IsInOrder, IsTold, run_told, opening_told, in_order, run_kept, opening_kept, false_unless, World, opening, committed_in, commits_in, has_line, active_in, working_in, working_of, committed-any, Item, events_of, steps_of, world_of, IsReported, at_place, replay}
use Rattle.jn_system_reports.proofs.Telling.TransactionLines.{ops_in}
use Rattle.jn_report.specs.declared.line.Text.TheVariants as says
use Rattle.jn_msgs.specs.declared.message.Message.TheVariants as messages
use Rattle.jn_system_reports.specs.Reporting.Reported.{lines_of}
use Rattle.jn_system_reports.proofs.Reporting.Reached.{opening-reached}
use Rattle.jn_system_reports.proofs.Telling.Tellings.{texts_of}
use Rattle.jn_system_reports.proofs.Telling.Quiet.{sent-op}
use Rattle.jn_system_reports.proofs.Telling.Agreeing.{commits-told, told-agree, opening-stands}
use Rattle.jn_system_reports.proofs.Telling.Facts.{said}
use Rattle.jn_system_reports.proofs.Telling.Atoms.{IsPresent}
use Rattle.jn_system_reports.proofs.Telling.Reports.{ItemsTold, items-told, run-ops}
use Rattle.jn_system_reports.specs.BetweenSteps.Lines.{WasAsked, StandAt, DoLinesStand}
use Rattle.jn_system_reports.proofs.BetweenSteps.Heard.{HearsAll, opening-hears, run-hears, steps-told}

commit-text : (text : Text) → commit_in text ≡ committed_in text
commit-text (says.Commit T) = refl
commit-text _ = refl

history-texts : (lines : List Line) → history_of lines ≡ commits_in (texts_of lines)
history-texts [] = refl
history-texts (l ∷ lines) = ap (λ z. z ++ history_of lines) (commit-text l.text) ∙ ap (λ z. committed_in l.text ++ z) (history-texts lines)

module _ (events : List Event) (files : AllFiles) (epochs : ServerNo → ℕ) (r : World) (lines : List Line) (h : HearsAll events files epochs r) (ops : (T : Tid) → operations_of events lines T ≡ ops_in events T None r.lines) (commits : history_of lines ≡ commits_in r.lines) where
  inv : Invariant (run_atoms h.atoms (opening_world files epochs))
  inv = run_kept h.atoms (opening_world files epochs) h.may (opening_kept files epochs)

  told : IsTold files (run_atoms h.atoms (opening_world files epochs))
  told = (run_told files h.atoms (opening_world files epochs) h.may (opening_kept files epochs) (opening_told files epochs)).1

  order : IsInOrder files (run_atoms h.atoms (opening_world files epochs))
  order = in_order files epochs h.atoms h.may

  same-replay : replay files (run_atoms h.atoms (opening_world files epochs)).history ≡ replay_operations files events lines (history_of lines)
  same-replay = sym (told-agree events lines files (run_atoms h.atoms (opening_world files epochs)).history
      (commits-told events r (run_atoms h.atoms (opening_world files epochs)) inv h.talk (λ T s. at_place s (operations_of events lines T)) (λ T k s. ap (λ z. at_place s z) (ops T)) (run_atoms h.atoms (opening_world files epochs)).history (λ T k. told.named T ∙ k) told.traces) order.serial).1
      ∙ ap (λ ts. replay_operations files events lines ts) (h.mirrors.commits ∙ sym commits)

  -- a work whose answers the commits so far give
  stands : (W : WorkId) (T : Tid) → (run_atoms h.atoms (opening_world files epochs)).owner W ≡ T → WasAsked r W → IsPresent (run_atoms h.atoms (opening_world files epochs)) W
      → FilesAnswer (replay (run_atoms h.atoms (opening_world files epochs)).opening (run_atoms h.atoms (opening_world files epochs)).history W.server) ((run_atoms h.atoms (opening_world files epochs)).trace W) → StandAt files events lines T W.server
  stands W T own asked present agrees = subst (λ (f : AllFiles). FilesAnswer (f W.server) (at_place W.server (operations_of events lines T))) same-replay (subst (λ l. FilesAnswer (replay files (run_atoms h.atoms (opening_world files epochs)).history W.server) (at_place W.server l)) (sym (ops T))
      (subst (λ (U : Tid). FilesAnswer (replay files (run_atoms h.atoms (opening_world files epochs)).history W.server) (said events U W.server r.lines)) own
      (h.heard W (sent-op W r.sent asked.sent.number (asked.sent.to, messages.Op asked.client asked.request W asked.number asked.op) asked.sent.is (work_same W)) present (replay files (run_atoms h.atoms (opening_world files epochs)).history W.server)
      (subst (λ (f : AllFiles). FilesAnswer (replay f (run_atoms h.atoms (opening_world files epochs)).history W.server) ((run_atoms h.atoms (opening_world files epochs)).trace W)) told.opening agrees))))

  named : (T : Tid) → (run_atoms h.atoms (opening_world files epochs)).named T ≡ has_line T r.lines
  named T = told.named T ∙ committed-any T (run_atoms h.atoms (opening_world files epochs)).history ∙ ap (λ l. list_any (λ (V : Tid). tid_eq V T) l) h.mirrors.commits

  lines-stand : DoLinesStand files events lines r
  lines-stand = record {
    active = λ W a k asked. let e = h.mirrors.active W ∙ ap (λ o. active_in o W) k.up ∙ ap working_of k.is ∙ ap working_in k.active in
        stands W k.work.tid (h.mirrors.owner W.server k.memory W k.work k.up k.is).1 asked (inl (record { list = a.list; reads = a.reads }, e)) (inv.core.active W (record { list = a.list; reads = a.reads }) e).agrees;
    ready = λ W c p e free asked. let f = ap (λ (x : StableState). x.works W) (h.mirrors.found W.server c) ∙ e in let fact = (inv.core.states W.server c).prepared W p f in
        stands W p.tid (sym fact.tid) asked (inr (inl (record { pick = c; work = p; is = f }))) (fact.agrees (false_unless ((run_atoms h.atoms (opening_world files epochs)).named ((run_atoms h.atoms (opening_world files epochs)).owner W))
        (λ n. free (ap (λ (T : Tid). has_line T r.lines) fact.tid ∙ sym (named ((run_atoms h.atoms (opening_world files epochs)).owner W)) ∙ n))));
  }

pub run-lines-stand : (servers : ℕ) (files : AllFiles) (epochs : ServerNo → ℕ) (items : List Item) → IsReported items (opening servers files epochs)
    → DoLinesStand files (events_of items) (lines_of items (opening servers files epochs)) (world_of items (opening servers files epochs))
run-lines-stand servers files epochs items h = lines-stand (events_of items) files epochs (world_of items start) (lines_of items start) hears
    (run-ops servers files epochs items h)
    (history-texts (lines_of items start) ∙ its.same.commits ∙ ap commits_in (sym its.lines))
  where
    start : World
    start = opening servers files epochs

    all : events_of items ≡ [] ++ (events_of items ++ [])
    all = sym (append-nil (events_of items))

    its : ItemsTold (events_of items) files epochs (λ T. false) [] items (opening servers files epochs)
    its = items-told (events_of items) files epochs (λ T. false) [] items start [] [] all refl (opening-reached files epochs servers) (opening-stands (events_of items) files epochs servers) h.steps h.under

    hears : HearsAll (events_of items) files epochs (world_of items (opening servers files epochs))
    hears = run-hears (events_of items) files epochs (steps_of items) start h.steps (steps-told (events_of items) files epochs items start [] [] all refl (opening-reached files epochs servers) h.steps h.under) (opening-hears (events_of items) files epochs servers)
