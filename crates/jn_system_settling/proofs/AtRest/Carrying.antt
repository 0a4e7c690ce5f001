-- A work that goes goes on until it is over, and a Commit of a work that isn't over makes it go.
use Rattle.jn_system_settling.proofs.Common.{◌≡◌, ◌≢◌, ◌⊎◌, inl, inr, ℕ, Bool, true, false, [], ◌∷◌, Option, Some, None, true≢false, refl, sym, ◌∙◌, ap, subst, arith, if◌then◌else◌, ServerNo, Tid, WorkId, Tickets, Server, work_eq, work_tells, AllFiles, Message, Work, Phase, Active, Broken, Stored, ActiveWork, StableState, Prepared, MarkGoing, at_work, gone_on, stable, is_going, made_all, RowOutcome, quiet, ignored, WorkerTable, WorkStorage, work_at, commit_phase, worker_row, coordinator_row, Machine, not_both, World, Memory, Room, storage_of, server_row, TableFact, IsSoundWork, UpFact, flags-all, coordinator-aside, active_in, working_of, working_in, each-in, Reached, LineFact, WorkerCase, prepares_it, marks_it, removes_it, worker-case, row-either}
use Rattle.jn_lock_rows.proofs.Works.{found-name}
use Rattle.jn_msgs.specs.declared.message.Message.TheVariants as messages
use Rattle.jn_report.specs.declared.line.Text.TheVariants as says
use Rattle.jn_rows.specs.Worker.{commit_row}
use Rattle.jn_system_reports.proofs.Reporting.Outcomes.{not-named}
use Rattle.jn_system_settling.proofs.AtRest.Ways.{Has}
use Rattle.jn_system_settling.proofs.AtRest.Broken.{BrokenTold}
use Rattle.jn_system_settling.proofs.AtRest.Standing.{machine, inv, up-at}

abbrev pub goes_in : StableState → WorkId → Bool
goes_in x W = is_going (x.works W)

-- ---- a message leaves what goes

module _ (t : WorkerTable) (s : WorkStorage) (k : Tickets) (table : TableFact t k s.state.works) (W : WorkId) (goes : is_going (s.state.works W) ≡ true) where
  abbrev Is : WorkId → Type 0
  Is V = ((work_eq V W ≡ true) × (V ≡ W)) ⊎ ((work_eq V W ≡ false) × (V ≢ W))

  -- another work changes
  apart : (V : WorkId) (o : Option Prepared) → (V ≡ W → is_going o ≡ true) → is_going (at_work s.state.works V o W) ≡ true
  apart V o same = by (work_tells V W)
    where
      by : Is V → is_going (if work_eq V W then o else s.state.works W) ≡ true
      by (inl p) = ap (λ (b : Bool). is_going (if b then o else s.state.works W)) p.0 ∙ same p.1
      by (inr p) = ap (λ (b : Bool). is_going (if b then o else s.state.works W)) p.0 ∙ goes

  gone-going : (o : Option Prepared) → is_going o ≡ true → is_going (gone_on o) ≡ true
  gone-going None e = e
  gone-going (Some p) e = refl

  row-on : (m : Message) → goes_in (made_all (worker_row t s k m).changes s.state) W ≡ true
  row-on m = by m (worker_row t s k m) (worker-case t s k m)
    where
      not-ready : (V : WorkId) (w : Work) (a : ActiveWork) → work_at V t ≡ Some w → w.phase ≡ Active a → w.name ≡ W → ⊥
      not-ready V w a e f q = true≢false (sym goes ∙ ap (λ (U : WorkId). is_going (s.state.works U)) (sym q ∙ found-name V t w e) ∙ ap is_going (subst (λ (p : Phase). IsSoundWork (s.state.works V) w.tid p) f (table.sound V w e)).not_stored)

      by : (m : Message) (row : RowOutcome WorkerTable) → WorkerCase t s k m row → goes_in (made_all row.changes s.state) W ≡ true
      by _ _ (prepares_it T c V w a e f v) = apart w.name _ (λ q. absurd (not-ready V w a e f q))
      by _ _ (marks_it T V w p e f g) = apart V (gone_on (s.state.works V)) (λ q. gone-going (s.state.works V) (ap (λ (U : WorkId). is_going (s.state.works U)) q ∙ goes))
      by _ _ (removes_it T V w p e f g) = apart V None (λ q. absurd (true≢false (sym goes ∙ ap (λ (U : WorkId). is_going (s.state.works U)) (sym q) ∙ g)))
      by m row case = goes

-- ---- in a world that is reached

module _ (files : AllFiles) (epochs : ServerNo → ℕ) (r : World) (R : Reached files epochs r) where
  pub message-on : (s : ServerNo) (m : Memory) (room : Room) (message : Message) (W : WorkId) → r.memory s ≡ Some m → goes_in (stable (r.found s)) W ≡ true → goes_in (made_all (server_row m (stable (r.found s)) room message).changes (stable (r.found s))) W ≡ true
  message-on s m room message W up goes = row-either (λ row. goes_in (made_all row.changes (stable (r.found s))) W ≡ true) m (stable (r.found s)) room message
      (row-on m.worker (storage_of m (stable (r.found s)) room) m.tickets (up-at files epochs r R s m up).table W goes message)
      (ap (λ f. is_going (f W)) (flags-all (coordinator_row m.coordinator room.free.records m.tickets message).changes (stable (r.found s)) (coordinator-aside m.coordinator room.free.records m.tickets message).flags) ∙ goes)

  -- what a Commit of a named transaction's work leads to
  pub data Led (s : ServerNo) (m : Memory) (room : Room) (T : Tid) (W : WorkId) : Type 0 where
    over_now : work_at W m.worker ≡ None → Has (Server T.server, messages.Done T W) (server_row m (stable (r.found s)) room (messages.Commit T W)).messages → Led s m room T W
    goes_now : goes_in (made_all (server_row m (stable (r.found s)) room (messages.Commit T W)).changes (stable (r.found s))) W ≡ true → Led s m room T W

  pub commit-leads : BrokenTold r → (s : ServerNo) (m : Memory) (room : Room) (T : Tid) (W : WorkId) → W.server ≡ s → r.memory s ≡ Some m → (machine files epochs r R).named T ≡ true → (machine files epochs r R).part T W.server ≡ Some W → Led s m room T W
  commit-leads broken s m room T W place up named part = by (work_at W m.worker) refl
    where
      w : Machine
      w = machine files epochs r R

      ready : w.was_ready W ≡ true
      ready = ((inv files epochs r R).core.named T named).ready W.server W part

      owner : w.owner W ≡ T
      owner = ((inv files epochs r R).core.parts T W.server W part).owner

      fact : UpFact s m (r.found s)
      fact = up-at files epochs r R s m up

      phase : (v : Work) → work_at W m.worker ≡ Some v → (p : Phase) → v.phase ≡ p → goes_in (made_all (commit_phase m.worker (storage_of m (stable (r.found s)) room) m.tickets W p).changes (stable (r.found s))) W ≡ true
      phase v e (Active a) f = absurd (not_both (w.was_ready W) ready ((inv files epochs r R).core.active W (record { list = a.list; reads = a.reads })
          (R.mirrors.active W ∙ ap (λ (q : ServerNo). active_in (r.memory q) W) place ∙ ap (λ o. active_in o W) up ∙ ap working_of e ∙ ap working_in f)).not_ready)
      phase v e (Broken u by) f = absurd (not_both (w.named T) named (subst (λ (U : Tid). w.named U ≡ false) (sym (R.mirrors.owner s m W v up e).1 ∙ owner)
          (not-named r.sent w v.tid (inv files epochs r R) R.ends (each-in (LineFact r.sent w) r.lines (says.Broke s v.tid u by) R.lines (broken s m W v u by up e f)))))
      phase v e (Stored p) f = on (is_going ((stable (r.found s)).works W)) refl
        where
          sound : IsSoundWork ((stable (r.found s)).works W) v.tid (Stored p)
          sound = subst (λ (p : Phase). IsSoundWork ((stable (r.found s)).works W) v.tid p) f (fact.table.sound W v e)

          itself : work_eq W W ≡ true
          itself = grind (arith, work_tells W W)

          on : (b : Bool) → is_going ((stable (r.found s)).works W) ≡ b → goes_in (made_all (if b then ignored m.worker m.tickets else record (quiet m.worker m.tickets) { changes = MarkGoing W ∷ [] }).changes (stable (r.found s))) W ≡ true
          on true g = g
          on false g = ap (λ (b : Bool). is_going (if b then gone_on ((stable (r.found s)).works W) else (stable (r.found s)).works W)) itself ∙ ap (λ o. is_going (gone_on o)) sound.is

      by : (o : Option Work) → work_at W m.worker ≡ o → Led s m room T W
      by None e = over_now e (subst (λ o. Has (Server T.server, messages.Done T W) (commit_row m.worker (storage_of m (stable (r.found s)) room) m.tickets T W o).messages) (sym e) (inl refl))
      by (Some v) e = goes_now (subst (λ o. goes_in (made_all (commit_row m.worker (storage_of m (stable (r.found s)) room) m.tickets T W o).changes (stable (r.found s))) W ≡ true) (sym e) (phase v e v.phase refl))
