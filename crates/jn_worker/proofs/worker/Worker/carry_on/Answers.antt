use Rattle.jn_worker.proofs.Common.{subst, sym, ap, table, LocksMatch, match_released, Ok, Collected, StepApplied, WorkerView, Stops, Memory}
use Rattle.jn_worker.proofs.Exits.{handed_on}
use Rattle.jn_worker.proofs.Carried.{carry_stopped, carry_made, over_stopped, over_untold, over_made}
use Rattle.jn_worker.proofs.worker.Worker.carry_on.Goals as goal

pub returns-in_err-apply_step : goal.returns-in_err-apply_step
returns-in_err-apply_step g c = record { takes = λ k. carry_stopped _ _ _ _ k _ _ _ _ (handed_on _ Stops c.from_residual.ensures) c.in_err-apply_step.ensures.applied }

pub returns-then-branch : goal.returns-then-branch
returns-then-branch g c = record {
  takes = λ k. carry_made _ _ _ _ k _ _ (table c.self.inside.locks) c.requires.fits (subst (λ (t : WorkerView). LocksMatch t.table (table c.self.inside.locks)) c.self.view_is c.self.invariant) c.self.inside.locks.compatible c.requires.going
      (subst (λ b. StepApplied (g.W.Storage.view c.args.store.now) c.args.name (Ok b) (g.W.Storage.view c.apply_step.new.self)) c.if-branch.true c.in_ok-apply_step.ensures.applied);
}

pub returns-in_err-forget : goal.returns-in_err-forget
returns-in_err-forget g c = record {
  takes = λ k. over_stopped _ _ _ _ _ _ k _ _ _ (handed_on _ Stops c.from_residual-in_err-forget.ensures)
      (subst (λ b. StepApplied (g.W.Storage.view c.args.store.now) c.args.name (Ok b) (g.W.Storage.view c.apply_step.new.self)) c.if-branch.false c.in_ok-apply_step.ensures.applied) c.in_err-forget.ensures.removed;
}

pub invariant_of-self : goal.invariant_of-self
invariant_of-self g c = subst (λ ws. LocksMatch ws (table c.release.new.self)) (sym c.remove.ensures) (match_released c.args.name c.self.inside.works.items (table c.self.inside.locks) (table c.release.new.self) c.self.invariant c.release.ensures)

pub returns-in_err-send : goal.returns-in_err-send
returns-in_err-send g c = record {
  takes = λ k. over_untold _ _ _ _ _ _ _ k _ _ _ (handed_on _ Memory c.from_residual-in_err-send.ensures)
      (subst (λ b. StepApplied (g.W.Storage.view c.args.store.now) c.args.name (Ok b) (g.W.Storage.view c.apply_step.new.self)) c.if-branch.false c.in_ok-apply_step.ensures.applied) c.in_ok-forget.ensures.removed;
}

pub invariant_of-self-2 : goal.invariant_of-self-2
invariant_of-self-2 g c = subst (λ ws. LocksMatch ws (table c.release.new.self)) (sym c.remove.ensures) (match_released c.args.name c.self.inside.works.items (table c.self.inside.locks) (table c.release.new.self) c.self.invariant c.release.ensures)

pub returns : goal.returns
returns g c = record {
  takes = λ k. over_made _ c.self.inside.works.items _ c.self.inside.going.items _ _ _ _ _ _ k _ c.args.tid c.self.view_is c.requires.fits c.self.invariant.rising c.requires.live
      (subst (λ b. StepApplied (g.W.Storage.view c.args.store.now) c.args.name (Ok b) (g.W.Storage.view c.apply_step.new.self)) c.if-branch.false c.in_ok-apply_step.ensures.applied) c.in_ok-forget.ensures.removed c.remove.ensures c.forget_name.ensures
      (ap (λ (o : Collected). o.notes) c.in_ok-send.ensures) (ap (λ (o : Collected). o.messages) c.in_ok-send.ensures);
}
