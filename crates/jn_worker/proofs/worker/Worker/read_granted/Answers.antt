use Rattle.jn_worker.proofs.Common.{subst, sym, Ok, ActiveWork, Viewed, table, LocksMatch, tallied}
use Rattle.jn_worker.proofs.Fetched.{viewed_lost}
use Rattle.jn_worker.proofs.Settled.{one_active}
use Rattle.jn_worker.proofs.Performed.{match_rephased, tallied_keeps}
use Rattle.jn_worker.proofs.worker.Worker.read_granted.Goals as goal

pub invariant_of-self : goal.invariant_of-self
invariant_of-self g c = subst (λ ws. LocksMatch ws (table c.self.inside.locks)) (sym c.tally.ensures) (match_rephased c.args.name (tallied c.args.number.0 c.in_ok-kept.kept) (tallied_keeps c.args.number.0 c.in_ok-kept.kept) c.self.inside.works.items (table c.self.inside.locks) c.self.invariant)

pub returns-in_err-kept-clause-viewed : goal.returns-in_err-kept-clause-viewed
returns-in_err-kept-clause-viewed g c = λ T a i. viewed_lost a.list c.args.op.now (g.W.Storage.view c.args.store.now) (g.W.Storage.view c.view.new.files) c.in_ok-answer.answer c.from_residual-in_err-kept.result
    (subst (λ (x : ActiveWork). Viewed x.list (g.W.Storage.view c.args.store.now) c.args.op.now (Ok c.in_ok-answer.answer) (g.W.Storage.view c.view.new.files))
    (one_active c.args.self.now c.self.inside.works.items c.deref.result.now c.self.inside.going.items c.args.name c.in-Some.work.now T a c.in-Active.active c.self.view_is c.deref.ensures.value c.in-Some.ensures c.in-Active.is i) c.in_ok-answer.ensures.viewed)
    c.from_residual-in_err-kept.ensures.1
