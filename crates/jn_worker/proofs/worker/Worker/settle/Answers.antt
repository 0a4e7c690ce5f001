use Rattle.jn_worker.proofs.Common.{subst, sym, ap, ◌∙◌, arith, table, LocksMatch, rephased, tallied}
use Rattle.jn_worker.proofs.Performed.{match_rephased, tallied_keeps}
use Rattle.jn_worker.proofs.Settled.{one_active, limit_is, limit_settles, grant_settles}
use Rattle.jn_worker.proofs.worker.Worker.settle.Goals as goal

pub invariant_of-self : goal.invariant_of-self
invariant_of-self c = subst (λ ws. LocksMatch ws (table c.self.inside.locks)) (sym c.tally.ensures) (match_rephased c.args.name (tallied c.args.number.0 c.in_ok-kept.kept) (tallied_keeps c.args.number.0 c.in_ok-kept.kept) c.self.inside.works.items (table c.self.inside.locks) c.self.invariant)

pub returns-in-Some-past_limit-clause-settled : goal.returns-in-Some-past_limit-clause-settled
returns-in-Some-past_limit-clause-settled c = λ T a i count. limit_settles c.args.self.now c.self.inside.works.items c.deref.result.now c.tally.new.works.items c.self.inside.going.items c.args.name c.in-Some.work.now T a c.args.op.now c.args.answer c.in-Some-past_limit.refusal c.args.number c.past_limit.result c.args.out.now c.self.view_is c.deref.ensures.value c.in-Some.ensures i count
    (limit_is c.args.op.now c.args.answer c.is_fit-fit.result a c.in-Active.active c.in_ok-units.units.0.items c.len.result c.intentions.result c.past_limit.result c.is_fit-fit.ensures (one_active c.args.self.now c.self.inside.works.items c.deref.result.now c.self.inside.going.items c.args.name c.in-Some.work.now T a c.in-Active.active c.self.view_is c.deref.ensures.value c.in-Some.ensures c.in-Active.is i)
    c.in_ok-units.ensures.reads (omega (arith, c.len.ensures, c.in_ok-units.units.0.ok.0)) c.intentions.ensures c.past_limit.ensures) c.in-Some-past_limit.is (c.tally.ensures ∙ ap (λ x. rephased c.args.name (tallied c.args.number.0 x) c.self.inside.works.items) c.in_ok-kept.ensures)

pub returns-clause-settled : goal.returns-clause-settled
returns-clause-settled c = λ T a i count. grant_settles c.args.self.now c.grant.new.self T c.args.name a c.args.op.now c.args.answer c.in_ok-refusal.refusal c.past_limit.result c.args.out.now c.grant.new.out
    (limit_is c.args.op.now c.args.answer c.is_fit-fit.result a c.in-Active.active c.in_ok-units.units.0.items c.len.result c.intentions.result c.past_limit.result c.is_fit-fit.ensures (one_active c.args.self.now c.self.inside.works.items c.deref.result.now c.self.inside.going.items c.args.name c.in-Some.work.now T a c.in-Active.active c.self.view_is c.deref.ensures.value c.in-Some.ensures c.in-Active.is i)
    c.in_ok-units.ensures.reads (omega (arith, c.len.ensures, c.in_ok-units.units.0.ok.0)) c.intentions.ensures c.past_limit.ensures) c.in_default-past_limit.is (c.in_ok-refusal.ensures.granted T a i count)
