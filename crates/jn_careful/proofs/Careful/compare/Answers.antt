use Rattle.jn_careful.proofs.Common.{subst, arith, sym, differs_true, differs_false, the_type}
use Rattle.jn_careful.proofs.Get.{compared_good, compared_err, compared_again, look_none, looking_first, Looking}
use Rattle.jn_careful.proofs.Careful.compare.Goals as goal

pub returns-in_err-found-clause-got : goal.returns-in_err-found-clause-got
returns-in_err-found-clause-got g c = (compared_err _ _ _ c.requires _ c.loop-try.invariant (omega arith) _ c.in_err-found.field-0.0 c.in_err-found.ensures.step c.from_residual.result c.from_residual.ensures.0 _).got

pub returns-in_err-found-clause-makes : goal.returns-in_err-found-clause-makes
returns-in_err-found-clause-makes g c = (compared_err _ _ _ c.requires _ c.loop-try.invariant (omega arith) _ c.in_err-found.field-0.0 c.in_err-found.ensures.step c.from_residual.result c.from_residual.ensures.0 _).makes

pub returns-then-ne-clause-got : goal.returns-then-ne-clause-got
returns-then-ne-clause-got g c = (compared_good _ _ _ c.requires _ c.loop-try.invariant (omega arith) _ c.in_ok-found.found c.in_ok-found.ensures.step (differs_true the_type _ _ (sym c.if-ne.ensures))).got

pub returns-then-ne-clause-makes : goal.returns-then-ne-clause-makes
returns-then-ne-clause-makes g c = (compared_good _ _ _ c.requires _ c.loop-try.invariant (omega arith) _ c.in_ok-found.found c.in_ok-found.ensures.step (differs_true the_type _ _ (sym c.if-ne.ensures))).makes

pub loop-try-preserved : goal.loop-try-preserved
loop-try-preserved g c = compared_again _ _ _ c.requires _ c.loop-try.invariant (omega arith) _ c.in_ok-found.found c.in_ok-found.ensures.step (differs_false the_type tt _ _ (sym c.if-ne.ensures))

pub loop-try-init : goal.loop-try-init
loop-try-init g c = subst (λ d. Looking (g.D.PhysDisk.state c.args.self.now) c.args.p 0 (g.D.PhysDisk.state d)) (sym c.self.view_is) (looking_first _ _)

pub returns-clause-got : goal.returns-clause-got
returns-clause-got g c = (look_none _ _ _ _ (omega arith) (g.met.D.PhysDisk.few_fails _ _) c.loop-try.invariant).got

pub returns-clause-makes : goal.returns-clause-makes
returns-clause-makes g c = (look_none _ _ _ _ (omega arith) (g.met.D.PhysDisk.few_fails _ _) c.loop-try.invariant).makes
