use Rattle.std.proofs.Common.{arith, refl, sym, ◌∙◌, subst}
use Rattle.jn_careful.proofs.Get.{look_again, look_good, look_none, looking_first, read_err, Looking}
use Rattle.jn_careful.proofs.Careful.get.Goals as goal

pub returns-in_err-get-clause-got : goal.returns-in_err-get-clause-got
returns-in_err-get-clause-got g c = (read_err _ _ _ c.requires _ c.loop-try.invariant.looking (omega arith) _ c.in_err-get.field-0.0 c.in_err-get.ensures.step c.from_residual.result c.from_residual.ensures.0 _).got

pub returns-in_err-get-clause-makes : goal.returns-in_err-get-clause-makes
returns-in_err-get-clause-makes g c = (read_err _ _ _ c.requires _ c.loop-try.invariant.looking (omega arith) _ c.in_err-get.field-0.0 c.in_err-get.ensures.step c.from_residual.result c.from_residual.ensures.0 _).makes

pub returns-then-branch-clause-got : goal.returns-then-branch-clause-got
returns-then-branch-clause-got g c = (look_good _ _ _ c.requires _ c.loop-try.invariant.looking _ _ (rw c.if-branch.true at c.in_ok-get.ensures.step) _ (omega arith) refl).got

pub returns-then-branch-clause-makes : goal.returns-then-branch-clause-makes
returns-then-branch-clause-makes g c = (look_good _ _ _ c.requires _ c.loop-try.invariant.looking _ _ (rw c.if-branch.true at c.in_ok-get.ensures.step) _ (omega arith) refl).makes

pub loop-try-preserved : goal.loop-try-preserved
loop-try-preserved g c = record {
  looking = look_again _ _ _ c.requires _ c.loop-try.invariant.looking _ _ (rw c.if-branch.false at c.in_ok-get.ensures.step) refl;
  kept = (rw c.if-branch.false at c.in_ok-get.ensures.kept) (λ h. cc h) ∙ c.loop-try.invariant.kept;
}

pub loop-try-init : goal.loop-try-init
loop-try-init g c = record { looking = subst (λ d. Looking (g.D.PhysDisk.state c.args.self.now) c.args.p 0 (g.D.PhysDisk.state d)) (sym c.self.view_is) (looking_first _ _); kept = refl }

pub returns-clause-got : goal.returns-clause-got
returns-clause-got g c = (look_none _ _ _ _ (omega arith) (g.met.D.PhysDisk.few_fails _ _) c.loop-try.invariant.looking).got

pub returns-clause-makes : goal.returns-clause-makes
returns-clause-makes g c = (look_none _ _ _ _ (omega arith) (g.met.D.PhysDisk.few_fails _ _) c.loop-try.invariant.looking).makes
