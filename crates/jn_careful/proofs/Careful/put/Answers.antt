use Rattle.jn_careful.proofs.Common.{subst, arith, sym, same_true, same_false, the_type}
use Rattle.jn_careful.proofs.Put.{compared_err, compared_same, compared_unlike, putting_first, Putting}
use Rattle.jn_careful.proofs.Careful.put.Goals as goal

pub returns-in_err-found : goal.returns-in_err-found
returns-in_err-found g c = let done = compared_err _ _ _ _ c.requires _ c.loop-try.invariant (omega arith) _ c.in_err-found.field-0.0 c.in_err-found.ensures c.from_residual.result c.from_residual.ensures.0 in record { put = done.put; makes = done.makes }

pub returns-then-eq : goal.returns-then-eq
returns-then-eq g c = let done = compared_same _ _ _ _ c.requires _ c.loop-try.invariant (omega arith) _ c.in_ok-found.found c.in_ok-found.ensures (same_true the_type tt _ _ (sym c.if-eq.ensures)) in record { put = done.put; makes = done.makes }

pub loop-try-preserved : goal.loop-try-preserved
loop-try-preserved g c = compared_unlike _ _ _ _ c.requires _ c.loop-try.invariant (omega arith) _ c.in_ok-found.found c.in_ok-found.ensures (same_false the_type _ _ (sym c.if-eq.ensures))

pub loop-try-init : goal.loop-try-init
loop-try-init g c = subst (λ d. Putting (g.D.PhysDisk.state c.args.self.now) c.args.p c.args.page.now 0 (g.D.PhysDisk.state d)) (sym c.self.view_is) (putting_first _ _ _)
