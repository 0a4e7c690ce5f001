use Rattle.std.proofs.Common.{rules, arith}
use Rattle.jn_coord.proofs.ClosingLemmas.{closes-none, step-on, step-stopped}
use Rattle.jn_coord.proofs.coordinator.Coordinator.close.Goals as goal

pub loop-closed-init : goal.loop-closed-init
loop-closed-init g c = (closes-none _ _ _ c.requires.fits, omega arith)

pub returns-in-Err : goal.returns-in-Err
returns-in-Err g c = step-stopped c.args.who _ c.loop-closed.self c.close_next.new.self _ (g.F.Storage.view c.loop-closed.store) _ c.close_next.result c.in-Err.field-0 c.loop-closed.invariant.0 c.close_next.ensures c.in-Err.is

pub loop-closed-preserved : goal.loop-closed-preserved
loop-closed-preserved g c = let h = step-on c.args.who _ c.loop-closed.self c.close_next.new.self _ (g.F.Storage.view c.loop-closed.store) _ c.close_next.result c.in-Ok.more c.loop-closed.invariant.0 c.close_next.ensures c.in-Ok.is (search rules) in (h.0, omega (arith, h.1, c.loop-closed.invariant.1))
