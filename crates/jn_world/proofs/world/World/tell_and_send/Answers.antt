use Rattle.jn_world.proofs.Exits.{ends-memory, ends-again}
use Rattle.std.proofs.Common.{ℕ}
use Rattle.jn_world.proofs.world.World.tell_and_send.Goals as goal

pub returns-in_err-tell-clause-ends : goal.returns-in_err-tell-clause-ends
returns-in_err-tell-clause-ends g c = ends-memory c.from_residual.result _ _ _ _ _ c.from_residual.ensures.0 c.from_residual.ensures.1

pub returns-in_err-send-clause-ends : goal.returns-in_err-send-clause-ends
returns-in_err-send-clause-ends g c = ends-again ℕ c.in_err-send.field-0.0 c.from_residual-in_err-send.result _ _ c.tell.new.lines.items _ c.send.new.lines.items _ _ c.from_residual-in_err-send.ensures.0 c.from_residual-in_err-send.ensures.1 (let e = c.in_err-send.ensures in e.ends)

pub returns-in_err-append-clause-ends : goal.returns-in_err-append-clause-ends
returns-in_err-append-clause-ends g c = ends-memory c.from_residual-in_err-append.result _ _ _ _ _ c.from_residual-in_err-append.ensures.0 c.from_residual-in_err-append.ensures.1
