use Rattle.jn_world.proofs.Exits.{ends-memory, ends-unsent}
use Rattle.jn_world.proofs.Sending.{over-limit}
use Rattle.std.proofs.Common.{◌∙◌, ap, Err}
use Rattle.jn_world.proofs.world.World.post.Goals as goal

pub returns-in_err-k-clause-ends : goal.returns-in_err-k-clause-ends
returns-in_err-k-clause-ends g c =
    ends-unsent c.in_err-k.field-0.0 c.from_residual.result _ _ _ _ (λ e. over-limit c.args.self.now.net.sent _ (c.send.ensures.limit.0 (c.in_err-k.was ∙ ap (λ f. Err f) e))) c.from_residual.ensures.0 c.from_residual.ensures.1

pub returns-in_err-tell-clause-ends : goal.returns-in_err-tell-clause-ends
returns-in_err-tell-clause-ends g c = ends-memory c.from_residual-in_err-tell.result _ _ _ _ _ c.from_residual-in_err-tell.ensures.0 c.from_residual-in_err-tell.ensures.1
