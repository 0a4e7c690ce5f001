use Rattle.jn_world.proofs.Exits.{ends-memory}
use Rattle.jn_world.proofs.world.World.end_step.Goals as goal

pub returns-in_err-append-clause-ends :
    goal.returns-in_err-append-clause-ends
returns-in_err-append-clause-ends g c =
    ends-memory c.from_residual-in_err-append.result _ _ _ _ _ c.from_residual-in_err-append.ensures.0 c.from_residual-in_err-append.ensures.1
