use Rattle.jn_world_refines.proofs.RestNext.{next-none, rest-over-step}
use Rattle.jn_world_refines.proofs.settling.a_rest_is_over.Goals as goal

pub returns : goal.returns
returns g c = λ x w m stand rests none idle. rest-over-step _ _ g.met.S.Powered.seen x w m stand rests (next-none _ _ g.met.S.Powered.seen x w m stand none idle)
