use Rattle.jn_schedule.specs.declared.Event.TheVariants as events
use Rattle.jn_world_refines.proofs.RestNext.{next-delivers, next-works, rest-next}
use Rattle.jn_world_refines.proofs.settling.a_rest_does_what_is_next.Goals as goal

pub returns-clause-delivers : goal.returns-clause-delivers
returns-clause-delivers g c = λ x w m stand rests k waits. rest-next _ _ g.met.S.Powered.seen x w m stand rests (events.Deliver k) (next-delivers _ _ g.met.S.Powered.seen x w m stand k waits)

pub returns-clause-works : goal.returns-clause-works
returns-clause-works g c = λ x w m stand rests none q place at reads busy idle. rest-next _ _ g.met.S.Powered.seen x w m stand rests (events.Step q) (next-works _ _ g.met.S.Powered.seen x w m stand none q place at reads busy idle)
