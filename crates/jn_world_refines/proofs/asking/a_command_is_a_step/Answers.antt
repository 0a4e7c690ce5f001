use Rattle.jn_world_refines.proofs.Commands.{told-step, asked-step}
use Rattle.jn_world_refines.proofs.asking.a_command_is_a_step.Goals as goal

pub returns-clause-told : goal.returns-clause-told
returns-clause-told g c = λ x w m stand c is t at. told-step _ _ g.met.S.Powered.seen x w m stand c is t at

pub returns-clause-again : goal.returns-clause-again
returns-clause-again g c = λ x w m stand c is t at. asked-step _ _ g.met.S.Powered.seen x w m stand c is t at
