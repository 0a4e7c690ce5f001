use Rattle.jn_world_refines.proofs.WaitingNumbers.{carries-first, carries-step, carries-forgotten}
use Rattle.jn_world_refines.proofs.waiting.a_network_goes_with_its_course.Goals as goal

pub returns-clause-first : goal.returns-clause-first
returns-clause-first c = carries-first

pub returns-clause-steps : goal.returns-clause-steps
returns-clause-steps c = carries-step

pub returns-clause-forgotten : goal.returns-clause-forgotten
returns-clause-forgotten c = carries-forgotten
