use Rattle.jn_system_settling.proofs.Common.{opening_course}
use Rattle.jn_system_settling.proofs.Settling.Settling.{on-world, course-is}
use Rattle.jn_system_settling.proofs.courses.courses_are_runs.Goals as goal

pub returns-clause-world : goal.returns-clause-world
returns-clause-world c = λ servers files epochs steps. on-world steps (opening_course servers files epochs)

pub returns-clause-steps : goal.returns-clause-steps
returns-clause-steps c = course-is
