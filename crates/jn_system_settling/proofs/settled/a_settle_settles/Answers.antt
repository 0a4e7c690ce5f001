use Rattle.jn_system_settling.proofs.Common.{opening_course, go_on}
use Rattle.jn_system_settling.proofs.AtRest.Settling.{course-talking}
use Rattle.jn_system_settling.proofs.AtRest.Decided.{settle-settles}
use Rattle.jn_system_settling.proofs.settled.a_settle_settles.Goals as goal

pub returns : goal.returns
returns c = λ servers files epochs steps few is first second.
    settle-settles servers few files epochs first second (go_on steps (opening_course servers files epochs)) (course-talking servers few files epochs steps is)
