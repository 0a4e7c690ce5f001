use Rattle.jn_system_settling.proofs.Common.{opening, opening_course, go_on}
use Rattle.jn_system_settling.proofs.Settling.Settling.{course-sound, settle-ends}
use Rattle.jn_system_settling.proofs.courses.settling_ends.Goals as goal

pub returns : goal.returns
returns c = λ servers files epochs steps few is first second.
    settle-ends servers few (opening servers files epochs) first second (go_on steps (opening_course servers files epochs)) (course-sound servers few files epochs steps is)
