use Rattle.jn_system_settling.proofs.Common.{opening, opening_course, go_on}
use Rattle.jn_system_settling.proofs.Settling.Asking.{settle-bounded}
use Rattle.jn_system_settling.proofs.Settling.Settling.{course-sound}
use Rattle.jn_system_settling.proofs.courses.settling_is_bounded.Goals as goal

pub returns : goal.returns
returns c = λ servers files epochs steps few is chances.
    settle-bounded servers few (opening servers files epochs) chances (go_on steps (opening_course servers files epochs)) (course-sound servers few files epochs steps is)
