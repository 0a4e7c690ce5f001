use Rattle.jn_system_settling.proofs.Common.{opening, opening_course, go_on}
use Rattle.jn_system_settling.proofs.Settling.Settling.{course-sound}
use Rattle.jn_system_settling.proofs.Settling.BoundedLoops.{both-bounded}
use Rattle.jn_system_settling.proofs.rests.settling_is_bounded_anyhow.Goals as goal

pub returns : goal.returns
returns c = λ servers files epochs steps one two few is first second.
    both-bounded servers few (opening servers files epochs) one two (go_on steps (opening_course servers files epochs)) (course-sound servers few files epochs steps is) first second
