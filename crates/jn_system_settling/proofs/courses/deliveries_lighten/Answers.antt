use Rattle.jn_system_settling.proofs.Common.{opening, opening_course, go_on}
use Rattle.jn_system_settling.proofs.Settling.Parts.{next-lightens}
use Rattle.jn_system_settling.proofs.Settling.Settling.{course-sound}
use Rattle.jn_system_settling.proofs.courses.deliveries_lighten.Goals as goal

pub returns : goal.returns
returns c = λ servers files epochs steps few is chance step next.
    next-lightens servers few (opening servers files epochs) chance step (go_on steps (opening_course servers files epochs)) (course-sound servers few files epochs steps is) next
