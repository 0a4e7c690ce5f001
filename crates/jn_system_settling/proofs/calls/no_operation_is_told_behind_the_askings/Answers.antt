use Rattle.jn_system_settling.proofs.Common.{servers_from, opening_course, go_on}
use Rattle.jn_system_settling.proofs.AtRest.Settling.{course-talking}
use Rattle.jn_system_settling.proofs.AtRest.OnTheWay.{on-their-way}
use Rattle.jn_system_settling.proofs.AtRest.Behind.{none-is-told}
use Rattle.jn_system_settling.proofs.calls.no_operation_is_told_behind_the_askings.Goals as goal

pub returns : goal.returns
returns c = λ servers files epochs steps few is rests more h.
    none-is-told servers few files epochs (go_on steps (opening_course servers files epochs)) (course-talking servers few files epochs steps is) (on-their-way servers few files epochs steps is) rests (servers_from 0 servers) more h
