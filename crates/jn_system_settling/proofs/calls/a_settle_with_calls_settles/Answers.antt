use Rattle.jn_system_settling.proofs.Common.{servers_from, opening_course, go_on}
use Rattle.jn_system_settling.proofs.AtRest.Settling.{course-talking}
use Rattle.jn_system_settling.proofs.AtRest.OnTheWay.{on-their-way, on-way}
use Rattle.jn_system_settling.proofs.AtRest.WithCalls.{told-run, settles-told}
use Rattle.jn_system_settling.proofs.calls.a_settle_with_calls_settles.Goals as goal

pub returns : goal.returns
returns c = λ servers files epochs steps few is one two first second up.
    let good = course-talking servers few files epochs steps is in
    settles-told servers few files epochs (go_on steps (opening_course servers files epochs)) good one two first second
    (on-way servers few files epochs one (go_on steps (opening_course servers files epochs)) good (told-run (servers_from 0 servers) one (go_on steps (opening_course servers files epochs)) first.each) (on-their-way servers few files epochs steps is)) up
