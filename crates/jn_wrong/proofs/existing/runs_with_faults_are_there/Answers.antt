use Rattle.jn_wrong.proofs.OneRun.{once-one, both-one, scrubbed-one, power-one, restarted-one, two-one, far-one}
use Rattle.jn_wrong.proofs.existing.runs_with_faults_are_there.Goals as goal

pub returns-clause-decay : goal.returns-clause-decay
returns-clause-decay c = once-one

pub returns-clause-both_halves : goal.returns-clause-both_halves
returns-clause-both_halves c = both-one

pub returns-clause-scrub : goal.returns-clause-scrub
returns-clause-scrub c = scrubbed-one

pub returns-clause-power : goal.returns-clause-power
returns-clause-power c = power-one

pub returns-clause-restart : goal.returns-clause-restart
returns-clause-restart c = restarted-one

pub returns-clause-two_faults : goal.returns-clause-two_faults
returns-clause-two_faults c = two-one

pub returns-clause-far_off : goal.returns-clause-far_off
returns-clause-far_off c = far-one
