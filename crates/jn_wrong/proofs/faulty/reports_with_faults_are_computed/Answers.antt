use Rattle.jn_wrong.proofs.Rightly.{once-computed, both-computed, scrubbed-computed, power-computed, restarted-computed, two-computed, far-computed}
use Rattle.jn_wrong.proofs.faulty.reports_with_faults_are_computed.Goals as goal

pub returns-clause-decay : goal.returns-clause-decay
returns-clause-decay c = once-computed

pub returns-clause-both_halves : goal.returns-clause-both_halves
returns-clause-both_halves c = both-computed

pub returns-clause-scrub : goal.returns-clause-scrub
returns-clause-scrub c = scrubbed-computed

pub returns-clause-power : goal.returns-clause-power
returns-clause-power c = power-computed

pub returns-clause-restart : goal.returns-clause-restart
returns-clause-restart c = restarted-computed

pub returns-clause-two_faults : goal.returns-clause-two_faults
returns-clause-two_faults c = two-computed

pub returns-clause-far_off : goal.returns-clause-far_off
returns-clause-far_off c = far-computed
