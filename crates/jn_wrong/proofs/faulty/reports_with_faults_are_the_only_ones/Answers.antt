use Rattle.jn_wrong.proofs.FarOff.{far-only}
use Rattle.jn_wrong.proofs.OneServer.{once-only, both-only, scrubbed-only}
use Rattle.jn_wrong.proofs.Forgiven.{power-only}
use Rattle.jn_wrong.proofs.Restarted.{restarted-only}
use Rattle.jn_wrong.proofs.Waiting.{two-only}
use Rattle.jn_wrong.proofs.faulty.reports_with_faults_are_the_only_ones.Goals as goal

pub returns-clause-decay : goal.returns-clause-decay
returns-clause-decay c = once-only

pub returns-clause-both_halves : goal.returns-clause-both_halves
returns-clause-both_halves c = both-only

pub returns-clause-scrub : goal.returns-clause-scrub
returns-clause-scrub c = scrubbed-only

pub returns-clause-power : goal.returns-clause-power
returns-clause-power c = power-only

pub returns-clause-restart : goal.returns-clause-restart
returns-clause-restart c = restarted-only

pub returns-clause-two_faults : goal.returns-clause-two_faults
returns-clause-two_faults c = two-only

pub returns-clause-far_off : goal.returns-clause-far_off
returns-clause-far_off c = far-only
