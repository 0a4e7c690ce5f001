use Rattle.jn_wire.proofs.Computed.{numbers}
use Rattle.jn_wire.proofs.examples.faults_have_numbers.Goals as goal

pub returns : goal.returns
returns c = numbers
