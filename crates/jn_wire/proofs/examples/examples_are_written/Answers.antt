use Rattle.jn_wire.proofs.Computed.{written}
use Rattle.jn_wire.proofs.examples.examples_are_written.Goals as goal

pub returns : goal.returns
returns c = written
