use Rattle.jn_wire.proofs.Streams.{stream-back}
use Rattle.jn_wire.proofs.laws.streams_are_read_back.Goals as goal

pub returns : goal.returns
returns c = stream-back
