use Rattle.jn_wire.proofs.Streams.{frame-spelled}
use Rattle.jn_wire.proofs.laws.no_other_bytes_are_read.Goals as goal

pub returns : goal.returns
returns c = frame-spelled
