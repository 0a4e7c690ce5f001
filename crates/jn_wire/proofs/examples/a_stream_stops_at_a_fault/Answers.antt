use Rattle.jn_wire.proofs.Computed.{stops}
use Rattle.jn_wire.proofs.examples.a_stream_stops_at_a_fault.Goals as goal

pub returns : goal.returns
returns c = stops
