-- Concrete frames and faults, computed.
use Rattle.std.proofs.Common.{refl}
unfoldable use Rattle.jn_fields.specs.Names.{tid_at, work_at}
unfoldable use Rattle.jn_fields.specs.Reading.{number_at}
use Rattle.jn_wire.specs.Fields.{block, byte, client, file, number, operation, request, sender, tid, work}
use Rattle.jn_wire.specs.Spelling.{frame_bytes}
use Rattle.jn_wire.specs.Decoding.{any_body, begin_by, client_body, decode, op, op_by, op_of, thanks_by}
use Rattle.jn_wire.specs.Examples.{ExamplesAreWritten, FaultsHaveNumbers, StreamStops}

pub written : ExamplesAreWritten
unfolding frame_bytes
written = record { begin = refl; begun = refl; nudged = refl }

pub numbers : FaultsHaveNumbers
unfolding decode client_body begin_by thanks_by op_by any_body op op_of sender client request tid work operation file block number byte tid_at work_at number_at
numbers = record {
  none = refl;
  cut_off = λ result after ends. ends.0;
  short = refl;
  long = refl;
  field_short = refl;
  name_short = refl;
  no_party = refl;
  other_server = refl;
  wrong_sender = refl;
  kind = refl;
  party_first = refl;
  client_first = refl;
  field_first = refl;
  past_last_block = refl;
  other_client = refl;
}

pub stops : StreamStops
unfolding decode any_body
stops = refl
