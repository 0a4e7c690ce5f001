use Rattle.jn_wrong.proofs.Differing.{other-bytes}
use Rattle.jn_wrong.proofs.new.other_bytes_before_an_abort_are_none.Goals as goal

pub returns : goal.returns
returns c = other-bytes
