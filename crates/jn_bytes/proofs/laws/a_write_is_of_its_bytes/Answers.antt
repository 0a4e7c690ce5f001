use Rattle.jn_bytes.proofs.After.{write-is}
use Rattle.jn_bytes.proofs.laws.a_write_is_of_its_bytes.Goals as goal

pub returns : goal.returns
returns c = write-is
