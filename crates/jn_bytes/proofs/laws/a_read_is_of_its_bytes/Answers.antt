use Rattle.jn_bytes.proofs.After.{read-is}
use Rattle.jn_bytes.proofs.laws.a_read_is_of_its_bytes.Goals as goal

pub returns : goal.returns
returns c = read-is
