use Rattle.jn_bytes.proofs.Exchanging.{each-call}
use Rattle.jn_bytes.proofs.laws.an_exchange_is_its_call.Goals as goal

pub returns : goal.returns
returns c = λ call files os reply fits agrees follows. (each-call call files fits).each os reply agrees follows
