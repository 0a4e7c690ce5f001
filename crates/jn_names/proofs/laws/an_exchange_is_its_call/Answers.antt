use Rattle.jn_names.proofs.Exchanging.{each-call}
use Rattle.jn_names.proofs.laws.an_exchange_is_its_call.Goals as goal

pub returns : goal.returns
returns c = λ command files os reply answered exchange. (each-call command files).each os reply answered exchange
