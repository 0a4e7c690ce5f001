use Rattle.jn_calls.proofs.Exchanging.{is-its-call}
use Rattle.jn_calls.proofs.laws.an_exchange_is_its_call.Goals as goal

pub returns : goal.returns
returns c = λ call files os reply fits answer exchange. is-its-call call files os reply fits answer exchange
