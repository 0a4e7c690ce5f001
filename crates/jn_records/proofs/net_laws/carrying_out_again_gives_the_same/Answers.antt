use Rattle.jn_records.proofs.CarriedLemmas.{like-again}
use Rattle.jn_records.proofs.net_laws.carrying_out_again_gives_the_same.Goals as goal

pub returns : goal.returns
returns c = λ list a b like. like-again list b a like
