use Rattle.jn_text.proofs.Numbers.{number_is_one}
use Rattle.jn_text.proofs.read.one_number_stands_at_a_place.Goals as goal

pub returns : goal.returns
returns c = λ bytes start limit m n e f small a b. number_is_one bytes start limit m n e f small a b
