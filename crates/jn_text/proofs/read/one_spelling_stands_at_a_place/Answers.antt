use Rattle.jn_text.proofs.HexDigits.{hex_is_one}
use Rattle.jn_text.proofs.read.one_spelling_stands_at_a_place.Goals as goal

pub returns : goal.returns
returns c = λ bytes start c d e f a b. hex_is_one bytes start c d e f a b
