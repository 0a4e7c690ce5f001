use Rattle.jn_wrong.proofs.Refuted.{bytes}
use Rattle.jn_wrong.proofs.an_answer_with_other_bytes_is_none.Goals as goal

pub returns : goal.returns
returns c = bytes
