use Rattle.jn_wrong.proofs.Refuted.{too-soon}
use Rattle.jn_wrong.proofs.an_answer_before_its_command_is_none.Goals as goal

pub returns : goal.returns
returns c = too-soon
