use Rattle.jn_wrong.proofs.Refuted.{no-loss}
use Rattle.jn_wrong.proofs.a_loss_of_what_was_not_opened_is_none.Goals as goal

pub returns : goal.returns
returns c = no-loss
