use Rattle.jn_wrong.proofs.Differing.{skipped}
use Rattle.jn_wrong.proofs.new.a_skipped_epoch_is_none.Goals as goal

pub returns : goal.returns
returns c = skipped
