use Rattle.jn_wrong.proofs.Epochs.{rise}
use Rattle.jn_wrong.proofs.telling.epochs_rise_from_those_of_the_images.Goals as goal

pub returns : goal.returns
returns c = rise
