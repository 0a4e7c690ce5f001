use Rattle.jn_run.proofs.Complete.{keeper-left}
use Rattle.jn_run.proofs.laws.a_run_without_images_leaves_the_keeper_alone.Goals as goal

pub returns : goal.returns
returns c = keeper-left
