use Rattle.jn_settles.proofs.Closed.{closed-leaves}
use Rattle.jn_settles.proofs.a_close_of_the_world_leaves_images.Goals as goal

pub returns : goal.returns
returns g c = λ x schedule images m items_of a lines lines' few range h tasks stage same result closes ok. closed-leaves _ x few schedule range images m h lines lines' same items_of a result closes ok
