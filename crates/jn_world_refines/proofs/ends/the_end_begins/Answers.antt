use Rattle.jn_world_refines.proofs.Dismissing.{dismissed-step}
use Rattle.jn_world_refines.proofs.ends.the_end_begins.Goals as goal

pub returns : goal.returns
returns g c = λ x w m h places disarms lines next. dismissed-step _ _ x w m h places disarms lines next
