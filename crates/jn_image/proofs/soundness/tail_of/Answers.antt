use Rattle.jn_image.proofs.Common.{drop, length-drop, arith, take_all}
use Rattle.jn_image.proofs.soundness.tail_of.Goals as goal

pub returns : goal.returns
returns c = let size = c.told-page in take_all 64 (drop 448 c.args.page.now) (omega (arith, length-drop 448 c.args.page.now, size))
