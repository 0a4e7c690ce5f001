use Rattle.jn_image.proofs.Common.{take_rest}
use Rattle.jn_image.proofs.reading.behind_half.Goals as goal

pub returns : goal.returns
returns c = take_rest c.args.pages.now 513
