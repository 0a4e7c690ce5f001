use Rattle.jn_image.proofs.Common.{seen}
use Rattle.jn_image.proofs.Exclusive.{tells_sound, tells_only, tells_fault, tells_first}
use Rattle.jn_image.proofs.soundness.check.Goals as goal

pub returns : goal.returns
returns c = record {
  sound = tells_sound c.args.server (seen c.args.image.now) c.look.result c.look.ensures;
  only = tells_only c.args.server (seen c.args.image.now) c.look.result c.look.ensures;
  fault = tells_fault c.args.server (seen c.args.image.now) c.look.result c.look.ensures;
  first = tells_first c.args.server (seen c.args.image.now) c.look.result c.look.ensures;
}
