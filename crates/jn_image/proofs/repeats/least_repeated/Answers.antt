use Rattle.jn_image.proofs.Repeated.{all_noted}
use Rattle.jn_image.proofs.repeats.least_repeated.Goals as goal

pub returns : goal.returns
returns c = all_noted c.args.values.now c.loop-value.value-index c.loop-value.seen c.loop-value.least c.loop-value-test.false c.loop-value.invariant
