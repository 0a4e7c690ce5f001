use Rattle.jn_image.proofs.Common.{AreNoted}
use Rattle.jn_image.proofs.repeats.least_repeated.Given as goal

abbrev pub invariant-loop-value : goal.invariant-loop-value
invariant-loop-value l = AreNoted l.values l.value-index l.seen l.least
