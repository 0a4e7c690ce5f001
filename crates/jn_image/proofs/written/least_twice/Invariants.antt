use Rattle.jn_image.proofs.Common.{ℕ, ◌<◌, IsNotTwice}
use Rattle.jn_image.proofs.written.least_twice.Given as goal

abbrev pub invariant-loop-i : goal.invariant-loop-i
invariant-loop-i l = (k : ℕ) → k < l.i → IsNotTwice l.leaves l.times k
