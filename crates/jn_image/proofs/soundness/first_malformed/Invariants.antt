use Rattle.jn_image.proofs.Common.{ℕ, ◌<◌, IsRead}
use Rattle.jn_image.proofs.soundness.first_malformed.Given as goal

abbrev pub invariant-loop-i : goal.invariant-loop-i
invariant-loop-i l = (k : ℕ) → k < l.i → IsRead l.heads k
