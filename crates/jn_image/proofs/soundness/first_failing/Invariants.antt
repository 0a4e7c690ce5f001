use Rattle.jn_image.proofs.Common.{ℕ, ◌<◌, RuleHolds, seen}
use Rattle.jn_image.proofs.soundness.first_failing.Given as goal

abbrev pub invariant-loop-i : goal.invariant-loop-i
invariant-loop-i l = (k : ℕ) → k < l.i → RuleHolds (seen l.image) l.rule k
