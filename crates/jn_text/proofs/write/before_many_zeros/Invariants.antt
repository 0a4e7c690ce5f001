use Rattle.std.proofs.Common.{◌≡◌, length}
use Rattle.jn_text.specs.Words.{without_end_zeros}
use Rattle.jn_text.proofs.write.before_many_zeros.Given as goal

abbrev pub invariant-loop-before : goal.invariant-loop-before
invariant-loop-before l = without_end_zeros l.used ≡ without_end_zeros l.bytes

abbrev pub decreases-loop-before : goal.decreases-loop-before
decreases-loop-before l = length l.used
