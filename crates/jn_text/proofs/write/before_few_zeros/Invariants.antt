use Rattle.std.proofs.Common.{◌≡◌, ◌≤◌, length, take}
use Rattle.jn_text.specs.Words.{without_end_zeros}
use Rattle.jn_text.proofs.write.before_few_zeros.Given as goal

abbrev pub invariant-loop-used : goal.invariant-loop-used
invariant-loop-used l = record {
  within : l.used ≤ length l.bytes;
  same : without_end_zeros (take l.used l.bytes) ≡ without_end_zeros l.bytes;
}

abbrev pub decreases-loop-used : goal.decreases-loop-used
decreases-loop-used l = l.used
