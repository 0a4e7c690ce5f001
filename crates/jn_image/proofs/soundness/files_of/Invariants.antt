use Rattle.jn_image.proofs.Common.{◌≡◌, ◌++◌, drop, map, head_file_number}
use Rattle.jn_image.proofs.soundness.files_of.Given as goal

abbrev pub invariant-loop-head : goal.invariant-loop-head
invariant-loop-head l = l.files.items ++ map (λ h. head_file_number h) (drop l.head-index l.heads) ≡ map (λ h. head_file_number h) l.heads
