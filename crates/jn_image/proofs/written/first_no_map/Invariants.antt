use Rattle.jn_image.proofs.Common.{ℕ, ◌<◌, seen, IsMapWhereNamed}
use Rattle.jn_image.proofs.written.first_no_map.Given as goal

abbrev pub invariant-loop-i : goal.invariant-loop-i
invariant-loop-i l = (k : ℕ) → k < l.i → IsMapWhereNamed (seen l.image) l.named k
