use Rattle.jn_image.proofs.Common.{◌≡◌, ℕ, ◌<◌, None, get_or, vec_len, IsHeadAt, seen}
use Rattle.jn_image.proofs.soundness.heads_of.Given as goal

abbrev pub invariant-loop-i : goal.invariant-loop-i
invariant-loop-i l = record {
  len : vec_len l.heads ≡ l.i;
  each : (k : ℕ) → k < l.i → IsHeadAt (seen l.image) k (get_or l.heads.items k None);
}
