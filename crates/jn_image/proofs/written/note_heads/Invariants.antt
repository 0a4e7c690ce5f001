use Rattle.jn_image.proofs.Common.{◌≡◌, drop, heads_noted}
use Rattle.jn_image.proofs.written.note_heads.Given as goal

abbrev pub invariant-loop-head : goal.invariant-loop-head
invariant-loop-head l = heads_noted l.times.items (drop l.head-index l.heads) ≡ heads_noted l.fn.times.items l.heads
