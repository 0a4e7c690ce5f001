use Rattle.jn_run.proofs.Common.{◌≡◌, ◌≤◌, ◌-◌, length, prepend_known}
use Rattle.jn_run.proofs.reading.read_all.Given as goal

abbrev pub invariant-loop-piece : goal.invariant-loop-piece
invariant-loop-piece g l = record {
  room : length l.piece ≡ 4096;
  fits : length l.bytes.items ≤ 4194305;
  given : g.S.Source.left l.fn.source ≡ prepend_known l.bytes.items (g.S.Source.left l.source);
  count : g.S.Source.faults l.source ≡ g.S.Source.faults l.fn.source;
}

abbrev pub decreases-loop-piece : goal.decreases-loop-piece
decreases-loop-piece g l = 4194305 - length l.bytes.items
