use Rattle.std.proofs.Common.{◌≡◌, ◌↔◌, length, drop}
use Rattle.jn_replay.proofs.comparing.are_same_entries.Given as goal

abbrev pub invariant-loop-i : goal.invariant-loop-i
invariant-loop-i l = record {
  same : (l.a ≡ l.b) ↔ (drop l.i l.a ≡ drop l.i l.b);
  long : length l.a ≡ length l.b;
}
