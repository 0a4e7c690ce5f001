use Rattle.std.proofs.Common.{◌≡◌, ◌≤◌, ◌+◌, length}
use Rattle.jn_wire.specs.Unframing.{in_front, nothing_held, unframed}
use Rattle.jn_wire.proofs.unframer.Receiver.give_all.Given as goal

abbrev pub invariant-loop-frame : goal.invariant-loop-frame
invariant-loop-frame l = record {
  same : in_front l.out.items (unframed l.self.server (nothing_held l.at) l.rest) ≡ in_front l.fn.out.items (unframed l.self.server (nothing_held l.fn.at) l.bytes);
  place : l.at + length l.rest ≡ l.fn.at + length l.bytes;
  kept : length l.fn.out.items ≤ length l.out.items;
}

abbrev pub decreases-loop-frame : goal.decreases-loop-frame
decreases-loop-frame l = length l.rest
