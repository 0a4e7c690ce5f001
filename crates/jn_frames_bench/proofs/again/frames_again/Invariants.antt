use Rattle.std.proofs.Common.{◌≡◌, ◌+◌, ◌<◌, length}
use Rattle.jn_frames_bench.proofs.again.frames_again.Given as goal

abbrev pub invariant-loop-rest : goal.invariant-loop-rest
invariant-loop-rest l = record {
  size : 0 < l.size;
  place : l.unframer.held.at + length l.unframer.held.bytes + length l.rest ≡ length l.fn.data;
}

abbrev pub decreases-loop-rest : goal.decreases-loop-rest
decreases-loop-rest l = length l.rest
