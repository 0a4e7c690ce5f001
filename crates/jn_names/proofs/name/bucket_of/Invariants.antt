use Rattle.std.proofs.Common.{◌≡◌, ◌≤◌, ◌+◌, ◌*◌, length, drop, sum}
use Rattle.jn_names.proofs.name.bucket_of.Given as goal

-- the sum so far with that of the rest is that of all
abbrev pub invariant-loop-byte : goal.invariant-loop-byte
invariant-loop-byte l = record {
  all : l.sum + sum (drop l.byte-index l.name) ≡ sum l.name;
  small : l.sum ≤ 255 * l.byte-index;
  few : length l.name ≤ 64;
}
