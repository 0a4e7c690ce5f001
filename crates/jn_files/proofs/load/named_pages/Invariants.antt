use Rattle.std.proofs.Common.{◌≡◌, length}
use Rattle.jn_files.proofs.Naming.{NamedBefore}
use Rattle.jn_files.proofs.load.named_pages.Given as goal

abbrev pub invariant-loop-slot : goal.invariant-loop-slot
invariant-loop-slot l = record {
  so_many : length l.named.items ≡ l.leaves;
  before : NamedBefore l.maps l.slots l.slot-index l.named.items;
}
