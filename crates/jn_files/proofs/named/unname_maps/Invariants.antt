use Rattle.jn_files.proofs.Common.{◌≡◌, drop, AreFree, unnamed_maps}
use Rattle.jn_files.proofs.named.unname_maps.Given as goal

abbrev pub invariant-loop-j : goal.invariant-loop-j
invariant-loop-j l = record {
  kept : AreFree l.held l.named.items l.free;
  rest : unnamed_maps l.maps (drop l.j l.addresses) l.named.items ≡ unnamed_maps l.maps (drop l.from l.addresses) l.fn.named.items;
  promised : l.free.promised ≡ l.fn.free.promised;
}
