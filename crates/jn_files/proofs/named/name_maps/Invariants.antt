use Rattle.jn_files.proofs.Common.{◌≡◌, length, drop, named_maps}
use Rattle.jn_files.proofs.named.name_maps.Given as goal

abbrev pub invariant-loop-j : goal.invariant-loop-j
invariant-loop-j l = record {
  long : length l.named.items ≡ length l.fn.named.items;
  rest : named_maps l.maps (drop l.j l.addresses) l.named.items ≡ named_maps l.maps l.addresses l.fn.named.items;
}
