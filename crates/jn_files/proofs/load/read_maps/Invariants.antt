use Rattle.jn_files.proofs.Common.{counts_of, IsMapOfHeads, MapsCleaned, MapsHeld, MapsMended, KeepsPower}
use Rattle.jn_files.proofs.Loading.{heads_to}
use Rattle.jn_files.proofs.load.read_maps.Given as goal

abbrev pub invariant-loop-slot : goal.invariant-loop-slot
invariant-loop-slot g l = record {
  cleaned : MapsCleaned (counts_of l.root) (λ d. IsMapOfHeads l.slots l.slot-index d) (heads_to l.slots l.slot-index) (g.S.StableStore.view l.fn.store) (g.S.StableStore.view l.store);
  held : MapsHeld (counts_of l.root) (λ d. IsMapOfHeads l.slots l.slot-index d) l.maps (g.S.StableStore.view l.store);
  mended : MapsMended (counts_of l.root) (λ d. IsMapOfHeads l.slots l.slot-index d) (g.S.StableStore.view l.fn.store) (g.S.StableStore.view l.store);
  served : KeepsPower (g.S.StableStore.view l.fn.store) (g.S.StableStore.view l.store);
}
