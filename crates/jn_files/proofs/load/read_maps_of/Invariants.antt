use Rattle.jn_files.proofs.Common.{counts_of, IsMapOfHead, MapsCleaned, MapsMended, MapsRead, KeepsPower}
use Rattle.jn_files.proofs.Loading.{maps_to}
use Rattle.jn_files.proofs.load.read_maps_of.Given as goal

abbrev pub invariant-loop-j : goal.invariant-loop-j
invariant-loop-j g l = record {
  cleaned : MapsCleaned (counts_of l.root) (λ d. IsMapOfHead l.slot l.j d) (maps_to l.slot l.j) (g.S.StableStore.view l.fn.store) (g.S.StableStore.view l.store);
  read : MapsRead (counts_of l.root) (λ d. IsMapOfHead l.slot l.j d) (g.S.StableStore.view l.fn.store) l.fn.maps (g.S.StableStore.view l.store) l.maps;
  mended : MapsMended (counts_of l.root) (λ d. IsMapOfHead l.slot l.j d) (g.S.StableStore.view l.fn.store) (g.S.StableStore.view l.store);
  served : KeepsPower (g.S.StableStore.view l.fn.store) (g.S.StableStore.view l.store);
}
