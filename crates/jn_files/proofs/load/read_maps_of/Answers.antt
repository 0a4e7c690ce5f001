use Rattle.jn_files.proofs.Common.{refl, arith, true, most_maps, counts_of}
use Rattle.jn_files.proofs.Loading.{map_first, pages_still, step_cleaned, whole_cleaned, step_read, step_mended, power_then}
use Rattle.jn_files.proofs.load.read_maps_of.Goals as goal

pub read_map-requires-clause-pages : goal.read_map-requires-clause-pages
read_map-requires-clause-pages g c =
    pages_still (counts_of c.args.root.now) c.args.slot.now c.requires.head (g.S.StableStore.view c.args.store.now) c.requires.fits c.requires.pages c.loop-j.j c.loop-j-test.true
    (g.S.StableStore.view c.loop-j.store) c.loop-j.invariant.cleaned c.map.result c.map.ensures

pub returns-in_err-read_map-clause-cleaned : goal.returns-in_err-read_map-clause-cleaned
returns-in_err-read_map-clause-cleaned g c =
    whole_cleaned (counts_of c.args.root.now) c.args.slot.now c.requires.head (g.S.StableStore.view c.args.store.now) c.requires.fits _ (let lt = c.loop-j-test.true in omega (arith, lt)) (g.S.StableStore.view c.read_map.new.store)
    (step_cleaned (counts_of c.args.root.now) c.args.slot.now c.requires.head (g.S.StableStore.view c.args.store.now) c.requires.fits c.loop-j.j (g.S.StableStore.view c.loop-j.store) (g.S.StableStore.view c.read_map.new.store)
    c.loop-j.invariant.cleaned c.map.result c.map.ensures c.read_map.ensures.cleaned)

pub loop-j-preserved : goal.loop-j-preserved
loop-j-preserved g c = record {
  cleaned = step_cleaned (counts_of c.args.root.now) c.args.slot.now c.requires.head (g.S.StableStore.view c.args.store.now) c.requires.fits c.loop-j.j (g.S.StableStore.view c.loop-j.store) (g.S.StableStore.view c.read_map.new.store)
      c.loop-j.invariant.cleaned c.map.result c.map.ensures c.read_map.ensures.cleaned;
  read = step_read (counts_of c.args.root.now) c.args.slot.now c.requires.head (g.S.StableStore.view c.args.store.now) c.requires.fits c.loop-j.j (g.S.StableStore.view c.loop-j.store) (g.S.StableStore.view c.read_map.new.store)
      c.args.maps.now c.loop-j.maps c.read_map.new.maps c.loop-j.invariant.read c.map.result c.map.ensures (c.in_ok-read_map.ensures.read (refl {a = true}));
  mended = step_mended (counts_of c.args.root.now) c.args.slot.now c.requires.head (g.S.StableStore.view c.args.store.now) c.requires.fits c.loop-j.j (g.S.StableStore.view c.loop-j.store) (g.S.StableStore.view c.read_map.new.store)
      c.loop-j.invariant.cleaned.later c.read_map.ensures.cleaned.later c.loop-j.invariant.mended c.map.result c.map.ensures (c.in_ok-read_map.ensures.mended (refl {a = true}));
  served = power_then (g.S.StableStore.view c.args.store.now) (g.S.StableStore.view c.loop-j.store) (g.S.StableStore.view c.read_map.new.store) c.loop-j.invariant.served (c.in_ok-read_map.ensures.served (refl {a = true}));
}

pub returns-clause-cleaned : goal.returns-clause-cleaned
returns-clause-cleaned g c =
    whole_cleaned (counts_of c.args.root.now) c.args.slot.now c.requires.head (g.S.StableStore.view c.args.store.now) c.requires.fits c.loop-j.j (let end = c.loop-j.auto.j-end in omega (arith, end)) (g.S.StableStore.view c.loop-j.store)
    c.loop-j.invariant.cleaned

pub returns-clause-mended : goal.returns-clause-mended
returns-clause-mended g c = λ _ calm d lt m. c.loop-j.invariant.mended calm d lt (map_first c.args.slot.now most_maps c.loop-j.j d (let end = c.loop-j.auto.j-end in omega (arith, end)) m)
