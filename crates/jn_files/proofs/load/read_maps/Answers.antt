use Rattle.jn_files.proofs.Common.{◌≡◌, refl, arith, true, length, get_or_read, Free, counts_of, head_in}
use Rattle.jn_files.proofs.Loading.{head_first, heads_still, next_cleaned, all_cleaned, next_held, next_mended, power_then}
use Rattle.jn_files.proofs.load.read_maps.Goals as goal

pub read_maps_of-requires-clause-pages : goal.read_maps_of-requires-clause-pages
read_maps_of-requires-clause-pages g c =
    let at : c.slot-item.result ≡ head_in c.args.slots.now c.loop-slot.slot-index = get_or_read c.args.slots.now c.loop-slot.slot-index c.slot-item.result c.loop-slot-test.true c.slot-item.is Free in
    heads_still (counts_of c.args.root.now) c.args.slots.now c.requires.heads (g.S.StableStore.view c.args.store.now) c.requires.fits c.requires.pages c.loop-slot.slot-index c.loop-slot-test.true
    (g.S.StableStore.view c.loop-slot.store) c.loop-slot.invariant.cleaned c.slot-item.result at

pub returns-in_err-read_maps_of-clause-cleaned : goal.returns-in_err-read_maps_of-clause-cleaned
returns-in_err-read_maps_of-clause-cleaned g c =
    let at : c.slot-item.result ≡ head_in c.args.slots.now c.loop-slot.slot-index = get_or_read c.args.slots.now c.loop-slot.slot-index c.slot-item.result c.loop-slot-test.true c.slot-item.is Free in
    all_cleaned (counts_of c.args.root.now) c.args.slots.now c.requires.heads (g.S.StableStore.view c.args.store.now) c.requires.fits _ (let lt = c.loop-slot-test.true in omega (arith, lt)) (g.S.StableStore.view c.read_maps_of.new.store)
    (next_cleaned (counts_of c.args.root.now) c.args.slots.now c.requires.heads (g.S.StableStore.view c.args.store.now) c.requires.fits c.loop-slot.slot-index (g.S.StableStore.view c.loop-slot.store) (g.S.StableStore.view c.read_maps_of.new.store)
    c.loop-slot.invariant.cleaned c.slot-item.result at c.read_maps_of.ensures.cleaned)

pub loop-slot-preserved : goal.loop-slot-preserved
loop-slot-preserved g c =
    let at : c.slot-item.result ≡ head_in c.args.slots.now c.loop-slot.slot-index = get_or_read c.args.slots.now c.loop-slot.slot-index c.slot-item.result c.loop-slot-test.true c.slot-item.is Free in
    record {
      cleaned = next_cleaned (counts_of c.args.root.now) c.args.slots.now c.requires.heads (g.S.StableStore.view c.args.store.now) c.requires.fits c.loop-slot.slot-index (g.S.StableStore.view c.loop-slot.store) (g.S.StableStore.view c.read_maps_of.new.store)
          c.loop-slot.invariant.cleaned c.slot-item.result at c.read_maps_of.ensures.cleaned;
      held = next_held (counts_of c.args.root.now) c.args.slots.now c.requires.heads (g.S.StableStore.view c.args.store.now) c.requires.fits c.loop-slot.slot-index (g.S.StableStore.view c.loop-slot.store) (g.S.StableStore.view c.read_maps_of.new.store)
          c.loop-slot.maps c.read_maps_of.new.maps c.loop-slot.invariant.held c.slot-item.result at (c.in_ok-read_maps_of.ensures.read (refl {a = true}));
      mended = next_mended (counts_of c.args.root.now) c.args.slots.now c.requires.heads (g.S.StableStore.view c.args.store.now) c.requires.fits c.loop-slot.slot-index (g.S.StableStore.view c.loop-slot.store) (g.S.StableStore.view c.read_maps_of.new.store)
          c.loop-slot.invariant.cleaned.later c.read_maps_of.ensures.cleaned.later c.loop-slot.invariant.mended c.slot-item.result at (c.in_ok-read_maps_of.ensures.mended (refl {a = true}));
      served = power_then (g.S.StableStore.view c.args.store.now) (g.S.StableStore.view c.loop-slot.store) (g.S.StableStore.view c.read_maps_of.new.store) c.loop-slot.invariant.served (c.in_ok-read_maps_of.ensures.served (refl {a = true}));
    }

pub returns-clause-cleaned : goal.returns-clause-cleaned
returns-clause-cleaned g c =
    all_cleaned (counts_of c.args.root.now) c.args.slots.now c.requires.heads (g.S.StableStore.view c.args.store.now) c.requires.fits c.loop-slot.slot-index (let end = c.loop-slot.auto.slot-index-end in omega (arith, end)) (g.S.StableStore.view c.loop-slot.store)
    c.loop-slot.invariant.cleaned

pub returns-clause-mended : goal.returns-clause-mended
returns-clause-mended g c = λ _ calm d lt m. c.loop-slot.invariant.mended calm d lt (head_first c.args.slots.now (length c.args.slots.now) c.loop-slot.slot-index d (let end = c.loop-slot.auto.slot-index-end in omega (arith, end)) m)
