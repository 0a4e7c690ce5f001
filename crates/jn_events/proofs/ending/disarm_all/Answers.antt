use Rattle.jn_events.proofs.Common.{ServerNo, DeviceState, stands-there, counts_by, StoreView, place-got, has-counts, place-there, moved-quiet, World, ◌<◌, length, arith, refl, ap, with_item}
use Rattle.jn_events.proofs.Finishing.{disarmed-none, disarmed-more, disarmed-all}
use Rattle.jn_events.proofs.ending.disarm_all.Goals as goal

pub loop-s-init : goal.loop-s-init
loop-s-init g c =
    let look : g.row.S.Denot → StoreView = λ s. g.S.StableStore.view s in
    let device : g.row.S.Denot → DeviceState = λ s. g.S.Powered.device s in
    record { world = c.requires; as_many = refl; others = refl; disarmed = disarmed-none look device c.args.world.now.places.items }

pub disarm-requires : goal.disarm-requires
disarm-requires g c =
    let look : g.row.S.Denot → StoreView = λ s. g.S.StableStore.view s in
    let w = c.loop-s.world in
    let server : ServerNo = record { 0 = c.loop-s.s } in
    let i = c.from.result in
    let p = c.index_mut.result.now in
    let end = c.servers-s-end.ensures in
    let test = c.loop-s-test.true in
    let many = c.loop-s.invariant.as_many in
    let within : server.0 < length w.places.items = omega (arith, w.places.ok.0) in
    let place = place-there look w server i p c.from.ensures within c.index_mut.ensures.value c.loop-s.invariant.world in
    record { there = stands-there look server (counts_by p.counts) (length w.net.sent) p.slot place.stands }

pub loop-s-preserved : goal.loop-s-preserved
loop-s-preserved g c =
    let look : g.row.S.Denot → StoreView = λ s. g.S.StableStore.view s in
    let device : g.row.S.Denot → DeviceState = λ s. g.S.Powered.device s in
    let w = c.loop-s.world in
    let server : ServerNo = record { 0 = c.loop-s.s } in
    let i = c.from.result in
    let p = c.index_mut.result.now in
    let end = c.servers-s-end.ensures in
    let test = c.loop-s-test.true in
    let many = c.loop-s.invariant.as_many in
    let within : server.0 < length w.places.items = omega (arith, w.places.ok.0) in
    let place = place-there look w server i p c.from.ensures within c.index_mut.ensures.value c.loop-s.invariant.world in
    let q = c.disarm.new.self in
    record {
      world = moved-quiet look w (record w { places = with_item w.places i q }) server i q c.from.ensures c.loop-s.invariant.world (c.disarm.ensures.place server (length w.net.sent) place) refl refl refl;
      as_many = c.loop-s.invariant.as_many;
      others = ap (λ (x : World g.row.S.Denot). record x { places = with_item w.places i q }) c.loop-s.invariant.others;
      disarmed = disarmed-more look device c.loop-s.s i c.args.world.now.places.items w.places.items p q c.from.ensures within (place-got w.places.items server i p c.from.ensures within c.index_mut.ensures.value)
          (record { counts = c.disarm.ensures.counts; befell = c.disarm.ensures.befell; pages = has-counts look server (length w.net.sent) p q c.disarm.ensures.counts (c.disarm.ensures.place server (length w.net.sent) place) }) c.loop-s.invariant.disarmed;
    }

pub returns-clause-disarmed : goal.returns-clause-disarmed
returns-clause-disarmed g c =
    let look : g.row.S.Denot → StoreView = λ s. g.S.StableStore.view s in
    let device : g.row.S.Denot → DeviceState = λ s. g.S.Powered.device s in
    disarmed-all look device c.loop-s.s c.args.world.now.places.items c.loop-s.world.places.items (omega (arith, c.args.world.now.places.ok.0)) c.loop-s.invariant.disarmed
