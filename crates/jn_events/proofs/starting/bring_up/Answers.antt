use Rattle.jn_events.proofs.Common.{DeviceState, StoreView, has-counts, place-got, place-there, place-million, moved-quiet, World, ◌<◌, length, ap, arith, sym, ◌∙◌}
use Rattle.jn_events.proofs.Bringing.{brought}
use Rattle.jn_events.proofs.Calm.{risen-set, risen-by}
use Rattle.jn_events.proofs.Places.{down-here}
use Rattle.jn_events.proofs.starting.bring_up.Goals as goal

pub come_up-requires-clause-place : goal.come_up-requires-clause-place
come_up-requires-clause-place g c =
    let look : g.row.S.Denot → StoreView = λ s. g.S.StableStore.view s in
    let w = c.args.world.now in
    let server = c.args.server in
    let i = c.from.result in
    let p = c.index_mut-place.result.now in
    let within : server.0 < length w.places.items = (let few = c.requires.there in omega (arith, w.places.ok.0)) in
    let place = place-there look w server i p c.from.ensures within c.index_mut-place.ensures.value c.requires.world in
    place-million look w server p c.requires.world place

pub come_up-requires-clause-down : goal.come_up-requires-clause-down
come_up-requires-clause-down g c =
    let look : g.row.S.Denot → StoreView = λ s. g.S.StableStore.view s in
    let w = c.args.world.now in
    let server = c.args.server in
    let i = c.from.result in
    let p = c.index_mut-place.result.now in
    let within : server.0 < length w.places.items = (let few = c.requires.there in omega (arith, w.places.ok.0)) in
    let place = place-there look w server i p c.from.ensures within c.index_mut-place.ensures.value c.requires.world in
    down-here w server i p c.from.ensures within c.requires.down c.index_mut-place.ensures.value

pub returns-clause-world : goal.returns-clause-world
returns-clause-world g c =
    let look : g.row.S.Denot → StoreView = λ s. g.S.StableStore.view s in
    let w = c.args.world.now in
    let server = c.args.server in
    let i = c.from.result in
    let p = c.index_mut-place.result.now in
    let within : server.0 < length w.places.items = (let few = c.requires.there in omega (arith, w.places.ok.0)) in
    let place = place-there look w server i p c.from.ensures within c.index_mut-place.ensures.value c.requires.world in
    let q = c.come_up.new.self in
    let b = c.tell_restarted.new.world in
    let step = c.in_ok-restarted.ensures in
    moved-quiet look w b server i q c.from.ensures c.requires.world (step.place (length w.net.sent) place)
    (ap (λ (x : World g.row.S.Denot). x.places) c.tell_restarted.ensures.others) (ap (λ (x : World g.row.S.Denot). x.clients) c.tell_restarted.ensures.others) (ap (λ (x : World g.row.S.Denot). x.net) c.tell_restarted.ensures.others)

pub returns-clause-brought : goal.returns-clause-brought
returns-clause-brought g c =
    let look : g.row.S.Denot → StoreView = λ s. g.S.StableStore.view s in
    let device : g.row.S.Denot → DeviceState = λ s. g.S.Powered.device s in
    let w = c.args.world.now in
    let server = c.args.server in
    let i = c.from.result in
    let p = c.index_mut-place.result.now in
    let within : server.0 < length w.places.items = (let few = c.requires.there in omega (arith, w.places.ok.0)) in
    let place = place-there look w server i p c.from.ensures within c.index_mut-place.ensures.value c.requires.world in
    let q = c.come_up.new.self in
    let b = c.tell_restarted.new.world in
    let step = c.in_ok-restarted.ensures in
    let end = c.in_ok-came.ensures in
    brought look device w b server i p q c.args.when c.in_ok-restarted.restarted c.in_ok-came.came c.args.told.now.items c.come_up.new.told.items c.tell_restarted.new.told.items c.from.ensures within c.index_mut-place.ensures.value c.come_up.ensures.counts
    (has-counts look server (length w.net.sent) p q c.come_up.ensures.counts (step.place (length w.net.sent) place)) step.restarts c.tell_restarted.ensures.others end.names end.told end.came

pub returns-clause-calm : goal.returns-clause-calm
returns-clause-calm g c =
    let look : g.row.S.Denot → StoreView = λ s. g.S.StableStore.view s in
    let device : g.row.S.Denot → DeviceState = λ s. g.S.Powered.device s in
    let w = c.args.world.now in
    let server = c.args.server in
    let i = c.from.result in
    let p = c.index_mut-place.result.now in
    let within : server.0 < length w.places.items = (let few = c.requires.there in omega (arith, w.places.ok.0)) in
    let q = c.come_up.new.self in
    let b = c.tell_restarted.new.world in
    let step = c.in_ok-restarted.ensures in
    let end = c.in_ok-came.ensures in
    λ is. risen-by look w b server.0 i q (ap (λ (x : World g.row.S.Denot). x.places) c.tell_restarted.ensures.others)
    (risen-set look device g.met.S.Powered.seen server _ c.args.when w.places.items i p q c.in_ok-restarted.restarted c.args.told.now.items c.come_up.new.told.items c.from.ensures (place-got w.places.items server i p c.from.ensures within c.index_mut-place.ensures.value)
    (down-here w server i p c.from.ensures within c.requires.down c.index_mut-place.ensures.value) (sym is ∙ end.came) step.calm step.restarts)
