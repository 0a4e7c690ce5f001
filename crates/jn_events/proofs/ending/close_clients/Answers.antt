use Rattle.jn_events.proofs.Common.{DeviceState, StoreView, stay-put, stays-up, place-got, has-counts, place-here, place-million, up-here, up-within, moved-quiet, standing_of, ℕ, refl, length, true, with_item}
use Rattle.jn_events.proofs.Closing.{closed-does}
use Rattle.jn_events.proofs.ending.close_clients.Goals as goal

pub close_clients-requires-clause-place : goal.close_clients-requires-clause-place
close_clients-requires-clause-place g c =
    let look : g.row.S.Denot → StoreView = λ s. g.S.StableStore.view s in
    let w = c.args.world.now in
    let server = c.args.server in
    let i = c.from.result in
    let p = c.index_mut.result.now in
    let place = place-here look w server i p c.from.ensures c.requires.up c.index_mut.ensures.value c.requires.world in
    place-million look w server p c.requires.world place

pub close_clients-requires-clause-up : goal.close_clients-requires-clause-up
close_clients-requires-clause-up g c = up-here c.args.world.now c.args.server c.from.result c.index_mut.result.now c.from.ensures c.requires.up c.index_mut.ensures.value

pub returns-clause-world : goal.returns-clause-world
returns-clause-world g c =
    let look : g.row.S.Denot → StoreView = λ s. g.S.StableStore.view s in
    let w = c.args.world.now in
    let server = c.args.server in
    let i = c.from.result in
    let p = c.index_mut.result.now in
    let place = place-here look w server i p c.from.ensures c.requires.up c.index_mut.ensures.value c.requires.world in
    let q = c.close_clients.new.self in
    let step = c.in_ok-close_clients.ensures in
    moved-quiet look w (record w { places = with_item w.places i q }) server i q c.from.ensures c.requires.world (step.left (length w.net.sent) place) refl refl refl

pub returns-clause-does : goal.returns-clause-does
returns-clause-does g c =
    let look : g.row.S.Denot → StoreView = λ s. g.S.StableStore.view s in
    let device : g.row.S.Denot → DeviceState = λ s. g.S.Powered.device s in
    let w = c.args.world.now in
    let server = c.args.server in
    let i = c.from.result in
    let p = c.index_mut.result.now in
    let place = place-here look w server i p c.from.ensures c.requires.up c.index_mut.ensures.value c.requires.world in
    let q = c.close_clients.new.self in
    let step = c.in_ok-close_clients.ensures in
    let within = up-within w.places.items server.0 c.requires.up in
    let closed = step.closed in
    closed-does look device g.met.S.Powered.seen c.args.when {A = ℕ} 0 (standing_of w) server i p q closed.0 c.args.lines.now.items c.close_clients.new.told.items c.from.ensures
    (place-got w.places.items server i p c.from.ensures within c.index_mut.ensures.value) c.close_clients.ensures.counts
    (has-counts look server (length w.net.sent) p q c.close_clients.ensures.counts (step.left (length w.net.sent) place)) step.beside closed.1
    (stays-up look w.places.items server.0 p q true (place-got w.places.items server i p c.from.ensures within c.index_mut.ensures.value) step.calm c.requires.calm) c.requires.idle c.requires.world.limit

pub returns-clause-calm : goal.returns-clause-calm
returns-clause-calm g c =
    let look : g.row.S.Denot → StoreView = λ s. g.S.StableStore.view s in
    let w = c.args.world.now in
    let server = c.args.server in
    let i = c.from.result in
    let p = c.index_mut.result.now in
    let step = c.in_ok-close_clients.ensures in
    stay-put look w.places.items server.0 i p c.close_clients.new.self true c.from.ensures (place-got w.places.items server i p c.from.ensures (up-within w.places.items server.0 c.requires.up) c.index_mut.ensures.value) step.calm
