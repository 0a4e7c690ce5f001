use Rattle.jn_world.proofs.Common.{DeviceState, StoreView, standing_of, ℕ, length, refl, Ok, with_item}
use Rattle.jn_world.proofs.Calm.{quiet-set, taken-down}
use Rattle.jn_world.proofs.Places.{place-got, has-counts, place-here, up-here, up-within, moved-quiet}
use Rattle.jn_world.proofs.ServerCalls.{crashed-does}
use Rattle.jn_world.proofs.world.World.crash.Goals as goal

pub crash-requires : goal.crash-requires
crash-requires g c = record { up = up-here c.args.self.now c.args.server c.from.result c.index_mut.result.now c.from.ensures c.requires.up c.index_mut.ensures.value }

pub returns-clause-world : goal.returns-clause-world
returns-clause-world g c =
    let look : g.row.S.Denot → StoreView = λ s. g.S.StableStore.view s in
    let w = c.args.self.now in
    let server = c.args.server in
    let p = c.index_mut.result.now in
    let place = place-here look w server c.from.result p c.from.ensures c.requires.up c.index_mut.ensures.value c.requires.world in
    let q = c.crash.new.self in
    moved-quiet look w (record w { places = with_item w.places c.from.result q }) server c.from.result q c.from.ensures c.requires.world (c.crash.ensures.place server _ place) refl refl refl

pub returns-clause-does : goal.returns-clause-does
returns-clause-does g c =
    let look : g.row.S.Denot → StoreView = λ s. g.S.StableStore.view s in
    let device : g.row.S.Denot → DeviceState = λ s. g.S.Powered.device s in
    let w = c.args.self.now in
    let server = c.args.server in
    let i = c.from.result in
    let p = c.index_mut.result.now in
    let place = place-here look w server i p c.from.ensures c.requires.up c.index_mut.ensures.value c.requires.world in
    let q = c.crash.new.self in
    let limit = c.requires.world.limit in
    crashed-does look device g.met.S.Powered.seen (standing_of w) server p q i c.from.ensures c.crash.ensures.counts {A = ℕ} c.args.when (Ok 0) (standing_of (record w { places = with_item w.places i q }))
    c.args.lines.now.items c.tell.new.lines.items (place-got w.places.items server i p c.from.ensures (up-within w.places.items server.0 c.requires.up) c.index_mut.ensures.value)
    (has-counts look server (length w.net.sent) p q c.crash.ensures.counts (c.crash.ensures.place server (length w.net.sent) place))
    (c.crash.ensures.crashed server (length w.net.sent) place) (refl, c.in_ok-tell.ensures, limit)

pub returns-clause-down : goal.returns-clause-down
returns-clause-down g c =
    let look : g.row.S.Denot → StoreView = λ s. g.S.StableStore.view s in
    let device : g.row.S.Denot → DeviceState = λ s. g.S.Powered.device s in
    let w = c.args.self.now in
    let server = c.args.server in
    let i = c.from.result in
    let p = c.index_mut.result.now in
    let place = place-here look w server i p c.from.ensures c.requires.up c.index_mut.ensures.value c.requires.world in
    taken-down look device g.met.S.Powered.seen _ w.places.items i server.0 p c.crash.new.self c.from.ensures (up-within w.places.items server.0 c.requires.up) (c.crash.ensures.crashed server (length w.net.sent) place)

pub returns-clause-quiet : goal.returns-clause-quiet
returns-clause-quiet g c =
    let look : g.row.S.Denot → StoreView = λ s. g.S.StableStore.view s in
    let device : g.row.S.Denot → DeviceState = λ s. g.S.Powered.device s in
    let w = c.args.self.now in
    let server = c.args.server in
    let i = c.from.result in
    let p = c.index_mut.result.now in
    let q = c.crash.new.self in
    let place = place-here look w server i p c.from.ensures c.requires.up c.index_mut.ensures.value c.requires.world in
    quiet-set look device g.met.S.Powered.seen _ w.places.items i server.0 p q c.from.ensures (place-got w.places.items server i p c.from.ensures (up-within w.places.items server.0 c.requires.up) c.index_mut.ensures.value)
    (c.crash.ensures.crashed server (length w.net.sent) place)
