use Rattle.jn_world.proofs.Common.{DeviceState, items_of, StoreView, standing_of, ℕ, Ok, refl, length, is_some, with_item}
use Rattle.jn_world.proofs.Calm.{stay-put}
use Rattle.jn_world.proofs.Images.{clean-put}
use Rattle.jn_world.proofs.Places.{has-counts, place-here, place-is, place-million, up-here, moved-quiet}
use Rattle.jn_world.proofs.ServerCalls.{showed-does}
use Rattle.jn_world.proofs.world.World.show.Goals as goal

pub show-requires-clause-place : goal.show-requires-clause-place
show-requires-clause-place g c =
    let look : g.row.S.Denot → StoreView = λ s. g.S.StableStore.view s in
    let w = c.args.self.now in
    let server = c.args.server in
    let i = c.from.result in
    let p = c.index_mut-place.result.now in
    let place = place-here look w server i p c.from.ensures c.requires.up c.index_mut-place.ensures.value c.requires.world in
    place-million look w server p c.requires.world place

pub show-requires-clause-up : goal.show-requires-clause-up
show-requires-clause-up g c = up-here c.args.self.now c.args.server c.from.result c.index_mut-place.result.now c.from.ensures c.requires.up c.index_mut-place.ensures.value

pub returns-clause-world : goal.returns-clause-world
returns-clause-world g c =
    let look : g.row.S.Denot → StoreView = λ s. g.S.StableStore.view s in
    let w = c.args.self.now in
    let server = c.args.server in
    let i = c.from.result in
    let p = c.index_mut-place.result.now in
    let place = place-here look w server i p c.from.ensures c.requires.up c.index_mut-place.ensures.value c.requires.world in
    let q = c.show.new.self in
    let step = c.in_ok-shown.ensures in
    rw c.keep_room.ensures (moved-quiet look w (record w { places = with_item w.places i q }) server i q c.from.ensures c.requires.world (step.left (length w.net.sent) place) refl refl refl)

pub returns-clause-does : goal.returns-clause-does
returns-clause-does g c =
    let look : g.row.S.Denot → StoreView = λ s. g.S.StableStore.view s in
    let device : g.row.S.Denot → DeviceState = λ s. g.S.Powered.device s in
    let w = c.args.self.now in
    let server = c.args.server in
    let i = c.from.result in
    let p = c.index_mut-place.result.now in
    let place = place-here look w server i p c.from.ensures c.requires.up c.index_mut-place.ensures.value c.requires.world in
    let q = c.show.new.self in
    let step = c.in_ok-shown.ensures in
    let limit = c.requires.world.limit in
    rw c.keep_room.ensures
    (showed-does look device g.met.S.Powered.seen (standing_of w) server p q i c.from.ensures c.show.ensures.counts {A = ℕ} c.args.when (Ok 0) (standing_of (record w { places = with_item w.places i q })) c.args.lines.now.items c.tell_list.new.lines.items
    (place-is w server i p c.from.ensures c.requires.up c.index_mut-place.ensures.value) (has-counts look server (length w.net.sent) p q c.show.ensures.counts (step.left (length w.net.sent) place)) (items_of c.in_ok-shown.shown) c.show.new.told.items step.showed step.beside (refl, c.in_ok-tell_list.ensures, limit))

pub returns-clause-calm : goal.returns-clause-calm
returns-clause-calm g c =
    let look : g.row.S.Denot → StoreView = λ s. g.S.StableStore.view s in
    let w = c.args.self.now in
    let server = c.args.server in
    let i = c.from.result in
    let p = c.index_mut-place.result.now in
    let step = c.in_ok-shown.ensures in
    rw c.keep_room.ensures (stay-put look w.places.items server.0 i p c.show.new.self (is_some c.in_ok-shown.shown) c.from.ensures (place-is w server i p c.from.ensures c.requires.up c.index_mut-place.ensures.value) step.calm)

pub returns-clause-clean : goal.returns-clause-clean
returns-clause-clean g c =
    let look : g.row.S.Denot → StoreView = λ s. g.S.StableStore.view s in
    let w = c.args.self.now in
    let server = c.args.server in
    let i = c.from.result in
    let p = c.index_mut-place.result.now in
    let step = c.in_ok-shown.ensures in
    rw c.keep_room.ensures (clean-put look w.places.items server.0 i p c.show.new.self c.from.ensures (place-is w server i p c.from.ensures c.requires.up c.index_mut-place.ensures.value) step.beside)
