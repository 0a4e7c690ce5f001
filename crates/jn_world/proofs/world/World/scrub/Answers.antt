use Rattle.jn_world.proofs.Common.{DeviceState, counts_by, StoreView, standing_of, ℕ, Ok, refl, length, true, with_item}
use Rattle.jn_world.proofs.Calm.{stay-put, stays-up}
use Rattle.jn_world.proofs.Images.{clean-put, scrubbed-put}
use Rattle.jn_world.proofs.Places.{has-counts, place-here, place-is, place-million, up-here, moved-quiet}
use Rattle.jn_world.proofs.ServerCalls.{scrubbed-does}
use Rattle.jn_world.proofs.world.World.scrub.Goals as goal

pub scrub-requires-clause-place : goal.scrub-requires-clause-place
scrub-requires-clause-place g c =
    let look : g.row.S.Denot → StoreView = λ s. g.S.StableStore.view s in
    let w = c.args.self.now in
    let server = c.args.server in
    let i = c.from.result in
    let p = c.index_mut.result.now in
    let place = place-here look w server i p c.from.ensures c.requires.up c.index_mut.ensures.value c.requires.world in
    place-million look w server p c.requires.world place

pub scrub-requires-clause-up : goal.scrub-requires-clause-up
scrub-requires-clause-up g c = up-here c.args.self.now c.args.server c.from.result c.index_mut.result.now c.from.ensures c.requires.up c.index_mut.ensures.value

pub returns-clause-world : goal.returns-clause-world
returns-clause-world g c =
    let look : g.row.S.Denot → StoreView = λ s. g.S.StableStore.view s in
    let w = c.args.self.now in
    let server = c.args.server in
    let i = c.from.result in
    let p = c.index_mut.result.now in
    let place = place-here look w server i p c.from.ensures c.requires.up c.index_mut.ensures.value c.requires.world in
    let q = c.scrub.new.self in
    let step = c.in_ok-scrub.ensures in
    moved-quiet look w (record w { places = with_item w.places i q }) server i q c.from.ensures c.requires.world (step.left (length w.net.sent) place) refl refl refl

pub returns-clause-does : goal.returns-clause-does
returns-clause-does g c =
    let look : g.row.S.Denot → StoreView = λ s. g.S.StableStore.view s in
    let device : g.row.S.Denot → DeviceState = λ s. g.S.Powered.device s in
    let w = c.args.self.now in
    let server = c.args.server in
    let i = c.from.result in
    let p = c.index_mut.result.now in
    let place = place-here look w server i p c.from.ensures c.requires.up c.index_mut.ensures.value c.requires.world in
    let q = c.scrub.new.self in
    let step = c.in_ok-scrub.ensures in
    let limit = c.requires.world.limit in
    scrubbed-does look device g.met.S.Powered.seen (standing_of w) server p q i c.from.ensures c.scrub.ensures.counts {A = ℕ} c.args.when (Ok 0) (standing_of (record w { places = with_item w.places i q })) c.args.lines.now.items c.scrub.new.told.items
    (place-is w server i p c.from.ensures c.requires.up c.index_mut.ensures.value) (has-counts look server (length w.net.sent) p q c.scrub.ensures.counts (step.left (length w.net.sent) place)) (step.scrubbed.0) c.scrub.new.told.items step.scrubbed.1 step.beside step.cleaned (refl, refl, limit)

pub returns-clause-calm : goal.returns-clause-calm
returns-clause-calm g c =
    let look : g.row.S.Denot → StoreView = λ s. g.S.StableStore.view s in
    let w = c.args.self.now in
    let server = c.args.server in
    let i = c.from.result in
    let p = c.index_mut.result.now in
    let step = c.in_ok-scrub.ensures in
    stay-put look w.places.items server.0 i p c.scrub.new.self true c.from.ensures (place-is w server i p c.from.ensures c.requires.up c.index_mut.ensures.value) step.calm

pub returns-clause-clean : goal.returns-clause-clean
returns-clause-clean g c =
    let look : g.row.S.Denot → StoreView = λ s. g.S.StableStore.view s in
    let w = c.args.self.now in
    let server = c.args.server in
    let i = c.from.result in
    let p = c.index_mut.result.now in
    let step = c.in_ok-scrub.ensures in
    clean-put look w.places.items server.0 i p c.scrub.new.self c.from.ensures (place-is w server i p c.from.ensures c.requires.up c.index_mut.ensures.value) step.beside

pub returns-clause-images : goal.returns-clause-images
returns-clause-images g c =
    let look : g.row.S.Denot → StoreView = λ s. g.S.StableStore.view s in
    let w = c.args.self.now in
    let server = c.args.server in
    let i = c.from.result in
    let device : g.row.S.Denot → DeviceState = λ s. g.S.Powered.device s in
    let p = c.index_mut.result.now in
    let q = c.scrub.new.self in
    let step = c.in_ok-scrub.ensures in
    let at = place-is w server i p c.from.ensures c.requires.up c.index_mut.ensures.value in
    λ calm clean. scrubbed-put look device server (counts_by p.counts) c.args.when w.places.items i p q c.args.lines.now.items c.scrub.new.told.items c.from.ensures at c.scrub.ensures.counts refl
    step.scrubbed step.image (stays-up look w.places.items server.0 p q true at step.calm calm) calm clean
