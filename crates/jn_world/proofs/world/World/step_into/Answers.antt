use Rattle.jn_world.proofs.Common.{Server, DeviceState, StoreView, messages_in, standing_of, length, sym, ◌∙◌, ap, is_some, with_item}
use Rattle.jn_world.proofs.UpServers.{left-counts, reads-here, worked-now, works-here}
use Rattle.jn_world.proofs.Calm.{stay-moved}
use Rattle.jn_world.proofs.Measures.{hands-none, steps-less}
use Rattle.jn_world.proofs.Places.{place-is, place-here, place-million, up-here, moved-sent}
use Rattle.jn_world.proofs.Worlds.{places-of, clients-of}
use Rattle.jn_world.proofs.world.World.step_into.Goals as goal

pub step-requires-clause-place : goal.step-requires-clause-place
step-requires-clause-place g c =
    let look : g.row.S.Denot → StoreView = λ s. g.S.StableStore.view s in
    let w = c.args.self.now in
    let server = c.args.server in
    let i = c.from.result in
    let p = c.index_mut-place.result.now in
    let place = place-here look w server i p c.from.ensures c.requires.up c.index_mut-place.ensures.value c.requires.world in
    place-million look w server p c.requires.world place

pub step-requires-clause-up : goal.step-requires-clause-up
step-requires-clause-up g c = up-here c.args.self.now c.args.server c.from.result c.index_mut-place.result.now c.from.ensures c.requires.up c.index_mut-place.ensures.value

pub step-requires-clause-work : goal.step-requires-clause-work
step-requires-clause-work g c =
    let look : g.row.S.Denot → StoreView = λ s. g.S.StableStore.view s in
    let w = c.args.self.now in
    let server = c.args.server in
    let p = c.index_mut-place.result.now in
    sym (works-here look w.places.items server p (place-is w server c.from.result p c.from.ensures c.requires.up c.index_mut-place.ensures.value)) ∙ c.requires.work

pub returns-clause-world : goal.returns-clause-world
returns-clause-world g c =
    let look : g.row.S.Denot → StoreView = λ s. g.S.StableStore.view s in
    let w = c.args.self.now in
    let server = c.args.server in
    let i = c.from.result in
    let p = c.index_mut-place.result.now in
    let place = place-here look w server i p c.from.ensures c.requires.up c.index_mut-place.ensures.value c.requires.world in
    let q = c.step.new.self in
    let step = c.in_ok-answer.ensures in
    let a = record w { places = with_item w.places i q } in
    let b = c.end_step.new.self in
    moved-sent look w b server i q c.in_ok-answer.answer c.end_step.result c.from.ensures c.requires.world (step.left (length w.net.sent) place)
    (places-of a b c.end_step.ensures.others) (clients-of a b c.end_step.ensures.others) c.end_step.ensures.sent c.end_step.ensures.limit

pub returns-clause-does : goal.returns-clause-does
returns-clause-does g c =
    let look : g.row.S.Denot → StoreView = λ s. g.S.StableStore.view s in
    let device : g.row.S.Denot → DeviceState = λ s. g.S.Powered.device s in
    let seen = g.met.S.Powered.seen in
    let w = c.args.self.now in
    let server = c.args.server in
    let i = c.from.result in
    let p = c.index_mut-place.result.now in
    let place = place-here look w server i p c.from.ensures c.requires.up c.index_mut-place.ensures.value c.requires.world in
    let q = c.step.new.self in
    let step = c.in_ok-answer.ensures in
    worked-now look device seen (standing_of w) server p q i c.from.ensures c.step.ensures.counts c.args.when c.end_step.result (standing_of c.end_step.new.self) c.args.lines.now.items c.end_step.new.lines.items
    (place-is w server i p c.from.ensures c.requires.up c.index_mut-place.ensures.value)
    (left-counts look server (length w.net.sent) p q c.in_ok-answer.answer c.step.ensures.counts (step.left (length w.net.sent) place))
    c.in_ok-answer.answer c.new-told.result.items c.step.new.told.items c.new-told.ensures.items (reads-here look device seen server (length w.net.sent) p place c.step.ensures.room) step.worked step.beside c.end_step.ensures.ends

pub returns-clause-calm : goal.returns-clause-calm
returns-clause-calm g c =
    let look : g.row.S.Denot → StoreView = λ s. g.S.StableStore.view s in
    let w = c.args.self.now in
    let server = c.args.server in
    let i = c.from.result in
    let p = c.index_mut-place.result.now in
    let q = c.step.new.self in
    let step = c.in_ok-answer.ensures in
    let a = record w { places = with_item w.places i q } in
    let b = c.end_step.new.self in
    stay-moved look w b server.0 i p q (is_some c.in_ok-answer.answer) c.end_step.result c.from.ensures (place-is w server i p c.from.ensures c.requires.up c.index_mut-place.ensures.value) step.calm (places-of a b c.end_step.ensures.others)

pub returns-clause-hands : goal.returns-clause-hands
returns-clause-hands g c =
    hands-none c.end_step.result c.args.self.now.net.sent c.end_step.new.self.net.sent (Server c.args.server) (messages_in c.in_ok-answer.answer) c.end_step.ensures.sent

pub returns-clause-less : goal.returns-clause-less
returns-clause-less g c =
    let look : g.row.S.Denot → StoreView = λ s. g.S.StableStore.view s in
    let w = c.args.self.now in
    let server = c.args.server in
    let i = c.from.result in
    let p = c.index_mut-place.result.now in
    let q = c.step.new.self in
    let step = c.in_ok-answer.ensures in
    let a = record w { places = with_item w.places i q } in
    let b = c.end_step.new.self in
    steps-less c.end_step.result look w.places.items b.places.items server.0 i p q c.from.ensures (place-is w server i p c.from.ensures c.requires.up c.index_mut-place.ensures.value)
    (ap (λ (v : _). v.items) (places-of a b c.end_step.ensures.others)) step.less
