use Rattle.jn_world.proofs.Common.{Server, DeviceState, LeavesPlace, StoreView, messages_in, standing_of, ℕ, length, subst, sym, is_some, with_item}
use Rattle.jn_world.proofs.UpServers.{left-counts, reads-here, took-now}
use Rattle.jn_world.proofs.Calm.{stay-moved}
use Rattle.jn_world.proofs.LostCalls.{sent-for}
use Rattle.jn_world.proofs.Measures.{hands-on}
use Rattle.jn_world.proofs.Places.{place-is, delivered-world, delivered-many, place-here, place-million, up-here, moved-sent, posted-at}
use Rattle.jn_world.proofs.Worlds.{places-of, clients-of}
use Rattle.jn_world.proofs.world.World.take_at_up.Goals as goal

pub take-requires-clause-place : goal.take-requires-clause-place
take-requires-clause-place g c =
    let look : g.row.S.Denot → StoreView = λ s. g.S.StableStore.view s in
    let w = c.args.self.now in
    let server = c.args.server in
    let i = c.from.result in
    let p = c.index_mut-place.result.now in
    let place = place-here look w server i p c.from.ensures c.requires.up c.index_mut-place.ensures.value c.requires.world in
    place-million look w server p c.requires.world place

pub take-requires-clause-up : goal.take-requires-clause-up
take-requires-clause-up g c = up-here c.args.self.now c.args.server c.from.result c.index_mut-place.result.now c.from.ensures c.requires.up c.index_mut-place.ensures.value

pub take-requires-clause-message : goal.take-requires-clause-message
take-requires-clause-message g c = posted-at c.args.self.now.net.sent c.args.k c.in-Some.sent.now c.requires.world.posted c.in-Some.ensures

pub end_step-requires : goal.end_step-requires
end_step-requires g c =
    let look : g.row.S.Denot → StoreView = λ s. g.S.StableStore.view s in
    let w = c.args.self.now in
    let has = delivered-world look w c.args.k c.delivered.new.self c.requires.world c.delivered.ensures in
    record { few = has.limit }

pub returns-clause-world : goal.returns-clause-world
returns-clause-world g c =
    let look : g.row.S.Denot → StoreView = λ s. g.S.StableStore.view s in
    let w = c.args.self.now in
    let server = c.args.server in
    let i = c.from.result in
    let p = c.index_mut-place.result.now in
    let place = place-here look w server i p c.from.ensures c.requires.up c.index_mut-place.ensures.value c.requires.world in
    let q = c.take.new.self in
    let step = c.in_ok-answer.ensures in
    let n = c.delivered.new.self in
    let a = record w { places = with_item w.places i q; net = n } in
    let b = c.end_step.new.self in
    moved-sent look (record w { net = n }) b server i q c.in_ok-answer.answer c.end_step.result c.from.ensures
    (delivered-world look w c.args.k n c.requires.world c.delivered.ensures)
    (subst (λ (k : ℕ). LeavesPlace look server k q c.in_ok-answer.answer) (sym (delivered-many w.net n c.args.k c.delivered.ensures)) (step.left (length w.net.sent) place))
    (places-of a b c.end_step.ensures.others) (clients-of a b c.end_step.ensures.others) c.end_step.ensures.sent c.end_step.ensures.limit

pub returns-clause-does : goal.returns-clause-does
returns-clause-does g c =
    let look : g.row.S.Denot → StoreView = λ s. g.S.StableStore.view s in
    let device : g.row.S.Denot → DeviceState = λ s. g.S.Powered.device s in
    let seen = g.met.S.Powered.seen in
    let w = c.args.self.now in
    let server = c.args.server in
    let i = c.from.result in
    let p = c.index_mut-place.result.now in
    let place = place-here look w server i p c.from.ensures c.requires.up c.index_mut-place.ensures.value c.requires.world in
    let q = c.take.new.self in
    let step = c.in_ok-answer.ensures in
    let one = c.in-Some.sent.now in
    took-now look device seen (standing_of w) server p q i c.from.ensures c.take.ensures.counts c.args.when c.end_step.result (standing_of c.end_step.new.self) c.args.lines.now.items c.end_step.new.lines.items
    (place-is w server i p c.from.ensures c.requires.up c.index_mut-place.ensures.value)
    (left-counts look server (length w.net.sent) p q c.in_ok-answer.answer c.take.ensures.counts (step.left (length w.net.sent) place))
    c.args.k one c.in_ok-answer.answer c.new-told.result.items c.take.new.told.items c.delivered.new.self c.new-told.ensures.items (sym c.in-Some.ensures) (sent-for w.net.sent c.args.k one (Server server) (sym c.in-Some.ensures) c.requires.to)
    (reads-here look device seen server (length w.net.sent) p place c.take.ensures.room) step.took step.beside c.delivered.ensures c.end_step.ensures.ends

pub returns-clause-calm : goal.returns-clause-calm
returns-clause-calm g c =
    let look : g.row.S.Denot → StoreView = λ s. g.S.StableStore.view s in
    let w = c.args.self.now in
    let server = c.args.server in
    let i = c.from.result in
    let p = c.index_mut-place.result.now in
    let q = c.take.new.self in
    let step = c.in_ok-answer.ensures in
    let a = record w { places = with_item w.places i q; net = c.delivered.new.self } in
    let b = c.end_step.new.self in
    stay-moved look w b server.0 i p q (is_some c.in_ok-answer.answer) c.end_step.result c.from.ensures (place-is w server i p c.from.ensures c.requires.up c.index_mut-place.ensures.value) step.calm (places-of a b c.end_step.ensures.others)

pub returns-clause-hands : goal.returns-clause-hands
returns-clause-hands g c =
    hands-on c.end_step.result c.args.self.now.net c.delivered.new.self c.args.k c.end_step.new.self.net.sent (Server c.args.server) (messages_in c.in_ok-answer.answer) c.delivered.ensures c.end_step.ensures.sent
