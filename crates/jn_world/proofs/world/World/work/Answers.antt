use Rattle.jn_world.proofs.Common.{DeviceState, serves-here, counts_by, StoreView, standing_of, ℕ, length, Ok, refl, sym, ◌∙◌}
use Rattle.jn_world.proofs.UpServers.{reads-here, works-here}
use Rattle.jn_world.proofs.Places.{place-is, place-here, place-million, up-here}
use Rattle.jn_world.proofs.ServerCalls.{idle-does}
use Rattle.jn_world.proofs.world.World.work.Goals as goal

pub has_work-requires : goal.has_work-requires
has_work-requires g c =
    let look : g.row.S.Denot → StoreView = λ s. g.S.StableStore.view s in
    let w = c.args.self.now in
    let server = c.args.server in
    let i = c.from.result in
    let p = c.index.result.now in
    let place = place-here look w server i p c.from.ensures c.requires.up c.index.ensures c.requires.world in
    let million = place-million look w server p c.requires.world place in
    record { serves = serves-here look server (counts_by p.counts) 1000000 p.slot million.stands (up-here w server i p c.from.ensures c.requires.up c.index.ensures) }

pub make_step-requires-clause-work : goal.make_step-requires-clause-work
make_step-requires-clause-work g c =
    let look : g.row.S.Denot → StoreView = λ s. g.S.StableStore.view s in
    let w = c.args.self.now in
    let server = c.args.server in
    let p = c.index.result.now in
    works-here look w.places.items server p (place-is w server c.from.result p c.from.ensures c.requires.up c.index.ensures) ∙ sym c.has_work.ensures.work ∙ c.if-not-has_work.false

pub returns-then-not-has_work-clause-does : goal.returns-then-not-has_work-clause-does
returns-then-not-has_work-clause-does g c =
    let look : g.row.S.Denot → StoreView = λ s. g.S.StableStore.view s in
    let device : g.row.S.Denot → DeviceState = λ s. g.S.Powered.device s in
    let seen = g.met.S.Powered.seen in
    let w = c.args.self.now in
    let server = c.args.server in
    let i = c.from.result in
    let p = c.index.result.now in
    let place = place-here look w server i p c.from.ensures c.requires.up c.index.ensures c.requires.world in
    let has = c.requires.world in
    idle-does look device seen {A = ℕ} (standing_of w) server p (place-is w server i p c.from.ensures c.requires.up c.index.ensures) c.args.when (Ok 0) (standing_of w) c.args.lines.now.items c.args.lines.now.items
    (reads-here look device seen server (length w.net.sent) p place c.has_work.ensures.room) (sym c.has_work.ensures.work ∙ c.if-not-has_work.true) (refl, refl, has.limit)

pub returns-then-not-has_work-clause-calm : goal.returns-then-not-has_work-clause-calm
returns-then-not-has_work-clause-calm g c = λ all. all
