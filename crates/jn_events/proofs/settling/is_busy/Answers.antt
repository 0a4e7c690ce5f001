use Rattle.jn_events.proofs.Common.{DeviceState, serves-here, counts_by, StoreView, reads-here, place-is, place-here, place-million, up-here, length, sym, ◌∙◌}
use Rattle.jn_events.proofs.Busy.{down-idle, up-tells}
use Rattle.jn_events.proofs.settling.is_busy.Goals as goal

pub has_work-requires : goal.has_work-requires
has_work-requires g c =
    let look : g.row.S.Denot → StoreView = λ s. g.S.StableStore.view s in
    let w = c.args.world.now in
    let server = c.args.server in
    let i = c.from.result in
    let p = c.index.result.now in
    let up = sym c.is_up.ensures ∙ c.if-not-is_up.false in
    let place = place-here look w server i p c.from.ensures up c.index.ensures c.requires.world in
    let million = place-million look w server p c.requires.world place in
    record { serves = serves-here look server (counts_by p.counts) 1000000 p.slot million.stands (up-here w server i p c.from.ensures up c.index.ensures) }

pub returns-then-not-is_up : goal.returns-then-not-is_up
returns-then-not-is_up g c =
    let look : g.row.S.Denot → StoreView = λ s. g.S.StableStore.view s in
    let device : g.row.S.Denot → DeviceState = λ s. g.S.Powered.device s in
    record { busy = down-idle look device g.met.S.Powered.seen c.args.server c.args.world.now.places.items (sym c.is_up.ensures ∙ c.if-not-is_up.true) }

pub returns : goal.returns
returns g c =
    let look : g.row.S.Denot → StoreView = λ s. g.S.StableStore.view s in
    let device : g.row.S.Denot → DeviceState = λ s. g.S.Powered.device s in
    let seen = g.met.S.Powered.seen in
    let w = c.args.world.now in
    let server = c.args.server in
    let i = c.from.result in
    let p = c.index.result.now in
    let up = sym c.is_up.ensures ∙ c.if-not-is_up.false in
    let place = place-here look w server i p c.from.ensures up c.index.ensures c.requires.world in
    record { busy = up-tells look device seen server w.places.items p c.has_work.result (place-is w server i p c.from.ensures up c.index.ensures) up (reads-here look device seen server (length w.net.sent) p place c.has_work.ensures.room) c.has_work.ensures.work }
