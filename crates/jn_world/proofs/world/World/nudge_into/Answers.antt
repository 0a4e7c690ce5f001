use Rattle.jn_world.proofs.Common.{Server, DeviceState, serves-here, counts_by, StoreView, standing_of}
use Rattle.jn_world.proofs.UpServers.{nudged-now}
use Rattle.jn_world.proofs.Calm.{stay-places}
use Rattle.jn_world.proofs.Places.{place-is, place-here, place-million, up-here, sent-world}
use Rattle.jn_world.proofs.Worlds.{places-of, clients-of}
use Rattle.jn_world.proofs.world.World.nudge_into.Goals as goal

pub again-requires : goal.again-requires
again-requires g c =
    let look : g.row.S.Denot → StoreView = λ s. g.S.StableStore.view s in
    let w = c.args.self.now in
    let server = c.args.server in
    let i = c.from.result in
    let p = c.index.result.now in
    let place = place-here look w server i p c.from.ensures c.requires.up c.index.ensures c.requires.world in
    let million = place-million look w server p c.requires.world place in
    record { serves = serves-here look server (counts_by p.counts) 1000000 p.slot million.stands (up-here w server i p c.from.ensures c.requires.up c.index.ensures); empty = c.requires.empty }

pub returns-clause-world : goal.returns-clause-world
returns-clause-world g c =
    let look : g.row.S.Denot → StoreView = λ s. g.S.StableStore.view s in
    let w = c.args.self.now in
    let b = c.end_step.new.self in
    let sent = c.in_ok-out.ensures in
    sent-world look w b (Server c.args.server) c.in_ok-out.out.messages c.end_step.result c.requires.world sent.sent
    (places-of w b c.end_step.ensures.others) (clients-of w b c.end_step.ensures.others) c.end_step.ensures.sent c.end_step.ensures.limit

pub returns-clause-does : goal.returns-clause-does
returns-clause-does g c =
    let look : g.row.S.Denot → StoreView = λ s. g.S.StableStore.view s in
    let device : g.row.S.Denot → DeviceState = λ s. g.S.Powered.device s in
    let w = standing_of c.args.self.now in
    let q = c.args.server in
    let i = c.from.result in
    let p = c.index.result.now in
    let out = c.in_ok-out.ensures in
    nudged-now look device g.met.S.Powered.seen w q p (place-is c.args.self.now q i p c.from.ensures c.requires.up c.index.ensures) c.args.when c.end_step.result (standing_of c.end_step.new.self) c.args.lines.now.items c.end_step.new.lines.items
    c.new-told.result.items c.new-told.ensures.items c.in_ok-out.out out.asks c.end_step.ensures.ends

pub returns-clause-calm : goal.returns-clause-calm
returns-clause-calm g c =
    let look : g.row.S.Denot → StoreView = λ s. g.S.StableStore.view s in
    let w = c.args.self.now in
    let b = c.end_step.new.self in
    stay-places look w b c.end_step.result (places-of w b c.end_step.ensures.others)
