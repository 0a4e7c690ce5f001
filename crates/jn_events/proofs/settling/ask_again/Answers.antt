use Rattle.jn_events.proofs.Common.{ClientNo, DeviceState, asking_clients, asking_servers, Again, StoreView, clients_from, standing_of}
use Rattle.jn_events.proofs.Calls.{does-then}
use Rattle.jn_events.proofs.Calm.{stay-then}
use Rattle.jn_events.proofs.Numbers.{none-begin}
use Rattle.jn_events.proofs.settling.ask_again.Goals as goal

pub returns-clause-does : goal.returns-clause-does
returns-clause-does g c =
    let look : g.row.S.Denot → StoreView = λ s. g.S.StableStore.view s in
    let device : g.row.S.Denot → DeviceState = λ s. g.S.Powered.device s in
    let when = c.args.when in
    let w = standing_of c.args.world.now in
    let first = c.args.lines.now.items in
    let e = c.in_ok-ask_clients.ensures in
    does-then look device when asking_clients asking_servers c.in_ok-ask_clients.field-0 c.ask_servers.result w (standing_of c.ask_clients.new.world) (standing_of c.ask_servers.new.world)
    first c.ask_clients.new.lines.items c.ask_servers.new.lines.items (λ x. none-begin (λ (q : ClientNo). Again q) (clients_from 1 8)) e.does c.ask_servers.ensures.does

pub returns-clause-calm : goal.returns-clause-calm
returns-clause-calm g c =
    let look : g.row.S.Denot → StoreView = λ s. g.S.StableStore.view s in
    let one = c.in_ok-ask_clients.ensures in
    stay-then look c.args.world.now.places.items c.ask_clients.new.world.places.items c.ask_servers.new.world.places.items c.ask_servers.result one.calm c.ask_servers.ensures.calm
