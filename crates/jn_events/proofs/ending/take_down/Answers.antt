use Rattle.jn_events.proofs.Common.{DeviceState, End, StoreView, ◌<◌, ℕ, length, sym, ◌∙◌, arith}
use Rattle.jn_events.proofs.Calm.{down-there}
use Rattle.jn_events.proofs.Closing.{down-does}
use Rattle.jn_events.proofs.ending.take_down.Goals as goal

pub returns-then-not-is_up-clause-does : goal.returns-then-not-is_up-clause-does
returns-then-not-is_up-clause-does g c =
    let look : g.row.S.Denot → StoreView = λ s. g.S.StableStore.view s in
    let device : g.row.S.Denot → DeviceState = λ s. g.S.Powered.device s in
    let w = c.args.world.now in
    let server = c.args.server in
    let within : server.0 < length w.places.items = (let few = c.requires.there in omega (arith, w.places.ok.0)) in
    down-does look device g.met.S.Powered.seen End {A = ℕ} 0 w server c.args.lines.now.items within (sym c.is_up.ensures ∙ c.if-not-is_up.true) c.requires.world

pub returns-then-not-is_up-clause-down : goal.returns-then-not-is_up-clause-down
returns-then-not-is_up-clause-down g c = down-there c.args.world.now.places.items c.args.server.0 (sym c.is_up.ensures ∙ c.if-not-is_up.true)

pub returns-then-not-is_up-clause-quiet : goal.returns-then-not-is_up-clause-quiet
returns-then-not-is_up-clause-quiet g c = λ all. all
