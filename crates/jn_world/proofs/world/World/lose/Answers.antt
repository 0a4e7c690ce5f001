use Rattle.jn_world.proofs.Common.{DeviceState, StoreView, standing_of, ℕ, Ok, refl}
use Rattle.jn_world.proofs.LostCalls.{lost-to, delivered-limit}
use Rattle.jn_world.proofs.Measures.{hands-one}
use Rattle.jn_world.proofs.Places.{delivered-world}
use Rattle.jn_world.proofs.world.World.lose.Goals as goal

pub returns-clause-world : goal.returns-clause-world
returns-clause-world g c =
    let look : g.row.S.Denot → StoreView = λ s. g.S.StableStore.view s in
    delivered-world look c.args.self.now c.args.k c.delivered.new.self c.requires.world c.delivered.ensures

pub returns-clause-does : goal.returns-clause-does
returns-clause-does g c =
    let look : g.row.S.Denot → StoreView = λ s. g.S.StableStore.view s in
    let device : g.row.S.Denot → DeviceState = λ s. g.S.Powered.device s in
    let w = standing_of c.args.self.now in
    let limit = c.requires.world in
    lost-to look device g.met.S.Powered.seen {A = ℕ} w c.args.server c.args.when (Ok 0) (standing_of (record c.args.self.now { net = c.delivered.new.self })) c.args.lines.now.items c.tell.new.lines.items c.args.k c.delivered.new.self
    c.requires.to c.requires.down c.delivered.ensures (refl, c.in_ok-tell.ensures, delivered-limit c.args.self.now.net c.delivered.new.self c.args.k c.delivered.ensures limit.limit)

pub returns-clause-calm : goal.returns-clause-calm
returns-clause-calm g c = λ all. all

pub returns-clause-hands : goal.returns-clause-hands
returns-clause-hands g c = hands-one c.args.self.now.net c.delivered.new.self c.args.k c.delivered.ensures
