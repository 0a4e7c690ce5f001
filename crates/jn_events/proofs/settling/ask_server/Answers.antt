use Rattle.jn_events.proofs.Common.{DeviceState, StoreView, standing_of, ℕ, Ok, refl, sym, ◌∙◌, arith}
use Rattle.jn_events.proofs.ServerEvents.{nudged-idle}
use Rattle.jn_events.proofs.settling.ask_server.Goals as goal

pub returns-then-not-is_up-clause-does : goal.returns-then-not-is_up-clause-does
returns-then-not-is_up-clause-does g c =
    let look : g.row.S.Denot → StoreView = λ s. g.S.StableStore.view s in
    let device : g.row.S.Denot → DeviceState = λ s. g.S.Powered.device s in
    let w = standing_of c.args.world.now in
    let q = c.args.server in
    let first = c.args.lines.now.items in
    let has = c.requires.world in
    nudged-idle look device g.met.S.Powered.seen {A = ℕ} w q c.args.when (Ok 0) w first first (let there = c.requires.there in omega (arith, c.args.world.now.places.ok.0)) (sym c.is_up.ensures ∙ c.if-not-is_up.true) (refl, refl, has.limit)

pub returns-then-not-is_up-clause-calm : goal.returns-then-not-is_up-clause-calm
returns-then-not-is_up-clause-calm g c = λ all. all
