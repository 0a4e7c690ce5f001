use Rattle.jn_events.proofs.Common.{DeviceState, BroughtUp, DoesTasks, ComesUp, Line, StoreView, standing_of, ℕ, ◌∷◌, [], Bool, Ok, true, false, sym, subst, List}
use Rattle.jn_events.proofs.Bringing.{up-came, up-cut, memory-on}
use Rattle.jn_events.proofs.Turns.{does-without}
use Rattle.jn_events.proofs.starting.bring_up_at_once.Goals as goal

pub returns-clause-does : goal.returns-clause-does
returns-clause-does g c =
    let look : g.row.S.Denot → StoreView = λ s. g.S.StableStore.view s in
    let device : g.row.S.Denot → DeviceState = λ s. g.S.Powered.device s in
    let when = c.args.when in
    let w = standing_of c.args.world.now in
    let first = c.args.lines.now.items in
    let u = standing_of c.bring_up.new.world in
    let told = c.bring_up.new.told.items in
    let e = c.in_ok-came.ensures in
    let now : BroughtUp look device c.args.server when w c.in_ok-came.came u [] told = subst (λ (l : List Line). BroughtUp look device c.args.server when w c.in_ok-came.came u l told) c.new-told.ensures.items e.brought in
    let b : BroughtUp look device c.args.server when w true u [] told = subst (λ (x : Bool). BroughtUp look device c.args.server when w x u [] told) c.if-not-came.false now in
    subst (λ (l : List Line). DoesTasks {A = ℕ} look device (λ x. ComesUp c.args.server ∷ []) when w (Ok 0) u first l) (sym c.in_ok-append.ensures.items)
    (up-came look device g.met.S.Powered.seen c.args.server when w u first told {A = ℕ} 0 b c.requires.world.limit)

pub returns-then-not-came-clause-does : goal.returns-then-not-came-clause-does
returns-then-not-came-clause-does g c =
    let look : g.row.S.Denot → StoreView = λ s. g.S.StableStore.view s in
    let device : g.row.S.Denot → DeviceState = λ s. g.S.Powered.device s in
    let when = c.args.when in
    let w = standing_of c.args.world.now in
    let first = c.args.lines.now.items in
    let u = standing_of c.bring_up.new.world in
    let told = c.bring_up.new.told.items in
    let e = c.in_ok-came.ensures in
    let now : BroughtUp look device c.args.server when w c.in_ok-came.came u [] told = subst (λ (l : List Line). BroughtUp look device c.args.server when w c.in_ok-came.came u l told) c.new-told.ensures.items e.brought in
    let b : BroughtUp look device c.args.server when w false u [] told = subst (λ (x : Bool). BroughtUp look device c.args.server when w x u [] told) c.if-not-came.true now in
    up-cut look device g.met.S.Powered.seen c.args.server when w u first told ℕ u b

pub returns-in_err-came-clause-does : goal.returns-in_err-came-clause-does
returns-in_err-came-clause-does g c =
    let look : g.row.S.Denot → StoreView = λ s. g.S.StableStore.view s in
    let device : g.row.S.Denot → DeviceState = λ s. g.S.Powered.device s in
    let fails = c.in_err-came.ensures in
    does-without look device c.args.when _ c.from_residual.result (λ x. ComesUp c.args.server ∷ []) (standing_of c.args.world.now) (standing_of c.bring_up.new.world) c.args.lines.now.items c.args.lines.now.items
    c.from_residual.ensures.0 (memory-on c.from_residual.result c.in_err-came.field-0.0 c.from_residual.ensures.1 fails.memory)

pub returns-in_err-append-clause-does : goal.returns-in_err-append-clause-does
returns-in_err-append-clause-does g c =
    let look : g.row.S.Denot → StoreView = λ s. g.S.StableStore.view s in
    let device : g.row.S.Denot → DeviceState = λ s. g.S.Powered.device s in
    does-without look device c.args.when _ c.from_residual-in_err-append.result (λ x. ComesUp c.args.server ∷ []) (standing_of c.args.world.now) (standing_of c.bring_up.new.world) c.args.lines.now.items _
    c.from_residual-in_err-append.ensures.0 c.from_residual-in_err-append.ensures.1

pub returns-clause-calm : goal.returns-clause-calm
returns-clause-calm g c = let e = c.in_ok-came.ensures in e.calm c.if-not-came.false
