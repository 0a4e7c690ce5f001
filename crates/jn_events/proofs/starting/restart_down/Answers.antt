use Rattle.jn_events.proofs.Common.{DeviceState, BroughtUp, Line, Restart, StoreView, DoesEvent, standing_of, ℕ, [], Ok, sym, subst, List}
use Rattle.jn_events.proofs.Bringing.{restarts-does, memory-on}
use Rattle.jn_events.proofs.ServerEvents.{event-without}
use Rattle.jn_events.proofs.starting.restart_down.Goals as goal

pub returns-clause-does : goal.returns-clause-does
returns-clause-does g c =
    let look : g.row.S.Denot → StoreView = λ s. g.S.StableStore.view s in
    let device : g.row.S.Denot → DeviceState = λ s. g.S.Powered.device s in
    let when = c.args.when in
    let w = standing_of c.args.world.now in
    let first = c.args.lines.now.items in
    let u = standing_of c.bring_up.new.world in
    let told = c.bring_up.new.told.items in
    let all = c.tell_refusal.new.told.items in
    let e = c.in_ok-came.ensures in
    let limit = c.requires.world.limit in
    let now : BroughtUp look device c.args.server when w c.in_ok-came.came u [] told = subst (λ (l : List Line). BroughtUp look device c.args.server when w c.in_ok-came.came u l told) c.new-told.ensures.items e.brought in
    subst (λ (l : List Line). DoesEvent {A = ℕ} look device (Restart c.args.server) when w (Ok 0) u first l) (sym c.in_ok-append.ensures.items)
    (restarts-does look device g.met.S.Powered.seen c.args.server when w u first told {A = ℕ} 0 c.in_ok-came.came all now c.in_ok-tell_refusal.ensures.told limit)

pub returns-in_err-came-clause-does : goal.returns-in_err-came-clause-does
returns-in_err-came-clause-does g c =
    let look : g.row.S.Denot → StoreView = λ s. g.S.StableStore.view s in
    let device : g.row.S.Denot → DeviceState = λ s. g.S.Powered.device s in
    let fails = c.in_err-came.ensures in
    event-without look device g.met.S.Powered.seen c.from_residual.result (Restart c.args.server) c.args.when (standing_of c.args.world.now) (standing_of c.bring_up.new.world) c.args.lines.now.items c.args.lines.now.items
    c.from_residual.ensures.0 (memory-on c.from_residual.result c.in_err-came.field-0.0 c.from_residual.ensures.1 fails.memory)

pub returns-in_err-tell_refusal-clause-does : goal.returns-in_err-tell_refusal-clause-does
returns-in_err-tell_refusal-clause-does g c =
    let look : g.row.S.Denot → StoreView = λ s. g.S.StableStore.view s in
    let device : g.row.S.Denot → DeviceState = λ s. g.S.Powered.device s in
    let fails = c.in_err-tell_refusal.ensures in
    event-without look device g.met.S.Powered.seen c.from_residual-in_err-tell_refusal.result (Restart c.args.server) c.args.when (standing_of c.args.world.now) (standing_of c.bring_up.new.world) c.args.lines.now.items c.args.lines.now.items
    c.from_residual-in_err-tell_refusal.ensures.0 (memory-on c.from_residual-in_err-tell_refusal.result c.in_err-tell_refusal.field-0.0 c.from_residual-in_err-tell_refusal.ensures.1 fails.memory)

pub returns-in_err-append-clause-does : goal.returns-in_err-append-clause-does
returns-in_err-append-clause-does g c =
    let look : g.row.S.Denot → StoreView = λ s. g.S.StableStore.view s in
    let device : g.row.S.Denot → DeviceState = λ s. g.S.Powered.device s in
    event-without look device g.met.S.Powered.seen c.from_residual-in_err-append.result (Restart c.args.server) c.args.when (standing_of c.args.world.now) (standing_of c.bring_up.new.world) c.args.lines.now.items _
    c.from_residual-in_err-append.ensures.0 c.from_residual-in_err-append.ensures.1
