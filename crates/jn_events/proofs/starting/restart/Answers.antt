use Rattle.jn_events.proofs.Common.{DeviceState, NoSuchServer, ServerUp, Restart, StoreView, standing_of, sym, ◌∙◌, refl}
use Rattle.jn_events.proofs.Refusing.{meets-refused, meets-done, lt-there, lt-none}
use Rattle.jn_events.proofs.RestartRefusals.{restart-not-there, restart-up, restart-down}
use Rattle.jn_events.proofs.starting.restart.Goals as goal

pub returns-then-not-has-clause-does : goal.returns-then-not-has-clause-does
returns-then-not-has-clause-does g c =
    let look : g.row.S.Denot → StoreView = λ s. g.S.StableStore.view s in
    let device : g.row.S.Denot → DeviceState = λ s. g.S.Powered.device s in
    let w = standing_of c.args.world.now in
    let q = c.args.server in
    let none = lt-none q.0 c.args.world.now.places (sym c.has.ensures ∙ c.if-not-has.true) in
    meets-refused look device c.args.when (Restart q) NoSuchServer c.refuse.result w c.args.lines.now.items c.refuse.new.lines.items
    (λ x m stands. restart-not-there look device w q x m stands none) (let has = c.requires.world in has.limit) c.refuse.ensures.told c.refuse.ensures.memory

pub returns-then-is_up-clause-does : goal.returns-then-is_up-clause-does
returns-then-is_up-clause-does g c =
    let look : g.row.S.Denot → StoreView = λ s. g.S.StableStore.view s in
    let device : g.row.S.Denot → DeviceState = λ s. g.S.Powered.device s in
    let w = standing_of c.args.world.now in
    let q = c.args.server in
    let there = lt-there q.0 c.args.world.now.places (sym c.has.ensures ∙ c.if-not-has.false) in
    meets-refused look device c.args.when (Restart q) ServerUp c.refuse-then-is_up.result w c.args.lines.now.items c.refuse-then-is_up.new.lines.items
    (λ x m stands. restart-up look device w q x m stands there.0 there.1 (sym c.is_up.ensures ∙ c.if-is_up.true)) (let has = c.requires.world in has.limit) c.refuse-then-is_up.ensures.told c.refuse-then-is_up.ensures.memory

pub returns-clause-does : goal.returns-clause-does
returns-clause-does g c =
    let look : g.row.S.Denot → StoreView = λ s. g.S.StableStore.view s in
    let device : g.row.S.Denot → DeviceState = λ s. g.S.Powered.device s in
    let w = standing_of c.args.world.now in
    let q = c.args.server in
    let there = lt-there q.0 c.args.world.now.places (sym c.has.ensures ∙ c.if-not-has.false) in
    meets-done look device c.args.when (Restart q) c.restart_down.result w (standing_of c.restart_down.new.world) c.args.lines.now.items c.restart_down.new.lines.items refl
    (λ x m stands. restart-down look device w q x m stands there.0 there.1 (sym c.is_up.ensures ∙ c.if-is_up.false)) c.restart_down.ensures.does
