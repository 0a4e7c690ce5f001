use Rattle.jn_events.proofs.Common.{DeviceState, NoSuchServer, ServerDown, StoreView, standing_of, sym, ◌∙◌}
use Rattle.jn_events.proofs.Refusing.{meets-refused, refused-not-there, refused-down, lt-there, lt-none}
use Rattle.jn_events.proofs.meeting.at_server.Goals as goal

pub returns-then-not-has-clause-does : goal.returns-then-not-has-clause-does
returns-then-not-has-clause-does g c =
    let look : g.row.S.Denot → StoreView = λ s. g.S.StableStore.view s in
    let device : g.row.S.Denot → DeviceState = λ s. g.S.Powered.device s in
    let w = standing_of c.args.world.now in
    let q = c.args.server in
    let none = lt-none q.0 c.args.world.now.places (sym c.has.ensures ∙ c.if-not-has.true) in
    meets-refused look device c.args.when c.args.event.now NoSuchServer c.refuse.result w c.args.lines.now.items c.refuse.new.lines.items
    (refused-not-there look device w q c.args.event.now c.requires.its none) (let has = c.requires.world in has.limit) c.refuse.ensures.told c.refuse.ensures.memory

pub returns-then-not-is_up-clause-does : goal.returns-then-not-is_up-clause-does
returns-then-not-is_up-clause-does g c =
    let look : g.row.S.Denot → StoreView = λ s. g.S.StableStore.view s in
    let device : g.row.S.Denot → DeviceState = λ s. g.S.Powered.device s in
    let w = standing_of c.args.world.now in
    let q = c.args.server in
    let there = lt-there q.0 c.args.world.now.places (sym c.has.ensures ∙ c.if-not-has.false) in
    meets-refused look device c.args.when c.args.event.now ServerDown c.refuse-then-not-is_up.result w c.args.lines.now.items c.refuse-then-not-is_up.new.lines.items
    (refused-down look device w q c.args.event.now c.requires.its there.0 there.1 (sym c.is_up.ensures ∙ c.if-not-is_up.true)) (let has = c.requires.world in has.limit) c.refuse-then-not-is_up.ensures.told c.refuse-then-not-is_up.ensures.memory
