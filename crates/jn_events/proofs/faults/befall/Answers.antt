use Rattle.jn_events.proofs.Common.{DeviceState, NoSuchServer, StoreView, standing_of, sym, ◌∙◌}
use Rattle.jn_events.proofs.PageRefusals.{befalls-nothing}
use Rattle.jn_events.proofs.Refusing.{meets-refused, lt-none}
use Rattle.jn_events.proofs.faults.befall.Goals as goal

pub returns-then-not-has-clause-does : goal.returns-then-not-has-clause-does
returns-then-not-has-clause-does g c =
    let look : g.row.S.Denot → StoreView = λ s. g.S.StableStore.view s in
    let device : g.row.S.Denot → DeviceState = λ s. g.S.Powered.device s in
    let w = standing_of c.args.world.now in
    let q = c.args.server in
    let none = lt-none q.0 c.args.world.now.places (sym c.has.ensures ∙ c.if-not-has.true) in
    meets-refused look device c.args.when c.args.event.now NoSuchServer c.refuse.result w c.args.lines.now.items c.refuse.new.lines.items
    (befalls-nothing look device w q c.args.event.now c.requires.its none) (let has = c.requires.world in has.limit) c.refuse.ensures.told c.refuse.ensures.memory
