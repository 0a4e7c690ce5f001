use Rattle.jn_events.proofs.Common.{DeviceState, NoSuchMessage, Deliver, StoreView, standing_of, ◌≡◌, false, true, length, refl, arith, nat_tests, nat_lt}
use Rattle.jn_events.proofs.Refusing.{no-message, some-message, meets-refused, meets-done}
use Rattle.jn_events.proofs.meeting.deliver.Goals as goal

pub returns-then-k-count-clause-does : goal.returns-then-k-count-clause-does
returns-then-k-count-clause-does g c =
    let look : g.row.S.Denot → StoreView = λ s. g.S.StableStore.view s in
    let device : g.row.S.Denot → DeviceState = λ s. g.S.Powered.device s in
    let w = standing_of c.args.world.now in
    let many = c.count.ensures.count in
    let none : nat_lt c.args.k (length c.args.world.now.net.sent) ≡ false = grind (arith, nat_tests) in
    meets-refused look device c.args.when (Deliver c.args.k) NoSuchMessage c.refuse.result w c.args.lines.now.items c.refuse.new.lines.items
    (no-message look device g.met.S.Powered.seen c.args.k w none) (let limit = c.requires.world in limit.limit) c.refuse.ensures.told c.refuse.ensures.memory

pub returns-clause-does : goal.returns-clause-does
returns-clause-does g c =
    let look : g.row.S.Denot → StoreView = λ s. g.S.StableStore.view s in
    let device : g.row.S.Denot → DeviceState = λ s. g.S.Powered.device s in
    let w = standing_of c.args.world.now in
    let many = c.count.ensures.count in
    let some : nat_lt c.args.k (length c.args.world.now.net.sent) ≡ true = grind (arith, nat_tests) in
    meets-done look device c.args.when (Deliver c.args.k) c.hand_over.result w (standing_of c.hand_over.new.self) c.args.lines.now.items c.hand_over.new.lines.items refl
    (some-message look device g.met.S.Powered.seen c.args.k w some) c.hand_over.ensures.does
