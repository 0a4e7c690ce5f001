use Rattle.jn_events.proofs.Common.{DeviceState, Carried, Place, StoreView, AreQuiet, World, AreDisarmed, ap, sym, subst, List}
use Rattle.jn_events.proofs.Calm.{quiet-disarmed}
use Rattle.jn_events.proofs.Finishing.{dismissed-standing}
use Rattle.jn_events.proofs.Places.{world-net}
use Rattle.jn_events.proofs.ending.dismiss.Goals as goal

pub dismiss_clients-requires : goal.dismiss_clients-requires
dismiss_clients-requires g c =
    let look : g.row.S.Denot → StoreView = λ s. g.S.StableStore.view s in
    world-net look c.disarm_all.new.world c.forget_waiting.new.self c.disarm_all.ensures.world (ap (λ (x : Carried). x.sent) c.forget_waiting.ensures)

pub returns-clause-dismissed : goal.returns-clause-dismissed
returns-clause-dismissed g c =
    dismissed-standing c.args.world.now c.disarm_all.new.world c.dismiss_clients.new.world c.forget_waiting.new.self c.disarm_all.ensures.others c.forget_waiting.ensures c.dismiss_clients.ensures.others c.dismiss_clients.ensures.over

pub returns-clause-disarmed : goal.returns-clause-disarmed
returns-clause-disarmed g c =
    let look : g.row.S.Denot → StoreView = λ s. g.S.StableStore.view s in
    let device : g.row.S.Denot → DeviceState = λ s. g.S.Powered.device s in
    subst (λ (ps : List (Place g.row.S.Denot)). AreDisarmed look device c.args.world.now.places.items ps) (sym (ap (λ (w : World g.row.S.Denot). w.places.items) c.dismiss_clients.ensures.others)) c.disarm_all.ensures.disarmed

pub returns-clause-quiet : goal.returns-clause-quiet
returns-clause-quiet g c =
    let look : g.row.S.Denot → StoreView = λ s. g.S.StableStore.view s in
    let device : g.row.S.Denot → DeviceState = λ s. g.S.Powered.device s in
    subst (λ (ps : List (Place g.row.S.Denot)). AreQuiet look ps) (sym (ap (λ (w : World g.row.S.Denot). w.places.items) c.dismiss_clients.ensures.others))
    (quiet-disarmed look device g.met.S.Powered.seen c.args.world.now.places.items c.disarm_all.new.world.places.items c.disarm_all.ensures.disarmed)
