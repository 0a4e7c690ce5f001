use Rattle.jn_world.proofs.Common.{Carried, StoreView, IsWorld, subst, sym}
use Rattle.jn_world.proofs.world.World.take_at_server.Goals as goal

pub take_at_up-requires-clause-world : goal.take_at_up-requires-clause-world
take_at_up-requires-clause-world g c =
    let look : g.row.S.Denot → StoreView = λ s. g.S.StableStore.view s in
    subst (λ (n : Carried). IsWorld look (record c.args.self.now { net = n })) (sym c.lend_room-out.ensures.same) c.requires.world
