use Rattle.jn_world.proofs.Common.{Carried, StoreView, IsWorld, subst, sym}
use Rattle.jn_world.proofs.world.World.make_step.Goals as goal

pub step_into-requires-clause-world : goal.step_into-requires-clause-world
step_into-requires-clause-world g c =
    let look : g.row.S.Denot → StoreView = λ s. g.S.StableStore.view s in
    subst (λ (n : Carried). IsWorld look (record c.args.self.now { net = n })) (sym c.lend_room-out.ensures.same) c.requires.world
