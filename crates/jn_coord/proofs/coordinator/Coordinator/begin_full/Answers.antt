use Rattle.std.proofs.Common.{rules, Some}
use Rattle.jn_coord.proofs.Beginnings.{not-begun, client-closed-of}
use Rattle.jn_coord.proofs.coordinator.Coordinator.begin_full.Goals as goal

pub returns : goal.returns
returns g c = λ k. not-begun c.args.self.now c.close_client.new.self c.see.new.self _ (g.F.Storage.view c.close_client.new.store) k c.args.client c.args.request c.args.out.now c.send.new.out
    c.requires.fits c.requires.new c.requires.full c.see.ensures.client (client-closed-of (Some c.args.client) _ _ _ _ c.close_client.result c.close_client.ensures (search rules)) (search rules) (search rules)
