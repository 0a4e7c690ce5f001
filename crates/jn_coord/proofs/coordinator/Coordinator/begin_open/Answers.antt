use Rattle.std.proofs.Common.{rules, Some, sym}
use Rattle.jn_coord.proofs.Beginnings.{begun, begun-tickets, client-closed-of, room-after}
use Rattle.jn_coord.proofs.coordinator.Coordinator.begin_open.Goals as goal

pub add-requires : goal.add-requires
add-requires g c = record { room = room-after c.args.client c.args.self.now c.close_client.new.self _ (g.F.Storage.view c.close_client.new.store) (client-closed-of (Some c.args.client) _ _ _ _ c.close_client.result c.close_client.ensures (search rules)) c.requires.room }

pub returns-clause-does : goal.returns-clause-does
returns-clause-does g c = begun c.args.self.now c.close_client.new.self c.add.new.self _ (g.F.Storage.view c.close_client.new.store) c.args.tickets.now c.args.client c.args.request c.args.out.now c.send.new.out
    c.requires.fits c.requires.tickets c.requires.new c.requires.room c.add.ensures.client (client-closed-of (Some c.args.client) _ _ _ _ c.close_client.result c.close_client.ensures (search rules)) (search rules) (search rules)

pub returns-clause-drawn : goal.returns-clause-drawn
returns-clause-drawn g c = sym (begun-tickets c.args.self.now c.args.tickets.now c.args.client c.args.request c.requires.new c.requires.room)
