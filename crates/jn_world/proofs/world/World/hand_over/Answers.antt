use Rattle.jn_world.proofs.Common.{Client, Server, sym}
use Rattle.jn_world.proofs.LostCalls.{to-it}
use Rattle.jn_world.proofs.world.World.hand_over.Goals as goal

pub take_at_client-requires-clause-to : goal.take_at_client-requires-clause-to
take_at_client-requires-clause-to g c = to-it c.args.self.now.net.sent c.args.k c.in-Some.sent.now (Client c.in-Client.client) (sym c.in-Some.ensures) c.in-Client.is

pub take_at_server-requires-clause-to : goal.take_at_server-requires-clause-to
take_at_server-requires-clause-to g c = to-it c.args.self.now.net.sent c.args.k c.in-Some.sent.now (Server c.in-Server.server) (sym c.in-Some.ensures) c.in-Server.is
