use Rattle.std.proofs.Common.{rules}
use Rattle.jn_coord.proofs.Knowing.{clients-stopped}
use Rattle.jn_coord.proofs.Onwards.{clients-kept}
use Rattle.jn_coord.proofs.coordinator.Coordinator.close_clients.Goals as goal

pub returns-then-is_err-clause-does : goal.returns-then-is_err-clause-does
returns-then-is_err-clause-does g c = clients-stopped c.args.self.now c.close_client.new.self _ (g.F.Storage.view c.close_client.new.store) c.close_client.result c.close_client.ensures (search rules)

pub returns-clause-tickets : goal.returns-clause-tickets
returns-clause-tickets g c = clients-kept c.args.self.now c.close_client.new.self _ (g.F.Storage.view c.close_client.new.store) c.close_client.result c.close_client.ensures (search rules)
