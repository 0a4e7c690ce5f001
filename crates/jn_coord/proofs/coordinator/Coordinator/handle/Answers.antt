use Rattle.jn_coord.proofs.Onwards.{tickets-kept}
use Rattle.jn_coord.proofs.coordinator.Coordinator.handle.Goals as goal

pub returns-in-Ok-clause-tickets : goal.returns-in-Ok-clause-tickets
returns-in-Ok-clause-tickets g c = tickets-kept c.args.self.now c.take_any.new.self _ (g.F.Storage.view c.take_any.new.store) c.args.tickets.now c.take_any.new.tickets c.args.message.now _ c.args.out.now c.take_any.new.out c.requires.tickets c.in-Ok.ensures.does c.in-Ok.ensures.drawn
