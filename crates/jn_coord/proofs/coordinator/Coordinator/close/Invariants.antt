use Rattle.jn_coord.proofs.Common.{◌≤◌, ◌+◌, length, ClosesOn}
use Rattle.jn_coord.proofs.coordinator.Coordinator.close.Given as goal

abbrev pub invariant-loop-closed : goal.invariant-loop-closed
invariant-loop-closed g l = ClosesOn l.who l.fn.self (g.F.Storage.view l.fn.store) l.self (g.F.Storage.view l.store) × (length l.self.transactions + l._closed ≤ length l.fn.self.transactions)
