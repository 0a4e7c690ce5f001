use Rattle.jn_worker.proofs.Common.{subst, sym, table, LocksMatch, match_none}
use Rattle.jn_worker.proofs.worker.Worker.new.Goals as goal

pub invariant_of-result : goal.invariant_of-result
invariant_of-result c = subst (λ ws. LocksMatch ws (table c.new-locks.result)) (sym c.new.ensures.items) (match_none (table c.new-locks.result) c.new-locks.ensures.holds c.new-locks.ensures.standing)
