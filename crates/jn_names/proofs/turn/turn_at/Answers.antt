unfoldable use Rattle.jn_order.specs.Files.{zeros}
use Rattle.jn_names.proofs.turn.turn_at.Goals as goal

pub returns-in-Did-clause-ok : goal.returns-in-Did-clause-ok
unfolding zeros
returns-in-Did-clause-ok c = rw c.in-Did.is c.go_on.ensures.ok
