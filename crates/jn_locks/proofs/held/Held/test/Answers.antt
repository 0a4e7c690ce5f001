use Rattle.std.proofs.Common.{sym}
use Rattle.jn_locks.proofs.Conflicts.{no_conflict, conflict_is}
use Rattle.jn_locks.proofs.held.Held.test.Goals as goal

pub returns-in-None : goal.returns-in-None
returns-in-None c = no_conflict c.args.self.now c.args.work c.args.wants.now (sym c.in-None.ensures)

pub returns-in-Some : goal.returns-in-Some
returns-in-Some c = conflict_is c.args.self.now c.args.work c.args.wants.now c.in-Some.c (sym c.in-Some.ensures)
