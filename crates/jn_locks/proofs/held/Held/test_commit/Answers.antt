use Rattle.jn_locks.proofs.Common.{sym, subst, Wants, NoConflict, IsConflict, at, units_of, table_of, intentions}
use Rattle.jn_locks.proofs.Conflicts.{no_conflict, conflict_is}
use Rattle.jn_locks.proofs.Intends.{same_wants}
use Rattle.jn_locks.proofs.held.Held.test_commit.Goals as goal

pub returns-in-None : goal.returns-in-None
returns-in-None c = subst (λ (w : Wants). NoConflict (table_of c.args.self.now) c.args.work w) (same_wants c.args.self.now c.requires c.args.work)
    (no_conflict c.args.self.now c.args.work (intentions (at c.args.self.now.units) c.args.work (units_of c.args.self.now.works c.args.work)) (sym c.in-None.ensures))

pub returns-in-Some : goal.returns-in-Some
returns-in-Some c = subst (λ (w : Wants). IsConflict (table_of c.args.self.now) c.args.work w c.in-Some.c) (same_wants c.args.self.now c.requires c.args.work)
    (conflict_is c.args.self.now c.args.work (intentions (at c.args.self.now.units) c.args.work (units_of c.args.self.now.works c.args.work)) c.in-Some.c (sym c.in-Some.ensures))
