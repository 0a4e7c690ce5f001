use Rattle.std.proofs.Common.{rules}
use Rattle.jn_recovery.proofs.Gathered.{intention_none, intention_some}
use Rattle.jn_recovery.proofs.gathering.intention_of.Goals as goal

pub returns-in_err-slot : goal.returns-in_err-slot
returns-in_err-slot c = let h = intention_none c.args.sets.now c.args.work c.args.order in search rules

pub returns : goal.returns
returns c = let h = intention_some c.args.sets.now c.args.work c.args.order c.in_ok-slot.slot in search rules
