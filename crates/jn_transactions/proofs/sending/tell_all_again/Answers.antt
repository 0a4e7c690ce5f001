use Rattle.std.proofs.Common.{rules}
use Rattle.jn_transactions.proofs.Sends.{again_step}
use Rattle.jn_transactions.proofs.sending.tell_all_again.Goals as goal

pub loop-x-preserved : goal.loop-x-preserved
loop-x-preserved c = again_step c.args.out.now c.loop-x.out _ c.x-item.result c.args.transactions.now c.loop-x.x-index (search rules) c.x-item.is c.loop-x.invariant c.in_ok-tell_again.ensures
