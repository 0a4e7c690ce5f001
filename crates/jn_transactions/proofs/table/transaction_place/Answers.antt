use Rattle.jn_transactions.proofs.Tables.{from-zero}
use Rattle.jn_transactions.proofs.table.transaction_place.Goals as goal

pub loop-i-init : goal.loop-i-init
loop-i-init c = from-zero c.args.tid c.args.transactions.now
