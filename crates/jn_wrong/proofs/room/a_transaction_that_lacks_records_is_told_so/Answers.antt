use Rattle.jn_wrong.proofs.Rightly.{lacks-records}
use Rattle.jn_wrong.proofs.room.a_transaction_that_lacks_records_is_told_so.Goals as goal

pub returns : goal.returns
returns c = lacks-records
