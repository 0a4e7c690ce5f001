use Rattle.jn_wrong.proofs.Rightly.{makes-file}
use Rattle.jn_wrong.proofs.room.a_transaction_that_finds_room_commits.Goals as goal

pub returns : goal.returns
returns c = makes-file
