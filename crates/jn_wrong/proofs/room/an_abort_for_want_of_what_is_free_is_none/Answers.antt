use Rattle.jn_wrong.proofs.Lacked.{none-full, none-full-written}
use Rattle.jn_wrong.proofs.room.an_abort_for_want_of_what_is_free_is_none.Goals as goal

pub returns-clause-of_a_file : goal.returns-clause-of_a_file
returns-clause-of_a_file c = none-full

pub returns-clause-of_a_block : goal.returns-clause-of_a_block
returns-clause-of_a_block c = none-full-written
