use Rattle.jn_works.proofs.LeastFiles.{next_is_least, next_block_is_least}
use Rattle.jn_works.proofs.locked.the_next_locked_unit_is_the_least.Goals as goal

pub returns-clause-file : goal.returns-clause-file
returns-clause-file c = next_is_least

pub returns-clause-block : goal.returns-clause-block
returns-clause-block c = next_block_is_least
