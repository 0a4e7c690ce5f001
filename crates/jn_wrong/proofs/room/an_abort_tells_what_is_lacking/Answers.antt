use Rattle.jn_wrong.proofs.Lacked.{made-lacking, written-lacking, mapped-lacking}
use Rattle.jn_wrong.proofs.room.an_abort_tells_what_is_lacking.Goals as goal

pub returns-clause-for_a_file : goal.returns-clause-for_a_file
returns-clause-for_a_file c = made-lacking

pub returns-clause-for_a_block : goal.returns-clause-for_a_block
returns-clause-for_a_block c = written-lacking

pub returns-clause-for_a_map_page : goal.returns-clause-for_a_map_page
returns-clause-for_a_map_page c = mapped-lacking
