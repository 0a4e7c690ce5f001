use Rattle.jn_wrong.proofs.Lacked.{made-where-lacking, written-where-lacking, mapped-where-lacking, made-by-one}
use Rattle.jn_wrong.proofs.room.an_abort_comes_where_room_is_lacking.Goals as goal

pub returns-clause-for_a_file : goal.returns-clause-for_a_file
returns-clause-for_a_file c = made-where-lacking

pub returns-clause-for_a_block : goal.returns-clause-for_a_block
returns-clause-for_a_block c = written-where-lacking

pub returns-clause-with_one_record : goal.returns-clause-with_one_record
returns-clause-with_one_record c = made-by-one

pub returns-clause-for_a_map_page : goal.returns-clause-for_a_map_page
returns-clause-for_a_map_page c = mapped-where-lacking
