use Rattle.jn_laws.proofs.Printed.{shows-in-range}
use Rattle.jn_laws.proofs.shows.a_show_prints_the_blocks_of_its_files.Goals as goal

pub returns : goal.returns
returns c = λ x schedule images m n few ranges written d q reads whole. shows-in-range x schedule images m n few ranges written d q reads whole
