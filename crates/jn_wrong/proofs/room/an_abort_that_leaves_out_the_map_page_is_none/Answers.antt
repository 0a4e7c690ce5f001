use Rattle.jn_wrong.proofs.Lacked.{not-without-map}
use Rattle.jn_wrong.proofs.room.an_abort_that_leaves_out_the_map_page_is_none.Goals as goal

pub returns : goal.returns
returns c = not-without-map
