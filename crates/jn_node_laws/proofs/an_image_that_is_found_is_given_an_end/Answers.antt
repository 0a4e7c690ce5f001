use Rattle.jn_node_laws.proofs.Existing.{found-given}
use Rattle.jn_node_laws.proofs.an_image_that_is_found_is_given_an_end.Goals as goal

pub returns : goal.returns
returns c = found-given c.what_is_read_can_be_taken.ensures.given
