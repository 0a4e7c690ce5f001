use Rattle.jn_node_laws.proofs.Existing.{some-given}
use Rattle.jn_node_laws.proofs.some_end_is_given.Goals as goal

pub returns : goal.returns
returns c = some-given c.what_is_read_can_be_taken.ensures.given
