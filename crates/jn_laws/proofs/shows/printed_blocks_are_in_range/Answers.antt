use Rattle.jn_laws.proofs.Printed.{prints-in-range, world-in-range}
use Rattle.jn_laws.proofs.shows.printed_blocks_are_in_range.Goals as goal

pub returns : goal.returns
returns c = λ x schedule images m few ranges written. prints-in-range m.state.course.world (world-in-range x few schedule images m ranges written)
