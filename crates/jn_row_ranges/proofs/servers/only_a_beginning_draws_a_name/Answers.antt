use Rattle.jn_row_ranges.proofs.Lightening.{only-beginnings}
use Rattle.jn_row_ranges.proofs.servers.only_a_beginning_draws_a_name.Goals as goal

pub returns : goal.returns
returns c = only-beginnings
