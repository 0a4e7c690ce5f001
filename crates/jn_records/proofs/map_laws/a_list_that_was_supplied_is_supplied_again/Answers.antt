use Rattle.jn_records.proofs.Supplied.{supplied-again}
use Rattle.jn_records.proofs.map_laws.a_list_that_was_supplied_is_supplied_again.Goals as goal

pub returns : goal.returns
returns c = supplied-again
