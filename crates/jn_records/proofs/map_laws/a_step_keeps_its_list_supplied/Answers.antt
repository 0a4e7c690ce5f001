use Rattle.jn_records.proofs.Supplied.{supplied-step}
use Rattle.jn_records.proofs.map_laws.a_step_keeps_its_list_supplied.Goals as goal

pub returns : goal.returns
returns c = supplied-step
