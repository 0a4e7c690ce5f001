use Rattle.jn_records.proofs.NetLemmas.{list-net}
use Rattle.jn_records.proofs.CarriedLemmas.{carried-change}
use Rattle.jn_records.proofs.net_laws.a_list_is_one_change.Goals as goal

pub returns-clause-carried : goal.returns-clause-carried
returns-clause-carried c = carried-change

pub returns-clause-net : goal.returns-clause-net
returns-clause-net c = λ list h. list-net list h.order
