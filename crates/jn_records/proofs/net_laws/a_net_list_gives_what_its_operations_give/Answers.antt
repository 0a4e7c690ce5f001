use Rattle.jn_records.proofs.CarriedLemmas.{carried-ops}
use Rattle.jn_records.proofs.net_laws.a_net_list_gives_what_its_operations_give.Goals as goal

pub returns : goal.returns
returns c = λ list ops files h same did. carried-ops list ops files h.order same did
