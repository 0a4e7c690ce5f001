use Rattle.jn_judged.proofs.Faults.{one-least}
use Rattle.jn_judged.proofs.laws.a_report_has_one_least_fault.Goals as goal

pub returns : goal.returns
returns c = one-least
