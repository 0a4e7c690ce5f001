use Rattle.jn_judged.proofs.Faults.{least-or-none}
use Rattle.jn_judged.proofs.laws.a_faulty_report_has_a_least_fault.Goals as goal

pub returns : goal.returns
returns c = least-or-none
