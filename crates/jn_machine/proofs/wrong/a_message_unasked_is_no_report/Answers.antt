use Rattle.jn_machine.proofs.Common.{refl, a_message_told}
use Rattle.jn_machine.proofs.Refuted.{unasked}
use Rattle.jn_machine.proofs.wrong.a_message_unasked_is_no_report.Goals as goal

pub returns : goal.returns
returns c = unasked a_message_told refl
