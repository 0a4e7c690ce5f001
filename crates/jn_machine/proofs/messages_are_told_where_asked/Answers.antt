use Rattle.jn_machine.proofs.Common.{refl, before}
use Rattle.jn_machine.proofs.Quiet.{quiet-run}
use Rattle.jn_machine.proofs.messages_are_told_where_asked.Goals as goal

pub returns : goal.returns
returns c x schedule files epochs t m quiet = quiet-run x quiet (before x schedule files epochs) t m refl
