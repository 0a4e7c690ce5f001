use Rattle.jn_machine.proofs.Common.{refl, before}
use Rattle.jn_machine.proofs.Quiet.{count-run}
use Rattle.jn_machine.proofs.commits_are_counted.Goals as goal

pub returns : goal.returns
returns c x schedule files epochs t m = count-run x (before x schedule files epochs) t m refl
