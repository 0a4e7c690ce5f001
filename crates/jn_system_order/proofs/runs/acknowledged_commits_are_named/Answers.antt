use Rattle.jn_system_order.proofs.Ordering.Runs.{runs-name}
use Rattle.jn_system_order.proofs.runs.acknowledged_commits_are_named.Goals as goal

pub returns : goal.returns
returns c = runs-name
