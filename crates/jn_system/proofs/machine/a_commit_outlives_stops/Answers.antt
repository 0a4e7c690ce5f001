use Rattle.std.proofs.Common.{refl}
use Rattle.jn_system.proofs.SmallSteps.ExampleRun.{may_run}
use Rattle.jn_system.proofs.machine.a_commit_outlives_stops.Goals as goal

pub returns : goal.returns
returns c = record { may = may_run; commit = refl; file = λ c. refl }
