use Rattle.jn_server_tests.proofs.Kept.{stepped}
use Rattle.jn_server_tests.proofs.tests.bench.Bench.step_once.Goals as goal

pub returns : goal.returns
returns g c = record { leaves = stepped _ _ _ _ c.requires.on _ _ _ c.step-stepped.ensures.steps }
