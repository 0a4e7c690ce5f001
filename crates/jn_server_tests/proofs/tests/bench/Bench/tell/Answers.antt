use Rattle.jn_server_tests.proofs.Kept.{told}
use Rattle.jn_server_tests.proofs.tests.bench.Bench.tell.Goals as goal

pub returns : goal.returns
returns g c = record { leaves = told _ _ _ _ c.requires.on _ _ _ _ c.handle-handled.ensures.does }
