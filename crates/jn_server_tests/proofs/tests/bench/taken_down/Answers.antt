use Rattle.jn_server_tests.proofs.Kept.{left-begins}
use Rattle.jn_server_tests.proofs.tests.bench.taken_down.Goals as goal

pub returns : goal.returns
returns g c = left-begins c.args.bench.counts _ _ c.requires c.crash.ensures.left
