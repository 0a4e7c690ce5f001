use Rattle.std.proofs.Common.{[]}
use Rattle.jn_msgs.specs.Collected.{Collected}
use Rattle.jn_server_tests.proofs.Kept.{closed}
use Rattle.jn_server_tests.proofs.tests.bench.Bench.close.Goals as goal

nothing : Collected
nothing = record { messages = []; notes = [] }

pub returns : goal.returns
returns g c = record { leaves = closed _ _ _ _ c.requires.on _ nothing nothing (c.close_clients.ensures.does nothing) }
