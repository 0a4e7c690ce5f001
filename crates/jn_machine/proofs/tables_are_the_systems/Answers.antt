use Rattle.jn_machine.proofs.Common.{ap, ClientNo, ClientTable}
use Rattle.jn_machine.proofs.Clients.{before-tables}
use Rattle.jn_machine.proofs.tables_are_the_systems.Goals as goal

pub returns : goal.returns
returns c x schedule files epochs t m d = ap (λ (f : ClientNo → ClientTable). f d) (before-tables x schedule files epochs t m)
