use Rattle.jn_rows.proofs.ClientKeeps.{take_keeps}
use Rattle.jn_rows.proofs.laws.a_clients_works_stand_apart.Goals as goal

pub returns-clause-messages : goal.returns-clause-messages
returns-clause-messages c t m h = take_keeps t m h
