use Rattle.std.specs.Prelude.{◌⊎◌}
use Rattle.jn_system_settling.proofs.Common.{servers_from, ComesNext, IsHalt}
use Rattle.jn_system_settling.proofs.Settling.Loops.{in-turn}
use Rattle.jn_system_settling.proofs.rests.steps_come_in_turn.Goals as goal

pub returns-clause-next : goal.returns-clause-next
returns-clause-next c = λ servers steps more d h k. in-turn (ComesNext servers) steps more d h k

pub returns-clause-anyhow : goal.returns-clause-anyhow
returns-clause-anyhow c = λ servers steps more d h k. in-turn (λ now step. ComesNext (servers_from 0 servers) now step ⊎ IsHalt servers step) steps more d h k
