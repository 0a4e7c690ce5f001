use Rattle.jn_wrong.proofs.Turns.{by-turns}
use Rattle.jn_wrong.proofs.telling.a_server_comes_up_and_goes_down_by_turns.Goals as goal

pub returns : goal.returns
returns c = by-turns
