use Rattle.jn_at_rest.proofs.Ending.{settles-at-end}
use Rattle.jn_at_rest.proofs.the_end_of_a_whole_run_settles.Goals as goal

pub returns : goal.returns
returns c = λ x schedule images closing lines few range run. settles-at-end x schedule images closing lines few range run
