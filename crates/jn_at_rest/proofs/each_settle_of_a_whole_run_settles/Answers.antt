use Rattle.jn_at_rest.proofs.Each.{settle-each}
use Rattle.jn_at_rest.proofs.each_settle_of_a_whole_run_settles.Goals as goal

pub returns : goal.returns
returns c = λ x schedule images closing lines few run. settle-each x schedule images closing lines few run
