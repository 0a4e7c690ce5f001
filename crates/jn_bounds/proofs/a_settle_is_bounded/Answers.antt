use Rattle.jn_bounds.proofs.Common.{closed_world}
use Rattle.jn_bounds.proofs.Sounds.{written-sound}
use Rattle.jn_bounds.proofs.Bounded.{is-bounded}
use Rattle.jn_bounds.proofs.a_settle_is_bounded.Goals as goal

pub returns : goal.returns
returns c = λ x schedule images a b behind few run settles.
    is-bounded x few (closed_world x.servers run.files run.epochs) behind a b (written-sound x few schedule images a run) settles
