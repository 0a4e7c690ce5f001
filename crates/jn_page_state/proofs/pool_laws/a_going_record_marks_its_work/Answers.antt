use Rattle.jn_page_state.proofs.PoolLaws.{going_law}
use Rattle.jn_page_state.proofs.pool_laws.a_going_record_marks_its_work.Goals as goal

pub returns : goal.returns
returns a c slot head n reads at = going_law c slot head n reads at
