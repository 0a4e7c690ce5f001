use Rattle.jn_page_state.proofs.PoolLaws.{idle_law}
use Rattle.jn_page_state.proofs.pool_laws.an_intention_without_its_work_changes_nothing.Goals as goal

pub returns : goal.returns
returns a c slot new put = idle_law c slot new put
