use Rattle.jn_page_state.proofs.PoolLaws.{removed_law}
use Rattle.jn_page_state.proofs.pool_laws.a_freed_record_removes_its_work.Goals as goal

pub returns : goal.returns
returns a c slot work at = removed_law c slot work at
