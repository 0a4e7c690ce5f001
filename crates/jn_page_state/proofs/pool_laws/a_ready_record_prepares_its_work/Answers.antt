use Rattle.jn_page_state.proofs.PoolLaws.{ready_law}
use Rattle.jn_page_state.proofs.pool_laws.a_ready_record_prepares_its_work.Goals as goal

pub returns : goal.returns
returns a c slot head n list reads put = ready_law c slot put.slot_free head n list reads put
