use Rattle.jn_page_state.proofs.PoolLaws.{flag_law, dropped_law}
use Rattle.jn_page_state.proofs.pool_laws.a_flag_is_its_record.Goals as goal

pub returns : goal.returns
returns a = record {
  put = λ c slot flag put. flag_law c slot put.slot_free flag put;
  freed = λ c slot t at. dropped_law c slot t at;
}
