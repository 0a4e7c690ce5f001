use Rattle.jn_page_state.proofs.PagePuts.{put_is_read, keeps_format}
use Rattle.jn_page_state.proofs.stop_laws.a_put_page_is_read_again.Goals as goal

pub returns : goal.returns
returns a = record {
  contents = λ server g pages put format is. put_is_read server g pages format put is;
  format = λ server g pages put format is may. keeps_format server g pages format put is may;
}
