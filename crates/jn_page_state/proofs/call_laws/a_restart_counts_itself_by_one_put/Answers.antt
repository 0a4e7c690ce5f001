use Rattle.jn_page_state.proofs.CallLaws.{counts_on}
use Rattle.jn_page_state.proofs.call_laws.a_restart_counts_itself_by_one_put.Goals as goal

pub returns : goal.returns
returns a server g v w epoch later records heads rows ok standing is le = counts_on server g v w epoch records heads rows ok standing later is le
