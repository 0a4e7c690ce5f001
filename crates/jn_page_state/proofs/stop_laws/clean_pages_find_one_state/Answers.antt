use Rattle.jn_page_state.proofs.CleanPages.{one_state}
use Rattle.jn_page_state.proofs.stop_laws.clean_pages_find_one_state.Goals as goal

pub returns : goal.returns
returns a server g v readable front maps clean = one_state server g v readable front maps clean
