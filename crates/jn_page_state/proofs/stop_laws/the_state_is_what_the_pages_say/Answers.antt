use Rattle.jn_page_state.proofs.FilesOnPages.{state_on_pages}
use Rattle.jn_page_state.proofs.stop_laws.the_state_is_what_the_pages_say.Goals as goal

pub returns : goal.returns
returns a server g pages format = state_on_pages g pages format.root.2.leaves format.heads
