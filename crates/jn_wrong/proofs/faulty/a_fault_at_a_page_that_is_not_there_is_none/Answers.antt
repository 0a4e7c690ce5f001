use Rattle.jn_wrong.proofs.Told.{no-page}
use Rattle.jn_wrong.proofs.faulty.a_fault_at_a_page_that_is_not_there_is_none.Goals as goal

pub returns : goal.returns
returns c = no-page
