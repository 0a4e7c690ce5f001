use Rattle.jn_wrong.proofs.Lacked.{not-pages}
use Rattle.jn_wrong.proofs.room.an_abort_for_want_of_pages_that_are_free_is_none.Goals as goal

pub returns : goal.returns
returns c = not-pages
