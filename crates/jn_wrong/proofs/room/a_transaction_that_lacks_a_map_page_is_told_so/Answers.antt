use Rattle.jn_wrong.proofs.Rightly.{lacks-map-page}
use Rattle.jn_wrong.proofs.room.a_transaction_that_lacks_a_map_page_is_told_so.Goals as goal

pub returns : goal.returns
returns c = lacks-map-page
