use Rattle.jn_node_laws.proofs.Leading.{served-leads}
use Rattle.jn_node_laws.proofs.what_is_served_is_what_the_books_lead_to.Goals as goal

pub returns : goal.returns
returns c = served-leads
