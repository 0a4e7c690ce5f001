use Rattle.jn_records.proofs.Layouts.{has-at, has-found}
use Rattle.jn_records.proofs.layout_laws.a_layout_has_what_stands_at_a_cell.Goals as goal

pub returns-clause-at : goal.returns-clause-at
returns-clause-at c = has-at

pub returns-clause-found : goal.returns-clause-found
returns-clause-found c = has-found
