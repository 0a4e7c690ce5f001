use Rattle.jn_page_state.proofs.FillLaws.{fill_law}
use Rattle.jn_page_state.proofs.head_laws.a_page_without_a_name_changes_nothing.Goals as goal

pub returns : goal.returns
returns a c d bytes unnamed = fill_law c d bytes unnamed
