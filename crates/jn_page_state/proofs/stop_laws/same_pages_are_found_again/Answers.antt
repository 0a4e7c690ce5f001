use Rattle.jn_page_state.proofs.Picking.{same_found, same_recoverable}
use Rattle.jn_page_state.proofs.stop_laws.same_pages_are_found_again.Goals as goal

pub returns : goal.returns
returns a = record {
  found = λ g v w same. same_found v w same g;
  recoverable = λ server g v w same before. same_recoverable v w same server g before;
}
