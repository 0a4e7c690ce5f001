use Rattle.jn_page_state.proofs.Picking.{fewer_found, fewer_picked, fewer_recoverable}
use Rattle.jn_page_state.proofs.stop_laws.fewer_candidates_change_nothing.Goals as goal

pub returns : goal.returns
returns a = record {
  unchanged = λ g v w x fewer before. fewer_found v w fewer g x before;
  picked = λ g v w fewer c. fewer_picked v w fewer g c;
  recoverable = λ server g v w fewer before. fewer_recoverable v w fewer server g before;
}
