use Rattle.jn_page_state.proofs.HeadKept.{head_consistent, part_consistent}
use Rattle.jn_page_state.proofs.OtherPuts.{block_consistent, root_consistent}
use Rattle.jn_page_state.proofs.kept_laws.other_pages_keep_what_a_recovery_asks.Goals as goal

pub returns : goal.returns
returns a = record {
  head = λ server g c later slot i place new put lays stands. head_consistent c later i place new put lays slot stands server g;
  part = λ g c later i j place new put lays. part_consistent c later i j place new put lays g;
  block = λ g c d bytes. block_consistent g c d bytes;
  root = λ g c epoch. root_consistent g c epoch;
}
