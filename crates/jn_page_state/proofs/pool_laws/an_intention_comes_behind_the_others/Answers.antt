use Rattle.jn_page_state.proofs.Behind.{none_first, next_first}
use Rattle.jn_page_state.proofs.pool_laws.an_intention_comes_behind_the_others.Goals as goal

pub returns : goal.returns
returns a = record {
  first = λ pool work none. none_first pool work none;
  next = λ pool slot work tid stored i there free first. next_first pool slot work tid stored i there free first;
}
