use Rattle.jn_page_state.proofs.Choosing.{pick_chooses, choice_picked}
use Rattle.jn_page_state.proofs.held_laws.a_pick_is_a_choice.Goals as goal

pub returns : goal.returns
returns a = record {
  chosen = λ v c. pick_chooses v c;
  picked = λ v d choice. choice_picked v d choice;
}
