use Rattle.jn_page_state.proofs.HeldLaws.{contents_held, front_held, maps_held, layouts_held}
use Rattle.jn_page_state.proofs.held_laws.each_pick_says_what_is_held.Goals as goal

pub returns : goal.returns
returns a = record {
  contents = λ server g v epoch records heads rows held c. contents_held server g v epoch records heads rows held c;
  front = λ server g v epoch records heads rows held. front_held server g v epoch records heads rows held;
  maps = λ server g v epoch records heads rows held. maps_held server g v epoch records heads rows held;
  layouts = λ server g v epoch records heads rows held c. layouts_held server g v epoch records heads rows held c;
}
