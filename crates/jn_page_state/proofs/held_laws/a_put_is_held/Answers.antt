use Rattle.jn_page_state.proofs.HeldAfter.{held_after}
use Rattle.jn_page_state.proofs.held_laws.a_put_is_held.Goals as goal

pub returns : goal.returns
returns a server g v w put epoch records heads rows page step may held = held_after server g v w epoch records heads rows held put page step may
