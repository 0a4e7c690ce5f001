use Rattle.jn_page_state.proofs.ImageStates.{image_fresh}
use Rattle.jn_page_state.proofs.start_laws.a_sound_image_is_found.Goals as goal

pub returns : goal.returns
returns a server m v sound fit store epoch fits root = image_fresh server m v sound fit store epoch fits root
