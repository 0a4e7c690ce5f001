use Rattle.jn_page_state.proofs.ImageEnds.{is_image}
use Rattle.jn_page_state.proofs.start_laws.whole_pages_are_a_sound_image.Goals as goal

pub returns : goal.returns
returns a server g v epoch records heads rows standing root free whole = is_image server g v epoch records heads rows standing root free whole
