use Rattle.jn_wrong.proofs.Differing.{swapped, too-soon-thanked}
use Rattle.jn_wrong.proofs.new.messages_out_of_place_are_none.Goals as goal

pub returns-clause-swapped : goal.returns-clause-swapped
returns-clause-swapped c = swapped

pub returns-clause-too_soon : goal.returns-clause-too_soon
returns-clause-too_soon c = too-soon-thanked
