use Rattle.jn_wrong.proofs.Differing.{shown-more}
use Rattle.jn_wrong.proofs.new.a_show_of_what_is_not_there_is_none.Goals as goal

pub returns : goal.returns
returns c = shown-more
