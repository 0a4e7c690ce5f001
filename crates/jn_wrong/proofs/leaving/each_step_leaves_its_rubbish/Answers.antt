use Rattle.jn_wrong.proofs.LeftOver.{by-message, by-erasure, by-restart, by-nothing}
use Rattle.jn_wrong.proofs.leaving.each_step_leaves_its_rubbish.Goals as goal

pub returns : goal.returns
returns c = record { message = by-message; erasure = by-erasure; restart = by-restart; nothing = by-nothing }
