use Rattle.jn_machine.proofs.Ordered.{longer}
use Rattle.jn_machine.proofs.lines_are_only_added.Goals as goal

pub returns : goal.returns
returns c x s t m = let l = longer x s t m in (l.new, l.lines)
