use Rattle.jn_world.proofs.Common.{lines_at, text_shown, ◌≡◌, ◌++◌, map}
use Rattle.jn_world.proofs.serving.tell_shown.Given as goal

abbrev pub invariant-loop-shown : goal.invariant-loop-shown
invariant-loop-shown l = l.lines.items ≡ l.initial.lines.items ++ lines_at l.when (map (text_shown l.server) l.yielded)
