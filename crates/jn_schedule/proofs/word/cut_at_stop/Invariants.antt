use Rattle.jn_schedule.proofs.Common.{◌≡◌, true, take, lacks}
use Rattle.jn_schedule.proofs.word.cut_at_stop.Given as goal

abbrev pub invariant-loop-i : goal.invariant-loop-i
invariant-loop-i l = lacks 46 (take l.i l.word) ≡ true
