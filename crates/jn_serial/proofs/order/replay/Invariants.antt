use Rattle.jn_serial.proofs.Common.{◌≡◌, drop, files_of, replay}
use Rattle.jn_serial.proofs.order.replay.Given as goal

abbrev pub invariant-loop-t : goal.invariant-loop-t
invariant-loop-t l = replay (files_of l.after) l.events l.lines (drop l.t-index l.list) ≡ replay (files_of l.files) l.events l.lines l.list
