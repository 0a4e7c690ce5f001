use Rattle.jn_serial.proofs.Common.{◌≡◌, drop, files_of, replay_operations}
use Rattle.jn_serial.proofs.order.replay_operations.Given as goal

abbrev pub invariant-loop-t : goal.invariant-loop-t
invariant-loop-t l = replay_operations (files_of l.after) l.events l.lines (drop l.t-index l.list) ≡ replay_operations (files_of l.files) l.events l.lines l.list
