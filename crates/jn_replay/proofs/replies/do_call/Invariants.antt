use Rattle.jn_replay.proofs.Common.{Asks, left, files_of}
use Rattle.jn_replay.proofs.Replying.{Stands}
use Rattle.jn_replay.proofs.replies.do_call.Given as goal

abbrev pub invariant-turns : goal.invariant-turns
invariant-turns l = Stands l.server l.call (files_of l.initial.files) (files_of l.files) (Asks l.op l.state)

abbrev pub decreases-turns : goal.decreases-turns
decreases-turns l = left l.state
