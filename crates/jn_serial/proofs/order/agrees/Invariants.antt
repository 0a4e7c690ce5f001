use Rattle.jn_serial.proofs.Common.{◌↔◌, drop, files_of, Agrees, AgreesFrom}
use Rattle.jn_serial.proofs.order.agrees.Given as goal

abbrev pub invariant-loop-t : goal.invariant-loop-t
invariant-loop-t l = Agrees (files_of l.files) l.events l.lines ↔ AgreesFrom (files_of l.after) l.events l.lines (drop l.t-index l.t-items)
