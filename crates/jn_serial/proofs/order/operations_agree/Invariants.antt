use Rattle.jn_serial.proofs.Common.{◌↔◌, drop, files_of, OperationsAgree, OperationsAgreeFrom}
use Rattle.jn_serial.proofs.order.operations_agree.Given as goal

abbrev pub invariant-loop-t : goal.invariant-loop-t
invariant-loop-t l = OperationsAgree (files_of l.files) l.events l.lines ↔ OperationsAgreeFrom (files_of l.after) l.events l.lines (drop l.t-index l.t-items)
