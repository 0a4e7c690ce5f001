use Rattle.jn_serial.proofs.Common.{◌∙◌, files_of, ↔-trans}
use Rattle.jn_serial.proofs.Orders.{OperationsAgreeFrom-step}
use Rattle.jn_serial.proofs.order.operations_agree.Goals as goal

pub loop-t-preserved : goal.loop-t-preserved
loop-t-preserved c =
    let answers = c.in_ok-gives_answers.ensures in
    ↔-trans c.loop-t.invariant
    (OperationsAgreeFrom-step c.args.events.now c.args.lines.now c.deref-t-items.result.now c.loop-t.t-index _ c.deref.result.now (files_of c.loop-t.after) (files_of c.gives_answers.new.files) c.loop-t-test.true
    (c.deref.ensures.value ∙ c.in_ok-ops.ensures) (answers.answers.0 c.if-not-branch.false) (answers.after c.if-not-branch.false))
