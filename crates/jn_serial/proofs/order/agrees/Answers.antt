use Rattle.jn_serial.proofs.Common.{◌∙◌, files_of, ↔-trans}
use Rattle.jn_serial.proofs.WithCalls.{AgreesFrom-step}
use Rattle.jn_serial.proofs.order.agrees.Goals as goal

pub loop-t-preserved : goal.loop-t-preserved
loop-t-preserved c =
    let replies = c.in_ok-gives_replies.ensures in
    ↔-trans c.loop-t.invariant
    (AgreesFrom-step c.args.events.now c.args.lines.now c.deref-t-items.result.now c.loop-t.t-index _ c.deref.result.now (files_of c.loop-t.after) (files_of c.gives_replies.new.files) c.loop-t-test.true
    (c.deref.ensures.value ∙ c.in_ok-done.ensures.done) (replies.replies.0 c.if-not-branch.false) (replies.after c.if-not-branch.false))
