use Rattle.jn_replay.proofs.Common.{◌∙◌, files_of}
use Rattle.jn_replay.proofs.Same.{files_then-step}
use Rattle.jn_replay.proofs.operations.do_all.Goals as goal

pub loop-p-preserved : goal.loop-p-preserved
loop-p-preserved c =
    files_then-step c.args.ops.now c.loop-p.p-index c.p-item.result (files_of c.loop-p.files) (files_of c.do_op.new.files) c.loop-p-test.true c.p-item.is c.in_ok-do_op.ensures.after
    ∙ c.loop-p.invariant
