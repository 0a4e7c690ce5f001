use Rattle.jn_replay.proofs.Common.{◌∙◌, files_of}
use Rattle.jn_replay.proofs.Replying.{fits-here, files_by_all-step}
use Rattle.jn_replay.proofs.replies.do_wishes.Goals as goal

pub do_wish-requires : goal.do_wish-requires
do_wish-requires c = fits-here c.args.replied.now c.loop-r.r-index c.r-item.result c.loop-r-test.true c.r-item.is c.requires

pub loop-r-preserved : goal.loop-r-preserved
loop-r-preserved c =
    files_by_all-step c.args.replied.now c.loop-r.r-index c.r-item.result (files_of c.loop-r.files) (files_of c.do_wish.new.files) c.loop-r-test.true c.r-item.is c.in_ok-do_wish.ensures.after
    ∙ c.loop-r.invariant
