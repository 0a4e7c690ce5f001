use Rattle.jn_replay.proofs.Common.{refl, ◌∙◌, false≢true, files_of}
use Rattle.jn_replay.proofs.Same.{↔-trans}
use Rattle.jn_replay.proofs.Replying.{fits-here, files_by_all-step, GivesReplies-step, GivesReplies-differs}
use Rattle.jn_replay.proofs.replies.gives_replies.Goals as goal

pub do_wish-requires : goal.do_wish-requires
do_wish-requires c = fits-here c.args.replied.now c.loop-r.r-index c.r-item.result c.loop-r-test.true c.r-item.is c.requires

pub returns-then-not-is_same_reply-clause-replies : goal.returns-then-not-is_same_reply-clause-replies
returns-then-not-is_same_reply-clause-replies c = (
  λ h. absurd (false≢true h),
  λ g. c.if-not-is_same_reply.ensures.1 (c.in_ok-reply.ensures.reply ∙ GivesReplies-differs c.args.replied.now c.loop-r.r-index c.r-item.result (files_of c.loop-r.files) c.loop-r-test.true c.r-item.is (c.loop-r.invariant.replies.0 g)),
)

pub loop-r-preserved : goal.loop-r-preserved
loop-r-preserved c = record {
  replies = ↔-trans c.loop-r.invariant.replies (GivesReplies-step c.args.replied.now c.loop-r.r-index c.r-item.result (files_of c.loop-r.files) (files_of c.do_wish.new.files) c.in_ok-reply.reply c.loop-r-test.true c.r-item.is c.in_ok-reply.ensures.after c.in_ok-reply.ensures.reply (c.if-not-is_same_reply.ensures.0 refl));
  after = files_by_all-step c.args.replied.now c.loop-r.r-index c.r-item.result (files_of c.loop-r.files) (files_of c.do_wish.new.files) c.loop-r-test.true c.r-item.is c.in_ok-reply.ensures.after ∙ c.loop-r.invariant.after;
}
