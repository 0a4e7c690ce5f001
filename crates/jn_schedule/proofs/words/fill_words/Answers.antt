use Rattle.jn_schedule.proofs.Common.{◌+◌, inl, inr, ap, texts}
use Rattle.jn_schedule.proofs.Splits.{found_first, found_next, line_ends}
use Rattle.jn_schedule.proofs.TextParts.{rest_is}
use Rattle.jn_schedule.proofs.words.fill_words.Goals as goal

pub loop-end-init : goal.loop-end-init
loop-end-init c =
    let first = c.word_length-end.ensures in
    found_first c.args.text.now c.word_length-end.result _ _ first.within first.no_space first.no_feed first.stop (ap texts c.clear.ensures.items) c.in_ok-push_word.ensures

pub loop-end-preserved : goal.loop-end-preserved
loop-end-preserved c =
    let next = c.word_length-length.ensures in
    found_next c.args.text.now _ c.loop-end.end c.word_length-length.result _ _ c.loop-end.invariant c.loop-end-test.true c.if-text-end-eq32.true (rest_is c.args.text.now (c.loop-end.end + 1))
    next.within next.no_space next.no_feed next.stop c.in_ok-push_word-2.ensures

pub returns-else-text-end-eq32-clause-line : goal.returns-else-text-end-eq32-clause-line
returns-else-text-end-eq32-clause-line c = line_ends c.args.text.now c.loop-end.end _ c.loop-end.invariant (inr (c.loop-end-test.true, c.if-text-end-eq32.false))

pub returns-after-loop-end-clause-line : goal.returns-after-loop-end-clause-line
returns-after-loop-end-clause-line c = line_ends c.args.text.now c.loop-end.end _ c.loop-end.invariant (inl c.loop-end-test.false)
