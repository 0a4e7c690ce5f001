use Rattle.jn_schedule.proofs.Common.{◌+◌, ap, length, arith, length-drop}
use Rattle.jn_schedule.proofs.Splits.{lacks_on}
use Rattle.jn_schedule.proofs.TextParts.{rest_is}
use Rattle.jn_schedule.proofs.words.word_length.Goals as goal

pub loop-end-preserved : goal.loop-end-preserved
loop-end-preserved c =
    let more = c.plain_length.ensures in
    let rest = rest_is c.args.text.now (c.loop-end.end + 1) in
    record {
      within = omega (arith, more.within, ap length rest, length-drop (c.loop-end.end + 1) c.args.text.now, c.loop-end-test.true);
      no_space = lacks_on 32 c.args.text.now _ c.loop-end.end c.plain_length.result c.loop-end-test.true rest c.if-not-ends_word.ensures.0 c.loop-end.invariant.no_space more.no_space;
      no_feed = lacks_on 10 c.args.text.now _ c.loop-end.end c.plain_length.result c.loop-end-test.true rest c.if-not-ends_word.ensures.1 c.loop-end.invariant.no_feed more.no_feed;
    }
