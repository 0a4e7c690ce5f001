use Rattle.std.proofs.Common.{arith}
use Rattle.jn_schedule.proofs.TextParts.{lacks-next}
use Rattle.jn_schedule.proofs.words.plain_length.Goals as goal

pub loop-i-preserved : goal.loop-i-preserved
loop-i-preserved c =
    let above = c.if-text-i-le32.false in
    record {
      no_space = lacks-next 32 c.args.text.now c.loop-i.i c.loop-i-test.true c.loop-i.invariant.no_space (λ e. absurd (omega (arith, above, e)));
      no_feed = lacks-next 10 c.args.text.now c.loop-i.i c.loop-i-test.true c.loop-i.invariant.no_feed (λ e. absurd (omega (arith, above, e)));
    }
