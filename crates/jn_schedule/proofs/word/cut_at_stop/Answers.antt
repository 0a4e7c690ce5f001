use Rattle.jn_schedule.proofs.Common.{◌+◌, ◌≡◌, take, ap, sym, ◌∙◌, take_all, lacks}
use Rattle.jn_schedule.proofs.TextParts.{lacks-next, cut-here, cut-none, rest_is}
use Rattle.jn_schedule.proofs.word.cut_at_stop.Goals as goal

pub loop-i-preserved : goal.loop-i-preserved
loop-i-preserved c = lacks-next 46 c.args.word.now c.loop-i.i c.loop-i-test.true c.loop-i.invariant c.if-word-i-eq46.false

pub returns-then-word-i-eq46 : goal.returns-then-word-i-eq46
returns-then-word-i-eq46 c =
    let word = c.args.word.now in
    let i = c.loop-i.i in
    cut-here word i _ c.loop-i-test.true c.if-word-i-eq46.true (rest_is word (i + 1)) c.loop-i.invariant

pub returns : goal.returns
returns c =
    let word = c.args.word.now in
    let all : take c.loop-i.i word ≡ word = take_all c.loop-i.i word c.loop-i-test.false in
    cut-none word (ap (lacks 46) (sym all) ∙ c.loop-i.invariant)
