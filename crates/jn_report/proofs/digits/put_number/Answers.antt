use Rattle.std.proofs.Common.{arith}
use Rattle.jn_report.proofs.Appends.{appended_twice, appended_whole}
use Rattle.jn_report.proofs.Decimals.{four_more, eight_more}
use Rattle.jn_report.proofs.digits.put_number.Goals as goal

pub returns-then-n-lt100000000 : goal.returns-then-n-lt100000000
returns-then-n-lt100000000 c =
    appended_whole c.args.out.now.items _ _ _ _ _ (four_more c.args.n (omega (arith, c.if-n-lt10000.false)) (omega (arith, c.ranges.n))) c.put_thousands-then-n-lt100000000.ensures.items c.put_four.ensures.items

pub returns-else-n-lt100000000 : goal.returns-else-n-lt100000000
returns-else-n-lt100000000 c =
    let eight = appended_twice c.put_tens.new.out.items _ _ _ _ c.put_four-else-n-lt100000000.ensures.items c.put_four-else-n-lt100000000-2.ensures.items in
    appended_whole c.args.out.now.items _ _ _ _ _ (eight_more c.args.n (omega (arith, c.if-n-lt100000000.false)) (omega (arith, c.ranges.n))) c.put_tens.ensures.items eight
