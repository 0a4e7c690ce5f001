use Rattle.std.proofs.Common.{arith}
use Rattle.jn_report.proofs.Appends.{appended_whole}
use Rattle.jn_report.proofs.Decimals.{two_more}
use Rattle.jn_report.proofs.digits.put_thousands.Goals as goal

pub returns-else-n-lt100-clause-items : goal.returns-else-n-lt100-clause-items
returns-else-n-lt100-clause-items c =
    appended_whole c.args.out.now.items _ _ _ _ _ (two_more c.args.n (omega (arith, c.if-n-lt100.false)) (omega (arith, c.ranges.n))) c.put_tens-else-n-lt100.ensures.items c.put_two.ensures.items
