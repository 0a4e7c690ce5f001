use Rattle.std.proofs.Common.{◌≡◌, ◌++◌, take, drop}
use Rattle.jn_transactions.specs.Closing.{knowing}
use Rattle.jn_transactions.proofs.closing.know_all.Given as goal

abbrev pub invariant-loop-i : goal.invariant-loop-i
invariant-loop-i l = take l.i l.transactions ++ knowing l.who (drop l.i l.transactions) ≡ knowing l.who l.fn.transactions
