use Rattle.jn_lock_rows.proofs.Common.{◌≡◌, ◌++◌, take, drop, rephased, stored}
use Rattle.jn_lock_rows.proofs.finding.store_work.Given as goal

abbrev pub invariant-loop-i : goal.invariant-loop-i
invariant-loop-i l = take l.i l.works ++ rephased l.name stored (drop l.i l.works) ≡ rephased l.name stored l.fn.works
