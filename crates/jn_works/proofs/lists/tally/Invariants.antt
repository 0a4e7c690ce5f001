use Rattle.std.proofs.Common.{◌≡◌, ◌++◌, take, drop}
use Rattle.jn_lock_rows.specs.Calls.{rephased}
use Rattle.jn_works.specs.Changing.{tallied}
use Rattle.jn_works.proofs.lists.tally.Given as goal

abbrev pub invariant-loop-i : goal.invariant-loop-i
invariant-loop-i l = take l.i l.works.items ++ rephased l.name (tallied l.number l.answer) (drop l.i l.works.items) ≡ rephased l.name (tallied l.number l.answer) l.fn.works.items
