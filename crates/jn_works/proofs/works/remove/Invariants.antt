use Rattle.std.proofs.Common.{◌≡◌, ◌++◌, take, drop}
use Rattle.jn_rows.specs.Worker as rows
use Rattle.jn_works.proofs.works.remove.Given as goal

abbrev pub invariant-loop-i : goal.invariant-loop-i
invariant-loop-i l = take l.i l.works.items ++ rows.without l.name (drop l.i l.works.items) ≡ rows.without l.name l.fn.works.items
