use Rattle.std.proofs.Common.{◌≡◌, ◌++◌, take, drop}
use Rattle.jn_rows.specs.Worker as rows
use Rattle.jn_lock_rows.specs.Calls.{rephased}
use Rattle.jn_works.proofs.works.expose.Given as goal

abbrev pub invariant-loop-i : goal.invariant-loop-i
invariant-loop-i l = take l.i l.works.items ++ rephased l.name rows.vulnerable (drop l.i l.works.items) ≡ rephased l.name rows.vulnerable l.fn.works.items
