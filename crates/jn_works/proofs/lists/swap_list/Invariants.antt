use Rattle.std.proofs.Common.{◌≡◌, ◌++◌, take, drop}
use Rattle.jn_rows.specs.Worker as rows
use Rattle.jn_lock_rows.specs.Calls.{rephased}
use Rattle.jn_works.specs.Changing.{relisted}
use Rattle.jn_works.proofs.lists.swap_list.Given as goal

abbrev pub invariant-loop-i : goal.invariant-loop-i
invariant-loop-i l = record {
  works : take l.i l.works.items ++ rephased l.name (relisted l.list) (drop l.i l.works.items) ≡ rephased l.name (relisted l.list) l.fn.works.items;
  found : rows.work_at l.name (drop l.i l.works.items) ≡ rows.work_at l.name l.fn.works.items;
}
