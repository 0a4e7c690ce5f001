use Rattle.std.proofs.Common.{◌≡◌, drop}
use Rattle.jn_rows.specs.Worker as rows
use Rattle.jn_works.proofs.works.work_of.Given as goal

abbrev pub invariant-loop-work : goal.invariant-loop-work
invariant-loop-work l = rows.work_of l.tid (drop l.work-index l.works) ≡ rows.work_of l.tid l.works
