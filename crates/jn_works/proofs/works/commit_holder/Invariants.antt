use Rattle.std.proofs.Common.{◌≡◌, drop}
use Rattle.jn_rows.specs.Worker as rows
use Rattle.jn_works.proofs.works.commit_holder.Given as goal

abbrev pub invariant-loop-work : goal.invariant-loop-work
invariant-loop-work l = rows.commit_holder l.unit (drop l.work-index l.works) ≡ rows.commit_holder l.unit l.works
