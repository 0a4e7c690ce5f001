use Rattle.std.proofs.Common.{◌≡◌, drop}
use Rattle.jn_works.specs.Changing.{going_in}
use Rattle.jn_works.proofs.works.going_work.Given as goal

abbrev pub invariant-loop-work : goal.invariant-loop-work
invariant-loop-work l = going_in l.going (drop l.work-index l.works) ≡ going_in l.going l.works
