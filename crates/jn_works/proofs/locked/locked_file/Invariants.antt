use Rattle.std.proofs.Common.{◌≡◌, drop}
use Rattle.jn_works.specs.Locked.{file_from, least_locked}
use Rattle.jn_works.proofs.locked.locked_file.Given as goal
use Rattle.jn_base.specs.declared.names.FileNo.{FileNo}
use Rattle.jn_index.specs.Least.{lesser}

abbrev pub invariant-loop-work : goal.invariant-loop-work
invariant-loop-work l = lesser (λ (f : FileNo). f.0) l.least (least_locked (λ (f : FileNo). f.0) (file_from l.from) (drop l.work-index l.works)) ≡ least_locked (λ (f : FileNo). f.0) (file_from l.from) l.works
