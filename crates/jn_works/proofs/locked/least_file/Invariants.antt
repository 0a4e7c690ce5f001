use Rattle.std.proofs.Common.{◌≡◌, drop}
use Rattle.jn_base.specs.declared.names.FileNo.{FileNo}
use Rattle.jn_index.specs.Least.{lesser}
use Rattle.jn_works.specs.Locked.{file_from, least_in}
use Rattle.jn_works.proofs.locked.least_file.Given as goal

abbrev pub invariant-loop-unit : goal.invariant-loop-unit
invariant-loop-unit l = lesser (λ (f : FileNo). f.0) l.least (least_in (λ (f : FileNo). f.0) (file_from l.from) (drop l.unit-index l.units)) ≡ least_in (λ (f : FileNo). f.0) (file_from l.from) l.units
