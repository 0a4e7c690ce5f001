use Rattle.std.proofs.Common.{◌≡◌, drop}
use Rattle.jn_base.specs.declared.names.BlockNo.{BlockNo}
use Rattle.jn_index.specs.Least.{lesser}
use Rattle.jn_works.specs.Locked.{block_from, least_in}
use Rattle.jn_works.proofs.locked.least_block.Given as goal

abbrev pub invariant-loop-unit : goal.invariant-loop-unit
invariant-loop-unit l = lesser (λ (p : BlockNo). p.0) l.least (least_in (λ (p : BlockNo). p.0) (block_from l.file l.from) (drop l.unit-index l.units)) ≡ least_in (λ (p : BlockNo). p.0) (block_from l.file l.from) l.units
