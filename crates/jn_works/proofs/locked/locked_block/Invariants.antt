use Rattle.std.proofs.Common.{◌≡◌, drop}
use Rattle.jn_base.specs.declared.names.BlockNo.{BlockNo}
use Rattle.jn_index.specs.Least.{lesser}
use Rattle.jn_works.specs.Locked.{block_from, least_locked}
use Rattle.jn_works.proofs.locked.locked_block.Given as goal

abbrev pub invariant-loop-work : goal.invariant-loop-work
invariant-loop-work l = lesser (λ (p : BlockNo). p.0) l.least (least_locked (λ (p : BlockNo). p.0) (block_from l.file l.from) (drop l.work-index l.works)) ≡ least_locked (λ (p : BlockNo). p.0) (block_from l.file l.from) l.works
