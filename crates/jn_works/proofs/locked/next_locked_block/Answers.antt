use Rattle.std.proofs.Common.{◌∙◌, ap, ℕ}
use Rattle.jn_base.specs.declared.names.BlockNo.{BlockNo}
use Rattle.jn_works.specs.Locked.{block_from, least_locked}
use Rattle.jn_works.proofs.locked.next_locked_block.Goals as goal

pub returns : goal.returns
returns c = c.locked_block.ensures ∙ ap (λ (n : ℕ). least_locked (λ (p : BlockNo). p.0) (block_from c.args.file n) c.args.works.now) c.block_after.ensures
