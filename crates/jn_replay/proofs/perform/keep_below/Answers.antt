use Rattle.jn_replay.proofs.Common.{nat_lt, rules, filter_same, StoredBlock}
use Rattle.jn_replay.proofs.perform.keep_below.Goals as goal

pub returns : goal.returns
returns c = filter_same _ (λ (x : StoredBlock). nat_lt x.block.0 c.args.block.0) _ (λ x b q h. search rules) _ _ c.retain.ensures.filtered
