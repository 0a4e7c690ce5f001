use Rattle.jn_intent.proofs.Common.{rules, filter_same}
use Rattle.jn_intent.proofs.works.take_work.Goals as goal

pub returns : goal.returns
returns c = filter_same _ _ _ (λ x b f' k. search rules) _ _ c.retain.ensures.filtered
