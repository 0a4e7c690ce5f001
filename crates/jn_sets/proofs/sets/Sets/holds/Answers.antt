use Rattle.jn_sets.proofs.Common.{not, ◌∙◌, ap, unwrap_or-slice_get, unwrap_or, Record, Free, is_free}
use Rattle.jn_sets.proofs.sets.Sets.holds.Goals as goal

pub returns-in-None : goal.returns-in-None
returns-in-None c = ap (λ (r : Record). not (is_free r)) (ap (λ o. unwrap_or o Free) c.in-None.ensures ∙ unwrap_or-slice_get c.args.self.now c.args.slot Free)
