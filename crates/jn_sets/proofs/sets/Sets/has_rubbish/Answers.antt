use Rattle.jn_sets.proofs.Common.{List, sym, ◌∙◌, ap, nat_lt, list_any, Record, is_rubbish}
use Rattle.jn_sets.proofs.Rubbish.{any_counted}
use Rattle.jn_sets.proofs.sets.Sets.has_rubbish.Goals as goal

pub returns : goal.returns
returns c =
    let records = c.self.inside.slots in
    ap (nat_lt 0) c.self.invariant.count ∙ sym (any_counted (is_rubbish records) records) ∙ ap (λ (l : List Record). list_any (is_rubbish l) l) c.self.view_is
