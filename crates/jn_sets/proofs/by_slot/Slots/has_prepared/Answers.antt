use Rattle.jn_sets.proofs.Common.{ℕ, Option, sym, ap, ◌∙◌, arith, values_of, is_some, list_any, is_prepared}
use Rattle.jn_sets.proofs.Rubbish.{none_prepared}
use Rattle.jn_sets.proofs.Slots.{any_found}
use Rattle.jn_sets.proofs.by_slot.Slots.has_prepared.Goals as goal

pub returns-then-self-eq0 : goal.returns-then-self-eq0
returns-then-self-eq0 c =
    let records = values_of c.self.inside.index.entries in
    let count = c.self.invariant.counted.prepared_is in
    let none = c.if-self-eq0.true in
    sym (none_prepared c.args.work records (omega arith)) ∙ ap (list_any (is_prepared c.args.work)) c.self.view_is

pub returns : goal.returns
returns c = c.is_some.ensures ∙ ap (λ (o : Option ℕ). is_some o) c.lowest.ensures ∙ any_found (is_prepared c.args.work) c.args.self.now
