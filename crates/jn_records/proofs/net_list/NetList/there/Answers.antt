use Rattle.jn_records.proofs.Common.{sym, subst, ◌≡◌, ◌∙◌, List, Intention, entry, as_first, there_by}
use Rattle.jn_records.proofs.EditLemmas.{list-there}
use Rattle.jn_records.proofs.net_list.NetList.there.Goals as goal

pub returns : goal.returns
returns c = rw (← c.self.view_is) (λ files same.
    list-there c.self.inside.items.items c.self.invariant c.args.f c.args.stored files same
    ∙ sym (subst (λ (l : List Intention). c.is_there.result ≡ there_by (as_first (entry l c.args.f 0)) c.args.stored) c.deref.ensures.value c.is_there.ensures))
