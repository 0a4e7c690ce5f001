use Rattle.jn_records.proofs.Common.{sym, subst, ◌≡◌, ◌∙◌, ◌+◌, List, ap, Block, Intention, entry, as_first, as_put, seen_block, seen_by}
use Rattle.jn_records.specs.declared.net_list.Seen.{Seen}
use Rattle.jn_records.proofs.EditLemmas.{list-seen}
use Rattle.jn_records.proofs.net_list.NetList.block.Goals as goal

pub returns : goal.returns
returns c = rw (← c.self.view_is) (λ files.
    list-seen c.self.inside.items.items c.self.invariant c.args.f c.args.p files
    ∙ ap (λ (s : Seen). seen_block s (files (Block c.args.f c.args.p)))
    (sym (subst (λ (l : List Intention). c.where_seen.result ≡ seen_by (as_put (entry l c.args.f (c.args.p.0 + 1))) (as_first (entry l c.args.f 0)) c.args.p) c.deref.ensures.value c.where_seen.ensures)))
