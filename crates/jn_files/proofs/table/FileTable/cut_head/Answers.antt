use Rattle.jn_files.proofs.Common.{◌≡◌, sym, ap, ◌∙◌, subst, is_ok, slice_set, cut_from, Head, TableView, IsTable, head_in, cut_head, PutsHead, MayPutHead, IsChange}
use Rattle.jn_files.proofs.Calling.{may_cut, cut_changes}
use Rattle.jn_files.proofs.table.FileTable.cut_head.Goals as goal

pub put_head-requires-clause-may : goal.put_head-requires-clause-may
put_head-requires-clause-may g c =
    let is = subst (λ (x : TableView). IsTable x) c.self.view_is c.self.invariant.table in
    let head_is : c.cut-head.result ≡ cut_head c.args.n.0 (head_in c.args.self.now.heads c.args.slot) = c.cut-head.ensures ∙ ap (cut_head c.args.n.0) (c.slot.ensures ∙ ap (λ (x : TableView). head_in x.heads c.args.slot) c.self.view_is) in
    subst (λ (h : Head). MayPutHead c.args.self.now c.args.slot h c.args.n.0) (sym head_is) (may_cut c.args.self.now is c.args.slot c.args.n.0 c.requires.slot c.requires.used c.requires.range)

pub returns : goal.returns
returns g c f own inside =
    let is = subst (λ (x : TableView). IsTable x) c.self.view_is c.self.invariant.table in
    let head_is : c.cut-head.result ≡ cut_head c.args.n.0 (head_in c.args.self.now.heads c.args.slot) = c.cut-head.ensures ∙ ap (cut_head c.args.n.0) (c.slot.ensures ∙ ap (λ (x : TableView). head_in x.heads c.args.slot) c.self.view_is) in
    subst (λ (h : Head). PutsHead c.args.self.now (g.S.StableStore.view c.args.store.now) c.args.slot h c.args.self.now.maps (λ leaves. cut_from f c.args.n) (is_ok c.put_head.result) c.put_head.new.self (g.S.StableStore.view c.put_head.new.store)) head_is
    (c.put_head.ensures (λ leaves. cut_from f c.args.n) (subst (λ (h : Head). IsChange c.args.self.now (slice_set c.args.self.now.heads c.args.slot h) c.args.self.now.maps (λ leaves. cut_from f c.args.n)) (sym head_is)
    (cut_changes c.args.self.now is c.args.slot c.args.n c.requires.slot c.requires.range f own inside)))
