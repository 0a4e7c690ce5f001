use Rattle.jn_files.proofs.Common.{sym, subst, List, Bool, TableView, IsChanged, AreFree, MayPutHead, table_view}
use Rattle.std.proofs.Common.{slice_set}
use Rattle.jn_files.proofs.Holding.{head_kept, head_changed}
use Rattle.jn_files.proofs.Standing.{free_by}
use Rattle.jn_files.proofs.table.FileTable.set_head.Goals as goal

pub unname_from-requires-clause-kept : goal.unname_from-requires-clause-kept
unname_from-requires-clause-kept c =
    let t = c.self.inside in
    subst (λ (l : List Bool). AreFree l t.named.items t.free_leaves) (sym c.deref.ensures.value) (free_by t.pool t.heads t.maps t.held.items t.touched.items t.named.items t.free_heads t.free_leaves c.self.invariant)

pub invariant_of-self : goal.invariant_of-self
invariant_of-self c =
    let t = c.self.inside in
    head_kept t.pool t.heads t.maps t.held.items t.touched.items t.named.items t.free_heads t.free_leaves c.self.invariant c.args.slot c.args.head c.args.n (subst (λ (x : TableView). MayPutHead x c.args.slot c.args.head c.args.n) (sym c.self.view_is) c.requires)
    c.unname_from.new.named.items c.count_head.new.free_heads c.unname_from.new.free c.replace-old.result c.replace-old.ensures.old c.unname_from.ensures.named
    (subst (λ (l : List Bool). AreFree l c.unname_from.new.named.items c.unname_from.new.free) c.deref.ensures.value c.unname_from.ensures.kept)
    c.is_free-is_free.result c.is_free-is_free.ensures c.count_head.ensures c.replace-old.new.self c.replace-old.ensures.new

pub returns : goal.returns
returns c =
    let t = c.self.inside in
    subst (λ (x : TableView). IsChanged x (slice_set x.heads c.args.slot c.args.head) x.maps (table_view t.pool c.replace-old.new.self t.maps t.held.items t.touched.items c.count_head.new.free_heads c.unname_from.new.free)) c.self.view_is
    (head_changed t.pool t.heads t.maps t.held.items t.touched.items t.named.items t.free_heads t.free_leaves c.self.invariant c.args.slot c.args.head c.args.n (subst (λ (x : TableView). MayPutHead x c.args.slot c.args.head c.args.n) (sym c.self.view_is) c.requires)
    c.unname_from.new.named.items c.count_head.new.free_heads c.unname_from.new.free c.replace-old.result c.replace-old.ensures.old c.unname_from.ensures.named
    (subst (λ (l : List Bool). AreFree l c.unname_from.new.named.items c.unname_from.new.free) c.deref.ensures.value c.unname_from.ensures.kept)
    c.is_free-is_free.result c.is_free-is_free.ensures c.count_head.ensures c.replace-old.new.self c.replace-old.ensures.new c.unname_from.ensures.promised)
