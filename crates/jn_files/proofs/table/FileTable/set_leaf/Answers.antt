use Rattle.jn_files.proofs.Common.{◌≡◌, sym, ap, ◌∙◌, subst, List, Bool, Head, TableView, head_in, with_leaf, IsChanged, AreFree, MaySet, head_address, table_view}
use Rattle.std.proofs.Common.{slice_set}
use Rattle.jn_files.proofs.Holding.{leaf_kept, leaf_changed}
use Rattle.jn_files.proofs.Standing.{free_by}
use Rattle.jn_files.proofs.table.FileTable.set_leaf.Goals as goal

pub rename-requires-clause-kept : goal.rename-requires-clause-kept
rename-requires-clause-kept c =
    let t = c.self.inside in
    subst (λ (l : List Bool). AreFree l t.named.items t.free_leaves) (sym c.deref.ensures.value) (free_by t.pool t.heads t.maps t.held.items t.touched.items t.named.items t.free_heads t.free_leaves c.self.invariant)

pub invariant_of-self : goal.invariant_of-self
invariant_of-self c =
    let t = c.self.inside in
    leaf_kept t.pool t.heads t.maps t.held.items t.touched.items t.named.items t.free_heads t.free_leaves c.self.invariant c.args.slot c.args.p c.args.a c.requires.block (subst (λ (x : TableView). MaySet x c.args.slot c.args.p c.args.a) (sym c.self.view_is) c.requires.may)
    c.args.head (subst (λ (x : TableView). c.args.head ≡ with_leaf c.args.p c.args.a (head_in x.heads c.args.slot)) (sym c.self.view_is) c.requires.head) c.rename.new.named.items c.rename.new.free
    c.address.result (c.address.ensures ∙ ap (λ (h : Head). head_address h c.args.p) c.replace-old.ensures.old) c.rename.ensures.named
    (subst (λ (l : List Bool). AreFree l c.rename.new.named.items c.rename.new.free) c.deref.ensures.value c.rename.ensures.kept) c.replace-old.new.self c.replace-old.ensures.new

pub returns : goal.returns
returns c =
    let t = c.self.inside in
    subst (λ (x : TableView). IsChanged x (slice_set x.heads c.args.slot c.args.head) x.maps (table_view t.pool c.replace-old.new.self t.maps t.held.items t.touched.items t.free_heads c.rename.new.free)) c.self.view_is
    (leaf_changed t.pool t.heads t.maps t.held.items t.touched.items t.named.items t.free_heads t.free_leaves c.self.invariant c.args.slot c.args.p c.args.a c.requires.block (subst (λ (x : TableView). MaySet x c.args.slot c.args.p c.args.a) (sym c.self.view_is) c.requires.may)
    c.args.head (subst (λ (x : TableView). c.args.head ≡ with_leaf c.args.p c.args.a (head_in x.heads c.args.slot)) (sym c.self.view_is) c.requires.head) c.rename.new.named.items c.rename.new.free
    c.address.result (c.address.ensures ∙ ap (λ (h : Head). head_address h c.args.p) c.replace-old.ensures.old) c.rename.ensures.named
    (subst (λ (l : List Bool). AreFree l c.rename.new.named.items c.rename.new.free) c.deref.ensures.value c.rename.ensures.kept) c.replace-old.new.self c.replace-old.ensures.new c.rename.ensures.promised)
