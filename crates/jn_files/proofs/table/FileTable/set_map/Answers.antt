use Rattle.jn_files.proofs.Common.{◌≡◌, sym, subst, List, Bool, TableView, head_in, with_map, range_of, IsChanged, AreFree, MaySetMap, table_view}
use Rattle.std.proofs.Common.{slice_set}
use Rattle.jn_files.proofs.Holding.{map_kept, map_changed}
use Rattle.jn_files.proofs.Standing.{free_by}
use Rattle.jn_files.proofs.table.FileTable.set_map.Goals as goal

pub name_held-requires-clause-kept : goal.name_held-requires-clause-kept
name_held-requires-clause-kept c =
    let t = c.self.inside in
    subst (λ (l : List Bool). AreFree l t.named.items t.free_leaves) (sym c.deref.ensures.value) (free_by t.pool t.heads t.maps t.held.items t.touched.items t.named.items t.free_heads t.free_leaves c.self.invariant)

pub invariant_of-self : goal.invariant_of-self
invariant_of-self c =
    let t = c.self.inside in
    map_kept t.pool t.heads t.maps t.held.items t.touched.items t.named.items t.free_heads t.free_leaves c.self.invariant c.args.slot c.args.p c.args.a c.args.d (subst (λ (x : TableView). MaySetMap x c.args.slot c.args.p c.args.a c.args.d) (sym c.self.view_is) c.requires.may)
    c.args.head (subst (λ (x : TableView). c.args.head ≡ with_map (range_of c.args.p) c.args.d (head_in x.heads c.args.slot)) (sym c.self.view_is) c.requires.head) c.args.row c.requires.row
    c.name_held.new.named.items c.name_held-2.new.named.items c.name_held.ensures.named c.name_held-2.ensures.named
    (subst (λ (l : List Bool). AreFree l c.name_held-2.new.named.items t.free_leaves) c.deref-2.ensures.value c.name_held-2.ensures.kept) c.replace-2.new.self c.replace-2.ensures.new c.replace.new.self c.replace.ensures.new

pub returns : goal.returns
returns c =
    let t = c.self.inside in
    subst (λ (x : TableView). IsChanged x (slice_set x.heads c.args.slot c.args.head) (slice_set x.maps c.args.d c.args.row) (table_view t.pool c.replace-2.new.self c.replace.new.self t.held.items t.touched.items t.free_heads t.free_leaves)) c.self.view_is
    (map_changed t.pool t.heads t.maps t.held.items t.touched.items t.named.items t.free_heads t.free_leaves c.self.invariant c.args.slot c.args.p c.args.a c.args.d (subst (λ (x : TableView). MaySetMap x c.args.slot c.args.p c.args.a c.args.d) (sym c.self.view_is) c.requires.may)
    c.args.head (subst (λ (x : TableView). c.args.head ≡ with_map (range_of c.args.p) c.args.d (head_in x.heads c.args.slot)) (sym c.self.view_is) c.requires.head) c.args.row c.requires.row
    c.name_held.new.named.items c.name_held-2.new.named.items c.name_held.ensures.named c.name_held-2.ensures.named
    (subst (λ (l : List Bool). AreFree l c.name_held-2.new.named.items t.free_leaves) c.deref-2.ensures.value c.name_held-2.ensures.kept) c.replace-2.new.self c.replace-2.ensures.new c.replace.new.self c.replace.ensures.new)
