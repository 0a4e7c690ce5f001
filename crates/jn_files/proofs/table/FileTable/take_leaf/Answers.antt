use Rattle.jn_files.proofs.Common.{true, subst, sym, slice_set, FreeNumbers, TableView, IsUnnamed, layouts_in, IsKeptTable}
use Rattle.jn_files.proofs.Leaves.{holding}
use Rattle.jn_files.proofs.table.FileTable.take_leaf.Goals as goal

pub invariant_of-self-2 : goal.invariant_of-self-2
invariant_of-self-2 c =
    let t = c.self.inside in
    let a = c.in_ok-a.a in
    let leaf = (c.self.invariant.table.free_leaves a).0 c.in_ok-a.ensures.least.is_free_itself in
    subst (λ (x : FreeNumbers). IsKeptTable t.pool t.heads t.maps (slice_set t.held.items a true) t.touched.items t.named.items t.free_heads x) (sym c.in_ok-a.ensures.taken)
    (holding t.pool t.heads t.maps t.held.items t.touched.items t.named.items t.free_heads t.free_leaves c.self.invariant a leaf.below)

pub returns-clause-unnamed : goal.returns-clause-unnamed
returns-clause-unnamed c =
    let leaf = (c.self.invariant.table.free_leaves c.in_ok-a.a).0 c.in_ok-a.ensures.least.is_free_itself in
    subst (λ (x : TableView). IsUnnamed (layouts_in x) c.in_ok-a.a) c.self.view_is leaf.unnamed
