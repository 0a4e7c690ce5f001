use Rattle.jn_files.proofs.Common.{◌<◌, true, subst, sym, slice_set, FreeNumbers, TableView, IsKeptTable}
use Rattle.jn_files.proofs.Leaves.{holding}
use Rattle.jn_files.proofs.table.FileTable.hold.Goals as goal

pub invariant_of-self : goal.invariant_of-self
invariant_of-self c =
    let t = c.self.inside in
    let below = subst (λ (x : TableView). c.args.a < x.counts.leaves) (sym c.self.view_is) c.requires.below in
    subst (λ (x : FreeNumbers). IsKeptTable t.pool t.heads t.maps (slice_set t.held.items c.args.a true) t.touched.items t.named.items t.free_heads x) (sym c.take_if_free.ensures)
    (holding t.pool t.heads t.maps t.held.items t.touched.items t.named.items t.free_heads t.free_leaves c.self.invariant c.args.a below)
