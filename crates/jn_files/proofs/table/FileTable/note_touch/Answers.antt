use Rattle.jn_files.proofs.Common.{true, slice_set, length-set}
use Rattle.jn_files.proofs.Touching.{touched_kept}
use Rattle.jn_files.proofs.table.FileTable.note_touch.Goals as goal

pub invariant_of-self : goal.invariant_of-self
invariant_of-self c =
    let t = c.self.inside in
    touched_kept t.pool t.heads t.maps t.held.items t.touched.items t.named.items (slice_set t.touched.items c.args.a true) t.free_heads t.free_leaves c.self.invariant (length-set t.touched.items c.args.a true)
