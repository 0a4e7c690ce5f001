use Rattle.jn_files.proofs.Touching.{touched_kept}
use Rattle.jn_files.proofs.table.FileTable.touch_all.Goals as goal

pub invariant_of-self : goal.invariant_of-self
invariant_of-self c =
    let t = c.self.inside in
    touched_kept t.pool t.heads t.maps t.held.items t.touched.items t.named.items c.set_all.new.flags.items t.free_heads t.free_leaves c.self.invariant c.set_all.ensures.length
