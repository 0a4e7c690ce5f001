use Rattle.std.proofs.Common.{refl}
use Rattle.jn_files.proofs.Standing.{kept_flags, promise_flags}
use Rattle.jn_files.proofs.table.FileTable.promise_leaves.Goals as goal

pub invariant_of-self : goal.invariant_of-self
invariant_of-self c =
    let t = c.self.inside in
    kept_flags t.pool t.heads t.maps t.held.items t.touched.items t.named.items t.free_heads t.free_leaves t.free_heads c.promise.new.self refl (promise_flags c.promise.result t.free_leaves c.promise.new.self _ c.promise.ensures.ok c.promise.ensures.err) c.self.invariant
