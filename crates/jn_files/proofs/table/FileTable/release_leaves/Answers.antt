use Rattle.jn_files.proofs.Common.{refl, ap, FreeNumbers}
use Rattle.jn_files.proofs.Standing.{kept_flags}
use Rattle.jn_files.proofs.table.FileTable.release_leaves.Goals as goal

pub invariant_of-self : goal.invariant_of-self
invariant_of-self c =
    let t = c.self.inside in
    kept_flags t.pool t.heads t.maps t.held.items t.touched.items t.named.items t.free_heads t.free_leaves t.free_heads c.release.new.self refl (ap (λ (v : FreeNumbers). v.flags) c.release.ensures) c.self.invariant
