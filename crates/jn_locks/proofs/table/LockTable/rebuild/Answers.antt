use Rattle.jn_locks.proofs.Common.{rebuilt, table_of}
use Rattle.jn_locks.proofs.Granting.{rebuilt_compatible, compatible_after_ok}
use Rattle.jn_locks.proofs.table.LockTable.rebuild.Goals as goal

pub invariant_of-self : goal.invariant_of-self
invariant_of-self c =
    let t = table_of c.args.self.now.held in
    let t' = table_of c.rebuild.new.self in
    record {
      compatible = compatible_after_ok c.rebuild.result _ t t' c.args.self.now.compatible (λ h. rebuilt_compatible t c.args.work (rebuilt c.args.commits.now c.args.reads.now) t' c.args.self.now.compatible c.requires h) c.rebuild.ensures.rebuilt c.rebuild.ensures.unchanged;
      sound = c.rebuild.ensures.sound_after;
    }
