use Rattle.jn_locks.proofs.Common.{table_of}
use Rattle.jn_locks.proofs.Granting.{committed_compatible, compatible_after}
use Rattle.jn_locks.proofs.table.LockTable.to_commit.Goals as goal

pub invariant_of-self : goal.invariant_of-self
invariant_of-self c =
    let t = table_of c.args.self.now.held in
    let t' = table_of c.commit.new.self in
    record {
      compatible = compatible_after c.commit.result _ t t' c.args.self.now.compatible (λ v h. committed_compatible t c.args.work v.items t' c.args.self.now.compatible h) c.commit.ensures.granted c.commit.ensures.unchanged;
      sound = c.commit.ensures.sound_after;
    }
