use Rattle.jn_locks.proofs.Common.{wanted, table_of}
use Rattle.jn_locks.proofs.Granting.{asked_compatible, compatible_after}
use Rattle.jn_locks.proofs.table.LockTable.ask.Goals as goal

pub invariant_of-self : goal.invariant_of-self
invariant_of-self c =
    let t = table_of c.args.self.now.held in
    let t' = table_of c.ask.new.self in
    record {
      compatible = compatible_after c.ask.result _ t t' c.args.self.now.compatible (λ v h. asked_compatible t c.args.work (wanted c.args.wants.now) v.items t' c.args.self.now.compatible h) c.ask.ensures.granted c.ask.ensures.unchanged;
      sound = c.ask.ensures.sound_after;
    }
