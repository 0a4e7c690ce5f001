use Rattle.std.specs.Prelude.{◌≡◌, ◌+◌, ℕ, length}
use Rattle.std.proofs.Common.{arith, subst, sym}
use Rattle.std.proofs.lemmas.Grind.{common_steps}
use Rattle.jn_events.specs.Stores.{AreStores}
use Rattle.jn_run.specs.Running.{IsStore}
use Rattle.jn_run.proofs.Stores.{look, one-more-store}
use Rattle.jn_bench.proofs.storm.beginning.new_disks.Goals as goal

pub loop-server-preserved : goal.loop-server-preserved
loop-server-preserved c =
    let place : c.loop-server.server ≡ 0 + length c.loop-server.disks.items = omega (arith, c.loop-server.invariant.count) in
    let here = subst (λ (k : ℕ). IsStore look k c.in_ok-new_disk.field-0) place c.in_ok-new_disk.ensures in
    record {
      stores = subst (λ xs. AreStores look 0 xs) (sym c.in_ok-push.ensures.items) (one-more-store look 0 c.loop-server.disks.items _ c.loop-server.invariant.stores here);
      count = grind (arith, common_steps, c.loop-server.invariant.count);
    }
