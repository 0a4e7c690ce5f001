use Rattle.std.specs.Prelude.{◌≡◌, ◌+◌, ◌<◌, ℕ, List, length}
use Rattle.std.proofs.Common.{arith, subst, sym, ap, ◌∙◌}
use Rattle.std.proofs.lemmas.Grind.{common_steps}
use Rattle.std.proofs.lemmas.Iterator.Adapters.{YieldsList-from_vec}
use Rattle.std.proofs.lemmas.Iterator.Consumers.{YieldsList-turn}
use Rattle.jn_events.specs.Stores.{AreStores}
use Rattle.jn_image_files.proofs.Kept.{get-some}
use Rattle.jn_run.proofs.Stores.{one-more-store}
use Rattle.jn_bench.proofs.Stores.{store-at, watched-store}
use Rattle.jn_bench.proofs.storm.running.watch_all.Goals as goal

pub loop-disk-preserved : goal.loop-disk-preserved
loop-disk-preserved g c =
    let xs = c.args.disks.items in
    let gives = c.into_iter-disk-iterator.ensures.into_iter_gives in
    let long = c.args.disks.ok.0 in
    let t = YieldsList-turn (YieldsList-from_vec {s = c.into_iter-disk-iterator.result} xs (cc) (cc)) c.loop-disk.yielded c.loop-disk.disk-iterator c.loop-disk.yielded_by c.next.result c.next.new.self c.in-Some.disk c.in-Some.is c.next.ensures.steps in
    let n = length c.loop-disk.yielded in
    let at = get-some xs n c.in-Some.disk t.0 t.1 in
    let its = store-at (λ s. g.S.StableStore.view s) 0 xs n c.in-Some.disk c.requires.stores at in
    let place : 0 + n ≡ 0 + length c.loop-disk.watched.items = omega (arith, c.loop-disk.invariant.count) in
    let here = watched-store (λ s. g.S.StableStore.view s) (λ s. g.S.StableStore.view s.store) (0 + n) (0 + length c.loop-disk.watched.items) c.in-Some.disk c.in_ok-watch.field-0 place c.in_ok-watch.ensures.view c.in_ok-watch.ensures.counts its in
    record {
      stores = subst (λ xs. AreStores (λ s. g.S.StableStore.view s.store) 0 xs) (sym c.in_ok-push.ensures.items) (one-more-store (λ s. g.S.StableStore.view s.store) 0 c.loop-disk.watched.items _ c.loop-disk.invariant.stores here);
      count = grind (arith, common_steps, c.loop-disk.invariant.count);
      few = let lt = t.0 in grind (arith, common_steps, lt, c.loop-disk.invariant.count, c.requires.few, long);
    }
