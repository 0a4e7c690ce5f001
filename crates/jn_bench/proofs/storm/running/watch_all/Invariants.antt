use Rattle.std.specs.Prelude.{◌≡◌, ◌≤◌, length}
use Rattle.jn_events.specs.Stores.{AreStores}
use Rattle.jn_bench.proofs.storm.running.watch_all.Given as goal

abbrev pub invariant-loop-disk : goal.invariant-loop-disk
invariant-loop-disk g l = record {
  stores : AreStores (λ s. g.S.StableStore.view s.store) 0 l.watched.items;
  count : length l.watched.items ≡ length l.yielded;
  few : length l.watched.items ≤ 8;
}
