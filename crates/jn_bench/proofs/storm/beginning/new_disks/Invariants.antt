use Rattle.std.specs.Prelude.{◌≡◌, length}
use Rattle.jn_events.specs.Stores.{AreStores}
use Rattle.jn_run.proofs.Stores.{look}
use Rattle.jn_bench.proofs.storm.beginning.new_disks.Given as goal

abbrev pub invariant-loop-server : goal.invariant-loop-server
invariant-loop-server l = record {
  stores : AreStores look 0 l.disks.items;
  count : length l.disks.items ≡ l.server;
}
