use Rattle.jn_run.proofs.Common.{◌≡◌, length, AreStores, AreDisks}
use Rattle.jn_run.proofs.Stores.{look}
use Rattle.jn_run.proofs.opening.new_stores.Given as goal

abbrev pub invariant-loop-server : goal.invariant-loop-server
invariant-loop-server l = record {
  stores : AreStores look 0 l.stores.items;
  new : AreDisks look l.fn.geometry l.stores.items;
  count : length l.stores.items ≡ l.server;
}
