use Rattle.jn_image_files.proofs.Common.{◌≡◌, length, AreStoresOf, found_at}
use Rattle.jn_image_files.proofs.Disks.{look, device}
use Rattle.jn_image_files.proofs.examining.examine.Given as goal

abbrev pub invariant-loop-content : goal.invariant-loop-content
invariant-loop-content l = record {
  count : length l.stores.items ≡ l.content-index;
  stores : AreStoresOf look device (found_at l.fn.found) l.stores.items;
}
