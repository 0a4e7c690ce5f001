use Rattle.jn_image_files.proofs.Common.{◌≡◌, length, SavedTo}
use Rattle.jn_image_files.proofs.Disks.{device}
use Rattle.jn_image_files.proofs.saving.save_images.Given as goal

abbrev pub invariant-loop-store : goal.invariant-loop-store
invariant-loop-store g l = record {
  count : length l.yielded ≡ l.server;
  faults : g.I.Keeper.faults l.keeper ≡ g.I.Keeper.faults l.fn.keeper;
  saved : SavedTo device l.fn.name l.fn.stores.items l.fn.counts l.server (g.I.Keeper.kept l.fn.keeper) (g.I.Keeper.kept l.keeper);
}
