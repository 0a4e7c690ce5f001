use Rattle.jn_image_files.proofs.Common.{◌≡◌, ◌<◌, ℕ, length, Has, found_at, image_name}
use Rattle.jn_image_files.proofs.loading.load_images.Given as goal

abbrev pub invariant-loop-server : goal.invariant-loop-server
invariant-loop-server g l = record {
  count : length l.found.items ≡ l.server;
  each : (n : ℕ) → n < l.server → Has (g.I.Keeper.kept l.fn.keeper) (image_name l.fn.name n) (found_at l.found.items n);
  same : g.I.Keeper.kept l.keeper ≡ g.I.Keeper.kept l.fn.keeper;
  faults : g.I.Keeper.faults l.keeper ≡ g.I.Keeper.faults l.fn.keeper;
}
