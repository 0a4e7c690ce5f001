-- The names from below that these proofs cite, passed on from one place. Declares nothing.
pub use Rattle.std.proofs.Common.{◌≡◌, ℕ, List, Option, Some, None, sym, ◌∙◌, ap, subst, refl, ◌≢◌, zero, suc, ◌+◌, ◌<◌, ◌≤◌, Bool, true, false, [], ◌∷◌, length, slice_get, Result, Err, arith, true≢false, inr, ◌++◌, Vec}
pub use Rattle.jn_device.specs.Device.{DeviceState}
pub use Rattle.jn_store.specs.Store.{StoreView}
pub use Rattle.jn_store.specs.Pairs.{pairs_view}
pub use Rattle.jn_image.specs.declared.image.Image.{Image}
pub use Rattle.jn_image.specs.Form.{image_bytes, HasForm, PagesFit, image_counts}
pub use Rattle.std.proofs.lemmas.Bool.Decides.{nat_tests}
pub use Rattle.std.specs.Prelude.{nat_lt, is_some, is_ok, get_or, codes, decimal}
pub use Rattle.jn_base.specs.declared.names.ServerNo.{ServerNo}
pub use Rattle.jn_host.specs.Outside.{Contents, KeeperSaved, kept_at, found_bytes}
pub use Rattle.jn_device.specs.declared.Half.{Half}
pub use Rattle.jn_disks.specs.Disks.{AreSound, HasPages, image_of, files_in, IsStoreOfPages}
pub use Rattle.jn_recovery.specs.Counts.{counts_by}
pub use Rattle.jn_recovery.specs.declared.counts.PageCounts.{PageCounts}
pub use Rattle.jn_image_files.specs.Kept.{Has, IsSoundImage, image_name, IsSaved}
pub use Rattle.jn_image_files.specs.Opened.{IsClosed, IsStoreOf, IsOpened, AreStoresOf, found_at}
pub use Rattle.jn_image_files.specs.Saved.{SavesOne, SavedTo, SavesAll}
pub use Rattle.jn_records.specs.Pages.{format_version}
pub use Rattle.jn_records.specs.StablePages.{Counts}
pub use Rattle.std.proofs.lemmas.List.{append_cancel_left, length_push}
pub use Rattle.jn_image.proofs.SoundPages.{sound_pages}
pub use Rattle.std.proofs.lemmas.Result.{err_from_is_err_and}
