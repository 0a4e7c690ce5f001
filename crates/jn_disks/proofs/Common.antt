-- The names from below that these proofs cite, passed on from one place. Declares nothing.
pub use Rattle.std.proofs.Common.{◌≡◌, ⊎_elim, ◌<◌, ◌≤◌, ◌+◌, ◌*◌, ◌/◌, ◌-◌, ◌&&◌, ℕ, Bool, true, false, if◌then◌else◌, List, [], length, sym, ◌∙◌, ap, subst, arith, inr, zero, suc, ◌^◌, nat_eq, true≢false, ◌∷◌, Some, None, replicate, refl}
pub use Rattle.std.specs.Prelude.{nat_lt, take, drop, option_map, option_and_then}
pub use Rattle.jn_device.specs.declared.Half.{Half}
pub use Rattle.jn_device.specs.Device.{DeviceState}
unfoldable pub use Rattle.jn_device.specs.Device.{blank_page}
pub use Rattle.jn_memdisk.specs.Disk.{HasHalves, IsNew}
pub use Rattle.jn_order.specs.Files.{Files, there}
pub use Rattle.jn_records.specs.Sound.{Image, IsSound, Spot, InHead, AsMap, InMap, IsUsedAt, IsWrittenAt}
pub use Rattle.jn_records.specs.StablePages.{Counts, Pages, page_count, slot_place, head_place, data_place, is_used, file_in, address_in, NamesMap, map_in, entry_in, counts_of, is_head_of, head_from, block_in, files_of_pages, root_by}
pub use Rattle.jn_store.specs.Pairs.{pairs_view}
pub use Rattle.jn_page_state.specs.Images.{IsStoreOf, IsImage, image_on, CountsFit, IsFresh, place_in}
pub use Rattle.jn_page_state.proofs.ImageStates.{files_agree, image_fresh}
pub use Rattle.jn_disks.specs.Disks.{AreSound, HasPages, image_of, files_in, IsStoreOfPages, IsNewStore, IsNewDisk, new_page, no_files}
pub use Rattle.std.proofs.lemmas.Bool.Decides.{nat_tests}
pub use Rattle.jn_records.specs.Pages.{format_version, root_page}
pub use Rattle.jn_records.specs.Heads.{IsMapPage}
unfoldable pub use Rattle.jn_records.specs.Heads.{head_page}
pub use Rattle.jn_store.specs.Store.{StoreView, StorePut, IsBlank, IsOnly, StoreLater}
pub use Rattle.jn_memdisk.specs.contracts.disk.MemDiskPhysDisk.TheImpl.{ghosts}
