-- The names from below that these proofs cite, passed on from one place. Declares nothing.
pub use Rattle.std.proofs.Common.{◌≡◌, ℕ, zero, suc, Bool, List, [], ◌∷◌, map, Option, Some, refl, sym, ◌∙◌, ap, arith, ◌≢◌, inl, inr, ⊎_elim, ◌<◌, ◌+◌, ◌++◌, true, ◌&&◌, if◌then◌else◌, length, subst, true≢false, ◌≤◌, ◌||◌, ◌⊎◌, ◌^◌, ◌-◌, cond, get_or, set, ◌/◌, Result, ◌*◌, not, ◌%◌}
pub use Rattle.std.specs.Prelude.{take, None, false, slice_set, nat_eq, is_some, option_and_then, nat_lt, nat_le, slice_index, slice_index_or, option_map, drop, replicate, slice_get}
pub use Rattle.jn_base.specs.declared.names.WorkId.{WorkId}
pub use Rattle.jn_base.specs.declared.names.BlockNo.{BlockNo}
pub use Rattle.jn_base.specs.declared.names.LockUnit.{LockUnit}
pub use Rattle.jn_base.specs.declared.names.LockUnit.TheVariants.{File, Block}
pub use Rattle.jn_records.specs.declared.intention.What.{What}
pub use Rattle.jn_records.specs.declared.intention.What.TheVariants.{Fresh, Gone, Cut, Put}
pub use Rattle.jn_records.specs.NetLists.{carried_out, intention_change, list_change, change_by, among, heads_of, in_order, stands_before, names_file, is_put}
pub use Rattle.jn_order.specs.Files.{change, or_else, Change as FilesChange, there, Files, removed, cut_from}
pub use Rattle.jn_rows.specs.Stable.{StableState, made_all, made_by, CarryOut, Left, left_of, part_by, Pick, AddReady, MarkGoing, RemoveWork, AddFlag, DropFlag, Change, Prepared, ready_work, IsUp, Changed, Unchanged, IsStopState, FlagState, at_work, at_tid, gone_on, flag_state, parted}
pub use Rattle.jn_page_state.specs.Recovery.{after_turns, Recovers, cleans, counts, erases, joined, IsSameButEpoch, FindsSame}
pub use Rattle.jn_records.specs.declared.intention.Intention.{Intention as FullIntention}
pub use Rattle.std.proofs.lemmas.Bool.{cases_eq, or_left, or_right, cases_lt, and_parts}
pub use Rattle.std.proofs.lemmas.Bool.Decides.{nat_tests}
pub use Rattle.std.proofs.lemmas.List.{length-append, get_or-set_same, get_or-set_other, get_or_past, length-set, drop_at, append_assoc, take_at, length-map}
pub use Rattle.std.proofs.lemmas.List.Folds.{find_past}
pub use Rattle.std.specs.List.{list_any, list_all, find}
pub use Rattle.jn_base.specs.declared.names.Tid.{Tid}
pub use Rattle.jn_base.specs.Names.{work_eq, tid_eq, file_eq, unit_eq}
pub use Rattle.jn_base.proofs.Tells.{work_tells, tid_tells, file_tells}
pub use Rattle.jn_records.specs.declared.intention.StoredIntention.{StoredIntention}
pub use Rattle.jn_records.specs.declared.record.Record.{Record}
pub use Rattle.jn_records.specs.declared.record.Record.TheVariants.{Free, Intention, Ready, Going, Flag as FlagRecord}
pub use Rattle.jn_sets.specs.Pool.{record_in, is_intention, is_prepared, is_flag, slot_page, IsStored, Says, IsRecord, IsRecordPage, is_free, is_rubbish}
pub use Rattle.jn_page_state.specs.Contents.{stored_in, intention_of, with_first, intentions_from, stored_list, layouts_in, heads_name, works_have, names_for_block, state_in, Contents, entry_of, full_list, intended, works_in, prepared_by, bytes_by, holds_intention, flags_in, flag_by}
pub use Rattle.jn_page_state.specs.Recoverable.{HasIntentions, HasFirst, HasNone, HasAt, IsWholeWork, IsRecoverable, names_block, reads_page, is_read, IsCompleteBy, Intends, AddressesDiffer, IsConsistent, NamedAreClean, MapsAreClean, Addresses, IsSuppliedIn, names_page, PassesOnce, IsDistinct, Gives, is_named, IsFound, AreFresh}
pub use Rattle.jn_base.specs.declared.names.ServerNo.{ServerNo}
pub use Rattle.jn_records.specs.declared.flag.Flag.{Flag}
pub use Rattle.jn_records.specs.declared.head.Head.{Head}
pub use Rattle.jn_records.specs.declared.work.WorkHead.{WorkHead}
pub use Rattle.jn_records.specs.Heads.{head_in, has_page, head_at, head_page, IsHead, FileFits, IsMapPage, fits_version, HaveOneHead, addresses_bytes, IsMapRow, all_within}
unfoldable pub use Rattle.jn_records.specs.Heads.{map_page}
pub use Rattle.jn_records.specs.StablePages.{Counts, data_place, entry_in, page_count, slot_place, head_place, Pages, address_in, map_in, address_by, is_head_of as is_page_of, head_from, head_of, block_behind, block_in as block_on_page, files_of_pages, root_by, NamesMap, is_used, file_in, IsWholeMap}
pub use Rattle.jn_storage.specs.Orderly.{IsLoadable, file_there, IsGiven, IsPrepared, needs_file, list_of, first_of as first_net, IsOrderly, unit_of, unit_by}
pub use Rattle.jn_store.specs.Store.{StoreView, IsClean, Candidate, IsOnly, StoreGot, StoreCleaned, IsWholePage, HasSamePages, StorePut}
pub use Rattle.jn_base.specs.Limits.{most_blocks, most_cells, most_maps, head_blocks}
pub use Rattle.jn_records.specs.Layouts.{layouts_by, kept_entry, IsNoMap, head_map, Layout, Unused, map_cell, at_cell, layout_at, row_at, layout_by, is_layout_of, behind, block_in, files_in, has_address, Of, through, laid, AreNamedOnce}
pub use Rattle.jn_page_state.specs.Changes.{IsIdlePut, IsReadyPut, IsReadySlot, IsPreparedSlot, IsFlagPut, IsFlagSlot, with_block, address_after, IsHeadPut, IsPartPut, LaysOut, with_record, is_idle, map_after, is_head_after, serves_for, with_epoch, with_head, IsFreeSlot}
pub use Rattle.jn_page_state.specs.Held.{held_contents, MayStand, rows_after, heads_after, IsLayoutPut, Lays, IsHeadStored, IsMapStored, HasMapsStored, IsHeld, epoch_after, records_after}
pub use Rattle.jn_page_state.specs.Pages.{block_on, pages_by, half_of, found_on, contents_of, epoch_by, record_or_free, head_or_free, record_on, head_on, heads_on, listed, IsHeadPage, IsOfFormat, state_of, epoch_in, pool_on, IsRootPage, IsDataPage}
pub use Rattle.jn_page_state.specs.Puts.{RootPut, RecordPut, BlockPut, MapPut, put_in, contents_by, IsPut, PagePut, HeadPut, IsPagePut, is_put_at, IsReadable, IsFrontClean, put_place, PutStep, IsFewer, MayPut, put_page, KeepsClean, KeepsFound}
pub use Rattle.jn_page_state.specs.Standing.{IsStanding, IsPutStep, MayChange, Makes, MakesNothing, MakesFirst, MakesEpoch, standing_state}
pub use Rattle.jn_rows.proofs.Left.{whole-stop, left-none}
pub use Rattle.jn_records.specs.declared.head.Head.TheVariants.{Free as FreeHead, Used}
pub use Rattle.jn_base.specs.declared.names.FileNo.{FileNo}
pub use Rattle.jn_records.specs.MapPlaces.{is_in_range, keeps_map, maps_in, names_map, has_map_after, places_after, bare, IsSuppliedBy, MapPlaces, names_maps}
pub use Rattle.jn_records.proofs.Layouts.{inside-was, has-at, file-at, get-map, same-map, laid-block, laid-entry, laid-past, map-cell-is, laid-none, has-found, block-put}
pub use Rattle.jn_store.specs.Choices.{IsChoice, Agree, with_page}
pub use Rattle.jn_records.specs.Pages.{root_at, root_page, format_version, IsRoot}
pub use Rattle.jn_records.specs.Records.{record_at, record_page}
pub use Rattle.std.proofs.Math.Path.{fun_ext}
pub use Rattle.jn_records.proofs.Heads.{head_is_read}
pub use Rattle.jn_records.proofs.HeadPages.{free_unused, used_kind, used_file, used_address, used_map, block_entry, map_entry}
pub use Rattle.jn_records.specs.Intentions.{names_address, names_what_it_needs}
pub use Rattle.std.proofs.lemmas.Option.{same_Some, none-some, slice_get-map}
pub use Rattle.jn_records.proofs.Roots.{root_is_read}
pub use Rattle.jn_store.proofs.Laws.{same_shrinks, cleaned_kept}
pub use Rattle.jn_records.specs.Sound.{Image, IsSound, Spot, InHead, AsMap, InMap, IsWrittenAt, AddressesOnce}
pub use Rattle.jn_page_state.specs.Images.{image_on, place_in, IsImage, CountsFit, IsStoreOf, IsFresh, only_files}
pub use Rattle.jn_storage.specs.Listing.{is_in, are_different, IsListing, total}
pub use Rattle.jn_records.proofs.RecordsAgain.{record_is_read}
pub use Rattle.jn_store.proofs.Choices.{with_same, with_other}
