-- The names from below that these proofs cite, passed on from one place. Declares nothing.
pub use Rattle.std.proofs.Common.{◌≡◌, ◌⊎◌, inl, inr, ⊎_elim, ◌<◌, ◌≤◌, ◌+◌, ◌*◌, ℕ, suc, Bool, true, false, List, [], refl, sym, ◌∙◌, ap, subst, true≢false, arith, zero, if◌then◌else◌, ◌∷◌, Option, Some, None, ◌-◌, ◌≢◌, ◌||◌, length, get_or, ◌^◌, not, map, ◌++◌, length-append, rules}
pub use Rattle.std.proofs.lemmas.Bool.{cases_eq, cases_lt, and_parts}
pub use Rattle.jn_base.specs.declared.names.ServerNo.{ServerNo}
pub use Rattle.jn_files.specs.Table.{TableView, exists, is_mapped, or_unused, IsHeadOf, AreHeads, layouts_of, AreRows, IsTable, is_held, layouts_in as table_layouts, is_touched, IsUnnamed}
pub use Rattle.jn_files.specs.Calls.{IsLoaded as IsTableLoaded, LoadedFrom, MendsMaps}
pub use Rattle.jn_page_state.specs.Pages.{found_on, half_of, pages_by, pool_on, contents_of, epoch_by, listed, head_on, head_or_free, heads_on, block_on, IsOfFormat, state_of}
pub use Rattle.jn_records.specs.StablePages.{root_by, Counts, data_place, page_count, slot_place, head_place, NamesMap, is_used, map_in, entry_in, counts_of}
pub use Rattle.jn_page_state.specs.Puts.{RootPut, RecordPut, IsFrontClean, put_page, IsFewer, contents_by}
pub use Rattle.jn_page_state.specs.Standing.{IsPutStep, MakesEpoch, standing_state, IsStanding, MakesNothing, Makes}
pub use Rattle.jn_page_state.proofs.CallLaws.{counts_on, idles, flags as flags_put, drops}
pub use Rattle.jn_records.specs.declared.head.Head.{Head}
pub use Rattle.jn_records.specs.declared.record.Record.{Record}
pub use Rattle.jn_records.specs.declared.root.Root.{Root}
pub use Rattle.jn_records.specs.Pages.{root_page, IsRoot}
pub use Rattle.jn_rows.specs.Stable.{StableState, Pick, Prepared, Changed, AddFlag, DropFlag, made_by, flag_state, stable, IsUp, ready_work, MarkGoing, RemoveWork, gone_on, at_work}
pub use Rattle.jn_store.specs.Store.{StoreView, StorePut, IsClean, IsOnly, IsWholePage, IsSamePage, StoreCleaned, Candidate, StoreLater, IsCalm, IsStop, StoreRead as SetsRead, IsServed, HasSamePages}
pub use Rattle.jn_store.proofs.Laws.{later_trans, same_trans, only_clean, stop_since, calm_on, later_refl, same_refl, same_shrinks}
pub use Rattle.jn_recovery.specs.Loading.{IsSameOrNext, IsDown, front_count, reading_calls, KeepsDataPages, IsCleanBehindRoot, IsIdleSlot, CountsRestartLast, Recovering, IsUsedUp, IsNotUsedUp, IsLoaded, IsUntouched}
pub use Rattle.jn_recovery.specs.Counts.{most_calls, calls_by, counts_by}
pub use Rattle.jn_recovery.specs.Memory.{rubbish_in, Memory, accounts_of, held_in, next_in, next_by, stored_by, held_of, rubbish_of, view_of, supplied_in, holds_page}
pub use Rattle.jn_recovery.specs.Opening.{next_root, Stands, IsOpened, ErasesAll, EraseStopped, IsBegun, Erases, KeepsAllData, RootRead}
pub use Rattle.jn_recovery.specs.declared.load.DownCause.TheVariants.{Stopped, EpochsUsedUp, Memory as NoMemory}
pub use Rattle.jn_recovery.specs.declared.opening.Opened.{Opened}
pub use Rattle.jn_files.proofs.Said.{same_only, files_said, same_leaves, says_choice, files_first}
pub use Rattle.jn_records.specs.MapPlaces.{maps_named, maps_in, is_past_head, names_maps, names_map, MapPlaces}
pub use Rattle.std.proofs.lemmas.Bool.Decides.{nat_tests}
pub use Rattle.std.specs.Prelude.{nat_lt, is_some, option_map, option_and_then, ◌&&◌, slice_index, ◌/◌, ◌%◌, slice_set, Result, Ok, Err, is_ok, OnOk, OnErr, drop, All, nat_eq, count_by, slice_get, nat_le, IfErr, IfOk, position, MatchOption, filter, slice_index_or, take}
pub use Rattle.std.specs.List.{find, list_any, list_all, position_or_len, AllByRecursion}
pub use Rattle.jn_base.specs.declared.names.BlockNo.{BlockNo}
pub use Rattle.jn_base.specs.declared.names.FileNo.{FileNo}
pub use Rattle.jn_records.specs.Heads.{is_of, head_in, all_within, within, head_page, HaveOneHead, IsHead, FileFits, IsMapPage, head_at, map_page, has_page as head_has_page}
pub use Rattle.jn_base.specs.Limits.{most_blocks, head_blocks, most_maps, most_cells}
pub use Rattle.jn_records.specs.Layouts.{Layout, at_cell, layout_by, layouts_by, is_layout_of, behind, block_in, row_at, Unused, Of, map_cell, through, laid, kept_entry, layout_at, has_address, head_map, AreNamedOnce, files_in, IsNoMap}
pub use Rattle.jn_records.proofs.Layouts.{own-file, get-map, laid-block, laid-entry, laid-map, laid-past, has-at, has-found, file-at, map-cell-is, any-found}
pub use Rattle.std.proofs.Math.Path.{fun_ext}
pub use Rattle.jn_records.specs.declared.head.Head.TheVariants.{Free as FreeHead, Used}
pub use Rattle.jn_page_state.specs.Contents.{heads_name, Contents, layouts_in, entry_of, names_for_block, works_have, state_in, with_first, intended, stored_list, intentions_from, intention_of, stored_in, holds_intention, flag_by, flags_in, works_name, prepared_by, works_in}
pub use Rattle.jn_page_state.proofs.Slots.{passes_any, passes_at, at_set}
pub use Rattle.jn_page_state.specs.Recoverable.{PassesOnce, MapsAreClean, IsRecoverable, names_block, IsConsistent, Intends, Gives, IsSuppliedIn, HasIntentions, IsCompleteBy}
pub use Rattle.std.proofs.lemmas.List.{get_or-set_same, get_or_past, get_or-set_other, length-set, length-map}
pub use Rattle.jn_page_state.specs.Changes.{IsIdlePut, is_idle, IsFlagSlot, IsFlagPut}
pub use Rattle.jn_page_state.proofs.HeldLaws.{front_held, maps_held, contents_held, cleaned_fewer, fewer_trans, named_held, layouts_held}
pub use Rattle.jn_records.specs.declared.record.Record.TheVariants.{Free, Intention, Ready, Going, Flag as FlagRecord}
pub use Rattle.jn_sets.specs.Pool.{record_in, slot_page, HoldsRecords, IsReadable, IsRecordPage, is_prepared, is_intention, intends_for, is_rubbish, is_free, is_flag, IsRecord, free_count}
pub use Rattle.jn_records.specs.Records.{record_page, has_page, RecordFits, FlagFits}
pub use Rattle.jn_page_state.proofs.Picking.{picks, fewer_recoverable, fewer_picked, same_recoverable}
pub use Rattle.jn_recovery.specs.Cleaning.{Cleans}
pub use Rattle.jn_page_state.specs.Held.{IsHeadStored, held_contents}
pub use Rattle.jn_records.proofs.Roots.{root_is_read}
pub use Rattle.jn_files.specs.Pages.{HoldsHeads, layouts_on, IsMapChoice, MapsLoadable, HoldsTable, leaves_in}
pub use Rattle.jn_page_state.proofs.Choosing.{choice_picked, pick_chooses}
pub use Rattle.std.proofs.lemmas.List.Sums.{sum_by-cons, sum_by-set, count_by-le-length, passes_at_first}
pub use Rattle.jn_base.specs.declared.names.Tid.{Tid}
pub use Rattle.jn_base.specs.declared.names.WorkId.{WorkId}
pub use Rattle.jn_base.specs.Names.{file_eq, work_eq, unit_eq, tid_eq}
pub use Rattle.jn_base.proofs.Tells.{file_tells, work_tells, tid_tells, block_tells}
pub use Rattle.jn_page_state.proofs.Found.{found_once, none_found, found_passes, any_same, found_written, none_at, none_passes, found_any}
pub use Rattle.jn_records.specs.declared.intention.Intention.{Intention as FullIntention}
pub use Rattle.jn_records.specs.declared.intention.StoredIntention.{StoredIntention}
pub use Rattle.jn_records.specs.declared.work.WorkState.{WorkState}
pub use Rattle.jn_records.specs.Intentions.{intention_has_page, names_address, names_what_it_needs}
pub use Rattle.jn_records.specs.NetLists.{needs_a_head, is_put, is_put_intention, heads_of, is_fresh}
pub use Rattle.jn_storage.specs.Calls.{name_of, state, Called, RecordErased, CountsErased, tid_of, HasFlag, MayPutFlag, FlagPut, FlagDropped, FlagPromised, PromiseReleased, TellsFlags, with_promises, outline, outline_of, IsTold, TellsWorks, CountsOff}
pub use Rattle.jn_storage.specs.Finding.{find_by}
pub use Rattle.jn_storage.specs.Listing.{total, is_in, are_different, IsListing, AtMost}
pub use Rattle.jn_storage.specs.Storage.{IsCounted, is_stored, most_pages, IsServing, Accounts, map_eq, has_map}
pub use Rattle.jn_storage.specs.Orderly.{file_there, list_of, IsLoadable, IsGiven, IsOrderly}
pub use Rattle.jn_rows.specs.Worker.{intentions_of}
pub use Rattle.jn_storage.proofs.Listings.{Tells, but, is_in-but, different-but, total-but, listing-less, listing-more, listing-same, total-same}
pub use Rattle.jn_recovery.specs.Gathering.{collected, state_on, works_on, IsFew, record_names, all_needed, IsApart, MayHold, HoldsNamed, MayHoldAt, held_at, HoldsBoth, both_held, flags_on, MayPromise, IsGathered}
pub use Rattle.jn_recovery.specs.Matches.{stored_work, HasMaps, HaveMaps, Matches, IsKeptMemory, FlagsMatch, flag_on, IsMade, WorksMatch, work_by, StoredWork}
pub use Rattle.jn_recovery.specs.Pages.{heads_needed, supplied_on, supplied_by}
pub use Rattle.std.proofs.lemmas.List.Folds.{find_at, find_past}
pub use Rattle.std.proofs.lemmas.Option.{slice_get_within, get_or_from_slice_get, slice_get_past, slice_get-get_or}
pub use Rattle.jn_sets.specs.Sets.{Puts}
pub use Rattle.jn_records.specs.declared.flag.Flag.{Flag}
pub use Rattle.jn_storage.proofs.Finds.{find-kept, find-add, find-at, find-listed, keys-kept, different-kept, different-add, map-add}
pub use Rattle.jn_storage.proofs.Kept.{orderly-put, orderly-dropped, orderly-marked, orderly-removed}
pub use Rattle.jn_recovery.specs.Causes.{down_of}
pub use Rattle.jn_base.specs.declared.names.LockUnit.TheVariants.{File, Block}
pub use Rattle.std.proofs.lemmas.Result.{err_from_is_err_and}
