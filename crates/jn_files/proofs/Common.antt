-- The names from below that these proofs cite, passed on from one place. Declares nothing.
pub use Rattle.std.proofs.Common.{◌≡◌, ◌≢◌, ◌⊎◌, inl, inr, ⊎_elim, ◌<◌, ℕ, suc, Bool, true, false, List, length, refl, sym, ap, subst, ◌∙◌, arith, true≢false, ◌≤◌, ◌+◌, ◌*◌, ◌-◌, ◌/◌, ◌%◌, ◌^◌, replicate, take, drop, zero, [], ◌∷◌, Option, Some, None, ◌++◌, Result, Ok, map, get_or, length-append, add-one, drop-cons, Err, rules}
pub use Rattle.std.specs.Prelude.{slice_index_or, slice_set, slice_index, nat_eq, nat_lt, nat_le, ◌&&◌, ◌||◌, if◌then◌else◌, option_map, option_and_then, is_some, IfSome, IfNone, not, count_by, is_ok, OnOk, OnErr, vec_capacity}
pub use Rattle.std.proofs.lemmas.Bool.{cases_eq, cases_lt, cases_Bool, false_from_ne_true, eq-eqb, and_parts}
pub use Rattle.std.proofs.lemmas.List.{get_or-set_same, get_or-set_other, get_or_past, length-set, ext_get_or, get_or-drop, drop_at, length-map, get_or_read, get_or-map, get_or_push, get_or_append_left}
pub use Rattle.jn_records.specs.Layouts.{Layout, Unused, at_cell, layout_at, AreNamedOnce, through, kept_entry, layout_by, is_layout_of, head_map, map_cell, with_row, cut_inside, row_at, Of, behind, block_in, laid, with_entries, layouts_by, IsNoMap, block_in as block_at, IsMapIn, IsRowChanged}
pub use Rattle.jn_files.specs.Table.{IsUnnamed, TableView, IsTable, IsHeadOf, is_held, exists, layouts_of, layouts_in, layout_in, files_of, fresh_head, cut_head, cut_map, cut_addresses, kept_maps, AreRows, with_leaf, with_map, one_entry, AreHeads, address_for, is_mapped, or_unused, head_with, IsFreeLeaf, is_touched}
pub use Rattle.jn_files.specs.Inside.{IsNamedPage, AreNamed, IsChange, IsCutInside, MayPutHead, MaySet, MaySetMap, cells_kept, head_address, has_block, has_entry, unnamed_one, unnamed_all, unnamed_map, unnamed_maps, AreFree, IsKeptTable, table_view, unnamed_head, AreIndexed, head_number, file_number, AreFreeHeads, IsHeadAt, IsMapOfHead, IsMapOfHeads, one_if, AreMapPages, MapsCleaned, MapsMended, IsRowRead, IsRowKept, MapsRead, MapsHeld, KeepsPower, named_one, named_all, named_map, named_maps, named_head, IsReadFrom}
pub use Rattle.std.proofs.Math.Nat.{div-add-mod, mod-lt, mul-add-mod_self_left, mod-eq_of_lt}
pub use Rattle.std.proofs.lemmas.Bool.Decides.{nat_tests}
pub use Rattle.jn_alloc.specs.Free.{free_count, IsLeastFree, FreeNumbers, count_of, is_free as is_free_number, with_free, with_promised}
pub use Rattle.jn_base.specs.Limits.{head_blocks, most_maps, most_blocks, most_cells}
pub use Rattle.jn_base.specs.Names.{file_eq, block_eq}
pub use Rattle.jn_base.specs.declared.names.FileNo.{FileNo}
pub use Rattle.jn_base.specs.declared.names.BlockNo.{BlockNo}
pub use Rattle.jn_order.specs.Files.{cut_from, created, removed, Files, Change, change, or_else, there, written}
pub use Rattle.jn_records.specs.declared.head.Head.{Head}
pub use Rattle.jn_records.specs.declared.head.Head.TheVariants.{Free, Used}
pub use Rattle.jn_records.specs.Heads.{all_within, head_in, is_of, is_free, has_page, within, head_page, map_page, IsMapRow, IsMapPage, FileFits, IsHead, HaveOneHead}
pub use Rattle.jn_records.specs.MapPlaces.{is_in_range, maps_in, range_of, map_count, maps_named, names_map}
pub use Rattle.jn_store.specs.Store.{StoreView, StorePut, StoreCleaned, StoreGot, IsServed, IsOnly, Candidate, Shrinks, StoreRead, IsWholePage, StoreLater, IsSamePage, IsStop, IsCalm}
pub use Rattle.jn_files.specs.Calls.{IsPlaceOf, IsChanged, MayBecome, MayBring, block_written, NextFile, HasPagesOfTable, Fills, FillsMap, with_touched, IsLoaded, PutsLayout, LoadedFrom, MendsMaps, PutsHead, PutsMap, Touches, BlockGot, NextBlock}
pub use Rattle.jn_records.proofs.Layouts.{laid-block, laid-entry, laid-past, map-cell-is, get-map, file-at, laid-map, own-file, same-map, inside-was, set-map, map-put, block-put}
pub use Rattle.std.proofs.Math.Path.{fun_ext}
pub use Rattle.std.specs.List.{find}
pub use Rattle.jn_base.specs.declared.names.LockUnit.{LockUnit}
pub use Rattle.jn_base.specs.declared.names.LockUnit.TheVariants.{File, Block}
pub use Rattle.jn_records.proofs.PartCuts.{find-only, part-files}
pub use Rattle.jn_records.specs.NetLists.{among}
pub use Rattle.jn_index.specs.Least.{IsLeastFrom, number_after, LeastFrom}
pub use Rattle.jn_index.specs.Numbers.{number_at, is_above as is_number_above, IsSlotFrom, IsNumberAbove}
pub use Rattle.jn_records.specs.StablePages.{Pages, head_place, data_place, files_of_pages, Counts, counts_of, Counts as PageCounts, page_count, is_head_of, entry_in, head_from, head_of, block_behind, address_by}
pub use Rattle.jn_store.specs.Choices.{IsChoice, with_page}
pub use Rattle.jn_files.specs.Pages.{HoldsTable, leaf_page, leaves_in, files_in, MapsLoadable, Says, IsLeaf, HoldsHeads, IsMapChoice, layouts_on}
pub use Rattle.jn_base.specs.declared.device.Stopped.{Stopped}
pub use Rattle.jn_store.proofs.Laws.{later_trans, same_trans, same_shrinks, later_refl, same_refl, shrinks_only, stop_since}
pub use Rattle.jn_files.specs.Maps.{rows_by, rows_made, AreRowsMade}
pub use Rattle.jn_store.proofs.Choices.{Leads, choice_only, put_leads, done_leads, with_same, with_other, some_choice}
