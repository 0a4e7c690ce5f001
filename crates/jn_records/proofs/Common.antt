-- The names from below that these proofs cite, passed on from one place. Declares nothing.
pub use Rattle.std.proofs.Common.{◌≡◌, ℕ, Bool, true, List, [], ◌∷◌, Option, None, Some, refl, sym, ◌∙◌, ap, subst, arith, ◌≢◌, ◌⊎◌, ◌<◌, inl, inr, ◌+◌, zero, suc, false, ◌++◌, length, take, drop, filter, ◌≤◌, ◌*◌, ◌^◌, ◌-◌, replicate, append_assoc, length-append, Result, map, add-zero, drop-cons, rules, Ok, Err}
pub use Rattle.std.proofs.Math.Path.{fun_ext}
pub use Rattle.std.specs.Prelude.{◌&&◌, nat_eq, nat_lt, if◌then◌else◌, is_some, count_by, ◌||◌, not, slice_index, nat_le, flat_map, IfOk, ◌/◌, ◌%◌, slice_index_or, slice_set, option_map, option_and_then, codes, slice_get, IfSome, IsOk, OnOk, vec_len, vec_capacity}
pub use Rattle.jn_base.specs.declared.names.LockUnit.{LockUnit}
pub use Rattle.jn_base.specs.declared.names.LockUnit.TheVariants.{File, Block}
pub use Rattle.jn_base.specs.declared.op.Op.{Op}
pub use Rattle.jn_order.specs.Files.{Files, change, or_else, effect, answer_to, is_did, files_after, file_of, there, cut_from}
unfoldable pub use Rattle.jn_order.specs.Files.{zeros}
pub use Rattle.jn_order.specs.Changes.{files_then, all_did, or_also, and_then}
pub use Rattle.jn_records.specs.declared.intention.Intention.{Intention}
pub use Rattle.jn_records.specs.NetLists.{intention_change, list_change, carried_out, in_order, Net, net_of, no_net, added, added_all, net_change, blocks_below, comes_behind, adds, length_with, intention_place, stands_before, InOrder, Plain, AllPlain, entry, First, Kept, MadeFresh, TakenAway, CutFrom, FileNet, as_first, as_put, stays_at, stays, seen_block, names_file, finds_file, files_there, file_added, first_file, is_put_intention, cut_first, first_block, put_or, among, is_put}
pub use Rattle.std.proofs.lemmas.Bool.Decides.{nat_tests}
pub use Rattle.jn_base.specs.declared.names.FileNo.{FileNo}
pub use Rattle.jn_base.specs.declared.names.BlockNo.{BlockNo}
pub use Rattle.jn_base.specs.declared.op.Op.TheVariants.{Create, Remove, Cut as CutBlocks, Read, Write}
pub use Rattle.jn_base.specs.Names.{file_eq}
pub use Rattle.jn_base.proofs.Tells.{file_tells, block_tells}
pub use Rattle.jn_records.specs.NetEdits.{seen_by, cut_again, intention_for, front, in_its_place, with_intention, there_by, list_after}
pub use Rattle.std.proofs.lemmas.List.Sums.{length-filter, sum_by-cons}
pub use Rattle.jn_records.specs.declared.intention.What.{What}
pub use Rattle.jn_records.specs.declared.intention.What.TheVariants.{Fresh, Gone, Cut, Put}
pub use Rattle.std.specs.List.{list_all, AllByRecursion, find}
pub use Rattle.std.proofs.lemmas.List.{drop_at, drop-take, length-set, get_or-set_same, get_or-set_other}
pub use Rattle.byteorder.specs.Endian.{big_bytes, big_number}
pub use Rattle.jn_records.specs.declared.head.Head.TheVariants.{Free, Used}
pub use Rattle.jn_records.specs.Heads.{addresses_bytes, all_within, head_bytes, IsHead, FileFits, is_of, head_in, within, fits_version, IsMapPage}
unfoldable pub use Rattle.jn_records.specs.Heads.{head_page, map_page, maps_at, used_at, head_at}
pub use Rattle.jn_base.specs.Limits.{head_blocks, most_maps, most_blocks, most_cells}
pub use Rattle.jn_records.specs.StablePages.{is_used, file_in, address_in, map_in, entry_in, HasEntries}
pub use Rattle.std.proofs.lemmas.Bool.{and_parts, true≢false, false≢true}
pub use Rattle.jn_records.specs.declared.head.Head.{Head}
unfoldable pub use Rattle.jn_fields.specs.Reading.{number_at, list_at}
pub use Rattle.jn_fields.proofs.Fields.{number_again, bytes_again}
pub use Rattle.jn_fields.proofs.Lists.{list_again}
pub use Rattle.jn_records.specs.declared.intention.StoredIntention.{StoredIntention}
pub use Rattle.jn_records.specs.Intentions.{what_code, what_of, intention_bytes, IntentionFits}
unfoldable pub use Rattle.jn_records.specs.Intentions.{intention_at}
pub use Rattle.jn_records.specs.MapPlaces.{is_in_range, MapPlaces, has_map_after, places_after, places_then, need_of, keeps_map, lacks_map, lacking, IsSupplied}
pub use Rattle.jn_records.specs.Layouts.{Layout, Of, map_cell, at_cell, through, laid, layout_by, layouts_by, layout_at, has_address, with_entries, with_row, cut_inside, head_map, IsMapIn, IsNoMap, IsRowChanged, is_layout_of, Unused, behind, block_in, files_in, IsPartCut}
pub use Rattle.jn_base.specs.declared.names.WorkId.{WorkId}
pub use Rattle.jn_fields.specs.Names.{tid_bytes, work_bytes, unit_bytes, WorkFits, work_at, unit_at, unit_has_page, UnitFits}
pub use Rattle.jn_records.specs.Records.{prepared_bytes, record_bytes, reads_have_page, has_page, PreparedFits, FlagFits, RecordFits, prepared, ascends}
unfoldable pub use Rattle.jn_records.specs.Records.{record_page, intention_record_at, work_head_at, prepared_at, flag_at, record_at}
pub use Rattle.jn_fields.proofs.NamesAgain.{UnitIsRead, tid_again, work_again, unit_again, length-unit}
pub use Rattle.jn_records.specs.declared.root.Root.{Root}
pub use Rattle.jn_records.specs.Pages.{root_bytes, IsRoot}
unfoldable pub use Rattle.jn_records.specs.Pages.{root_page, root_at}
