-- The names from below that these proofs cite, passed on from one place. Declares nothing.
pub use Rattle.std.proofs.Common.{◌≡◌, ◌≤◌, ◌+◌, ◌*◌, ℕ, Bool, true, false, List, [], ◌++◌, length, take, drop, None, refl, sym, ap, ap₂, subst, ◌∙◌, append_assoc, arith, length-append, length-drop, ◌⊎◌, inl, inr, ⊎_elim, ◌<◌, zero, suc, Result, Ok, Err, ◌∷◌, get_or, map, Option, Some, ◌/◌, ◌%◌, ◌-◌, cond, replicate, ◌^◌, ◌≢◌, true≢false, vec_len, rules}
pub use Rattle.std.specs.Prelude.{◌&&◌, nat_le, codes, bytes_eq, IfOk, IfErr, nat_eq, slice_index, flat_map, if◌then◌else◌, is_some, not, nat_lt, IsTrue, ◌↔◌, slice_set, MatchResult, MatchOption}
pub use Rattle.std.proofs.Math.Seq.{take-add, drop-cons}
pub use Rattle.std.proofs.lemmas.Bool.{false≢true, and_parts, cases_lt}
pub use Rattle.std.proofs.lemmas.Bool.Decides.{nat_tests}
pub use Rattle.std.proofs.lemmas.List.{append-nil, take_at, drop_at, length-take-le, get_or_past, get_or-drop, get_or-append-add, length-replicate, length-set, get_or-set_same, get_or-set_other, take_rest, take_all}
pub use Rattle.sha2.specs.Sha256.{sha256}
pub use Rattle.jn_device.specs.declared.Half.{Half}
pub use Rattle.jn_records.specs.StablePages.{Counts, page_count, is_used, file_in, root_by, slot_place, head_place, data_place, address_in, map_in, entry_in, NamesMap, HasEntries}
pub use Rattle.jn_image.specs.declared.image.Image.{Image}
pub use Rattle.jn_image.specs.Faults.{version_in, server_in, counts_in, in_range, within, statuses_fit, has_digest, bad_behind_header, TellsImage}
unfoldable pub use Rattle.jn_image.specs.Faults.{bad_of}
pub use Rattle.jn_image.specs.Form.{image_counts, header_bytes, body_bytes, body_size, image_size, HasForm, IsWithin, PagesFit, half_bytes}
unfoldable pub use Rattle.jn_image.specs.Form.{image_bytes}
pub use Rattle.jn_image.specs.Reading.{halves_in, half_in}
unfoldable pub use Rattle.jn_image.specs.Reading.{image_in}
pub use Rattle.jn_records.specs.Pages.{IsVersion, format_version, IsRoot, padded, root_bytes}
unfoldable pub use Rattle.jn_records.specs.Pages.{root_page}
pub use Rattle.jn_base.specs.declared.names.ServerNo.{ServerNo}
pub use Rattle.jn_records.specs.Sound.{HasRoot, HasOneHead, IsSound, PagesGood, PairsAgree, SlotsFree, HeadsWhole, MapsWhole, AddressesOnce, TailsZeros, IsWholeHead, head_bytes_of, Spot, InHead, AsMap, InMap, IsWrittenAt}
pub use Rattle.jn_image.specs.declared.fault.Unsound.{Unsound}
pub use Rattle.jn_image.specs.Repeats.{IsLeastFailing, Finds, StandsOnce, StandsOnceBelow, AreNoted, lesser}
pub use Rattle.jn_image.specs.Unsound.{ToRoot, ToPages, ToPairs, ToPool, ToFiles, ToHeads, ToMaps, ToAddresses, IsFirstFault, TellsSound, seen}
pub use Rattle.std.specs.List.{AllByRecursion, list_all}
pub use Rattle.jn_records.specs.declared.head.Head.{Head}
pub use Rattle.jn_image.specs.Rules.{IsHeadAt, AreHeads, IsRead, head_file_number, at_epoch, RuleHolds}
pub use Rattle.jn_records.specs.declared.head.Head.TheVariants.{Free, Used, Free as FreeHead}
pub use Rattle.std.proofs.Math.ListN.{get_or-map, get_or-append}
pub use Rattle.jn_records.proofs.HeadPages.{free_unused, used_kind, used_file, used_address, used_map, whole, whole_maps, map_entry, one_list}
pub use Rattle.byteorder.specs.Endian.{big_bytes, big_number}
pub use Rattle.jn_image.specs.declared.fault.BadImage.{BadImage}
pub use Rattle.jn_records.specs.declared.root.Root.{Root}
pub use Rattle.jn_base.specs.Limits.{head_blocks, most_maps}
pub use Rattle.jn_image.specs.Laws.{SoundImagesFit, BytesTellTheImage, SoundImagesHaveSoundPages}
pub use Rattle.jn_records.specs.Heads.{addresses_bytes, head_bytes, has_page, all_within, IsMapPage}
unfoldable pub use Rattle.jn_records.specs.Heads.{head_page}
pub use Rattle.jn_image.specs.Written.{noted_all, no_times, maps_noted, all_maps_noted, head_noted, heads_noted, AreEntries, page_noted, pages_noted, all_noted, IsMapWhereNamed, IsNotTwice, noted}
pub use Rattle.std.proofs.lemmas.Result.{IfOk-weaker, on_ok_weaker}
