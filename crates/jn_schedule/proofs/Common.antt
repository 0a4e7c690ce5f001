-- The names from below that these proofs cite, passed on from one place. Declares nothing.
pub use Rattle.std.proofs.Common.{codes, ◌≡◌, ℕ, ◌+◌, ◌-◌, inl, inr, Bool, true, false, cond, nat_eq, nat_le, List, [], ◌∷◌, length, map, Option, Some, None, Result, Ok, Err, MatchResult, MatchBool, refl, sym, ap, ◌∙◌, subst, arith, ◌≢◌, ◌<◌, ◌≤◌, ◌&&◌, ok_or, nat_lt, ◌++◌, MatchOption, zero, suc, ◌*◌, ◌/◌, ◌%◌, not, ◌||◌, eqb, get_or, ◌⊎◌, IfOk, append_assoc, ◌^◌, decimal, replicate, if◌then◌else◌, filter, take, drop, option_map}
pub use Rattle.std.proofs.lemmas.Bool.Decides.{nat_tests}
pub use Rattle.jn_base.specs.declared.device.FaultKind.{FaultKind}
pub use Rattle.jn_base.specs.declared.names.BlockNo.{BlockNo}
pub use Rattle.jn_base.specs.declared.names.ClientNo.{ClientNo}
pub use Rattle.jn_base.specs.declared.names.FileNo.{FileNo}
pub use Rattle.jn_base.specs.declared.names.ServerNo.{ServerNo}
pub use Rattle.jn_base.specs.declared.names.Tid.{Tid}
pub use Rattle.jn_base.specs.declared.op.Command.{Command}
pub use Rattle.jn_schedule.specs.declared.Event.{Event}
pub use Rattle.jn_schedule.specs.declared.fault.LineFault.{LineFault}
pub use Rattle.jn_schedule.specs.Grammar.{Part, Spells, SpellsClient, SpellsParts, begins_comment, block_part, command_parts, file_part, is_passed, kind_parts, page_part, parts_of, server_part, SpellsPart, IsByte, SpellsBlock, filled, AreLines, IsSchedule, word_lines, SpellsNumber, Keyword, Client, Number, Name, Bytes, has_bytes, lines_of, words_of, SpellsName, event_line, line_of_event}
pub use Rattle.jn_schedule.specs.Faults.{FirstUnfilled, HasFault, Place, PlacesFault, command_places, is_client_word, places_of, Fills, block_place, file_place, page_place, server_place, same, arm_places, places_by, IsFirstFault, LinesFault, line_fault_number, fault_at}
pub use Rattle.jn_schedule.specs.Reading.{◌>>=◌, block_if, kind_words, lookup, opening_words, verb_words, AddsLine, Fails, GivesUpTo, in_front, then_lines, lacks, lines_from, with_first, texts}
unfoldable pub use Rattle.jn_schedule.specs.Reading.{arm_of, by_client, client_event, client_of, command_of, event_of, fault_kind_of, has_count, kind_of, message_alone, no_client_event, nothing, one, opening_of, other_event, page_alone, server_alone, server_file, server_file_block, server_name, server_of, server_page, value_of, verb_of, write_of, written, block_no_of, bytes_of, file_of, name_of, page_of, block_in, read_line, read_lines, number_in, cut_at_stop, name_in, server_in}
pub use Rattle.std.proofs.lemmas.Option.{cond_some, some_pair_parts, option_and_then_some}
pub use Rattle.std.proofs.lemmas.Slice.Eq.{bytes_eq-Decides}
pub use Rattle.std.specs.List.{AllByRecursion, AllPass, list_any, slice_split}
pub use Rattle.hex.specs.declared.error.FromHexError.{FromHexError}
pub use Rattle.hex.specs.Hex.{decode_of, encode_lower, lower_digits, IsBytes, decode_sized, is_hex_digit}
unfoldable pub use Rattle.hex.specs.Hex.{encode_with}
pub use Rattle.hex.proofs.HexLemmas.{decode_of-ok, decode_of-encode_lower, length-encode_with, decode_sized-encode_lower, decode_sized-ok, decode_sized-twice}
pub use Rattle.jn_text.specs.Words.{hex_word}
pub use Rattle.std.proofs.lemmas.Bool.{eqb-true, false≢true}
pub use Rattle.std.proofs.lemmas.Result.{MatchResult-at_ok, err_from_is_err_and}
pub use Rattle.std.specs.Char.{is_ascii_uppercase, is_ascii_digit}
pub use Rattle.jn_text.specs.Read.{is_lower_hex_digit, IsNumberAt}
pub use Rattle.std.proofs.lemmas.List.{append-nil, length-append, get_or_past, length-replicate, drop-drop, length-drop, take_all, length-take-le}
pub use Rattle.std.proofs.lemmas.Fmt.{digits_value-decimal, decimal_by_steps}
pub use Rattle.std.proofs.lemmas.Grind.{common_steps}
