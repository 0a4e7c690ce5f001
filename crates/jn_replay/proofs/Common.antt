-- The names from below that these proofs cite, passed on from one place. Declares nothing.
pub use Rattle.std.proofs.Common.{◌≡◌, ℕ, ◌+◌, ◌≤◌, nat_lt, Bool, true, false, not, ◌&&◌, if◌then◌else◌, List, [], ◌∷◌, ◌++◌, length, filter, set, Option, Some, None, refl, sym, ap, ◌∙◌, subst, inl, inr, arith, length-append, eqb-true, ◌<◌, drop, get_or, zero, suc, ◌↔◌, add-one, drop-cons, map, position, take, rules}
pub use Rattle.std.specs.Prelude.{option_map, option_and_then, Result, Ok, Err, IsErr, MatchResult, is_some}
pub use Rattle.std.proofs.lemmas.Bool.{cases_Bool, cond-false, and_left, false≢true}
pub use Rattle.std.proofs.lemmas.Bool.Decides.{nat_tests}
pub use Rattle.jn_base.specs.declared.names.ServerNo.{ServerNo}
pub use Rattle.jn_base.specs.declared.names.FileNo.{FileNo}
pub use Rattle.jn_base.specs.declared.names.BlockNo.{BlockNo}
pub use Rattle.jn_base.specs.declared.names.LockUnit.{LockUnit}
pub use Rattle.jn_base.specs.declared.names.LockUnit.TheVariants.{File, Block}
pub use Rattle.jn_base.specs.declared.op.Answer.{Answer}
pub use Rattle.jn_base.specs.Names.{server_eq, file_eq, block_eq}
pub use Rattle.jn_order.specs.Files.{there, or_else, change, effect, answer_to, is_did, all_files_after, AllFiles, Files, files_after}
unfoldable pub use Rattle.jn_order.specs.Files.{zeros}
pub use Rattle.jn_order.proofs.FilesLemmas.{server_eq-true, server_eq-refl, all_files_after-here, all_files_after-elsewhere, files_after-did, files_after-not_did, same_files}
pub use Rattle.jn_replay.specs.declared.files.StoredBlock.{StoredBlock}
pub use Rattle.jn_replay.specs.declared.files.StoredFile.{StoredFile}
pub use Rattle.jn_replay.specs.Stored.{stored_file, stored_block, registers, AreSame, block_count, files_of}
pub use Rattle.jn_replay.specs.Edits.{is_file, Does, Keeps, is_block}
pub use Rattle.jn_base.specs.declared.op.Op.{Op}
pub use Rattle.jn_calls.specs.Turns.{Turn, Asks, Over, first_op, begun, turn, given, GoesOn, left, left_from}
pub use Rattle.jn_replay.specs.Replies.{all_files_by, files_by_all, GivesReplies, call_fits, wish_fits, CallsFit}
pub use Rattle.jn_replay.specs.Operations.{files_then, GivesAnswers}
pub use Rattle.std.proofs.lemmas.Fn.{filter_same}
