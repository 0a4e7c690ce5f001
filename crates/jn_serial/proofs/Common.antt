-- The names from below that these proofs cite, passed on from one place. Declares nothing.
pub use Rattle.std.proofs.Common.{◌≡◌, ◌≢◌, ◌⊎◌, inl, inr, ℕ, Bool, true, false, ◌&&◌, ◌||◌, if◌then◌else◌, List, [], ◌∷◌, ◌++◌, Some, refl, sym, ◌∙◌, ap, subst, arith, ◌+◌, ◌≤◌, nat_le, append_assoc, append-nil, zero, suc, ◌<◌, length, nat_lt, length-append, cond, filter, ◌↔◌, drop, get_or, not, fold, map}
pub use Rattle.std.specs.Prelude.{Option, None, nat_eq, option_map}
pub use Rattle.std.proofs.lemmas.Bool.{cases_Bool, true≢false}
pub use Rattle.std.proofs.lemmas.Bool.Decides.{nat_tests}
pub use Rattle.jn_base.specs.declared.names.ClientNo.{ClientNo}
pub use Rattle.jn_base.specs.declared.names.Tid.{Tid}
pub use Rattle.jn_base.specs.Names.{client_eq, tid_eq}
pub use Rattle.jn_base.proofs.Tells.{client_tells, tid_tells}
pub use Rattle.jn_report.specs.declared.line.When.{When}
pub use Rattle.jn_report.specs.declared.line.When.TheVariants.{Event as AtEvent, End}
pub use Rattle.jn_report.specs.declared.line.Text.{Text}
pub use Rattle.jn_report.specs.declared.line.Line.{Line}
pub use Rattle.jn_serial.specs.Lines.{is_before, lines_before, says, when_eq, lines_at, event_at, has_tid, count_lines, history_of}
pub use Rattle.jn_serial.specs.Begun.{begun_after, begun_then, last_begun, is_tid, is_in}
pub use Rattle.jn_schedule.specs.declared.Event.{Event}
pub use Rattle.jn_serial.specs.Follows.{Outstanding, FollowsEvent, FollowsFrom, after_one, Asked, nothing_asked, with_asked, answers_command, answers_order, fits, fits_asked, after_answer, after_answers, after_event, refuses_own, AllOwnInPlace, own_in_place, IsOfEvent, AllOfEvents, Follows, AllFit, is_command_of}
pub use Rattle.jn_base.specs.declared.op.Answer.{Answer}
pub use Rattle.jn_replay.specs.declared.files.Performed.{Performed}
pub use Rattle.jn_serial.specs.Order.{answer_told, first_answer_told, performed, operation_in, operations_from, operations_of, is_call, replay_operations, OperationsAgreeFrom, names_listed, first_reply, replied, done_in, done_from, done_of, replay, AgreesFrom, as_replied, Agrees, OperationsAgree}
pub use Rattle.jn_report.specs.Kinds.{answer_in, is_answer, is_own, is_own_refusal}
pub use Rattle.std.specs.List.{list_any}
pub use Rattle.jn_order.specs.Changes.{or_also}
pub use Rattle.jn_base.specs.declared.names.ServerNo.{ServerNo}
pub use Rattle.jn_base.specs.declared.op.Op.{Op}
pub use Rattle.jn_order.specs.Files.{AllFiles, all_files_after}
pub use Rattle.jn_replay.specs.Operations.{files_then, GivesAnswers}
pub use Rattle.jn_replay.specs.Stored.{AreSame, files_of}
pub use Rattle.jn_replay.proofs.Same.{drop_here, ↔-trans}
pub use Rattle.jn_serial.specs.Told.{NamesNone, NamesOnce, NamesBefore}
pub use Rattle.jn_order.proofs.FilesLemmas.{same_files}
pub use Rattle.jn_replay.specs.Replies.{call_fits, wish_fits, CallsFit, files_by_all, GivesReplies}
