-- The names from below that these proofs cite, passed on from one place. Declares nothing.
pub use Rattle.std.proofs.Common.{◌≡◌, inl, inr, ℕ, ◌+◌, ◌≤◌, Bool, true, List, length, Some, None, refl, ◌∙◌, ap, subst, false, not, nat_le, ◌&&◌, ◌++◌, append-nil, sym, Option, filter, arith, ◌⊎◌, zero, suc, ◌<◌, nat_eq}
pub use Rattle.std.specs.Prelude.{[], ◌∷◌, if◌then◌else◌, ◌||◌, option_map, is_some}
pub use Rattle.std.proofs.lemmas.Bool.{cases_Bool}
pub use Rattle.jn_schedule.specs.declared.Event.{Event}
pub use Rattle.jn_report.specs.declared.line.When.TheVariants.{Event as AtEvent, End}
pub use Rattle.jn_report.specs.declared.line.Text.{Text}
pub use Rattle.jn_report.specs.declared.line.Line.{Line}
pub use Rattle.jn_serial.specs.Lines.{when_eq, lines_at, count_lines, is_before, says as says_it, lines_before, history_of, event_at}
pub use Rattle.jn_serial.specs.Follows.{Outstanding, nothing_asked, with_asked, fits, after_answer, AllFit, after_answers, refuses_own, after_event, own_in_place, AllOwnInPlace, FollowsEvent, after_one, FollowsFrom, IsOfEvent, AllOfEvents, Follows, is_last, fits_asked}
pub use Rattle.jn_report.specs.Kinds.{answer_in, is_own_refusal, is_answer, begins, goes_down, breaks, refuses_event, stops, refuses_fault, commit_in, is_no_show, is_locked, speaks_to}
pub use Rattle.jn_aside.specs.Aside.{is_aside, plain, is_show}
pub use Rattle.jn_base.specs.declared.names.ServerNo.{ServerNo}
pub use Rattle.jn_base.specs.declared.names.ClientNo.{ClientNo}
pub use Rattle.jn_base.specs.declared.names.Tid.{Tid}
pub use Rattle.jn_base.specs.Names.{server_eq, client_eq, is_stop}
pub use Rattle.jn_report.specs.declared.line.When.{When}
pub use Rattle.jn_serial.specs.Begun.{is_in, begun_after, begun_then, is_tid}
pub use Rattle.jn_order.specs.Files.{AllFiles}
pub use Rattle.jn_serial.specs.Order.{answer_told, first_answer_told, performed, operation_in, operations_from, operations_of, reply_told, names_listed, first_reply, replied, done_in, done_from, done_of, replay, AgreesFrom, Agrees, replay_operations, is_addressed, call_reply}
pub use Rattle.jn_order.specs.Changes.{or_also}
pub use Rattle.jn_serial.specs.Shown.{IsAsIn, AllAsIn, prints_file, accounts_file, accounts_block, ShowsFiles, ShownSoFar, ShownAtEnd}
pub use Rattle.jn_names.specs.declared.entry.Entry.{Entry}
pub use Rattle.jn_calls.specs.declared.reply.Wish.{Wish}
pub use Rattle.jn_replay.specs.Replies.{call_fits}
pub use Rattle.jn_serial.proofs.WithCalls.{DoneTheSame, replay-by_done, AgreesFrom-by_done}
