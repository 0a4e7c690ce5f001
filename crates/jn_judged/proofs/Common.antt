-- The names from below that these proofs cite, passed on from one place. Declares nothing.
pub use Rattle.std.proofs.Common.{List, [], ◌∷◌, ◌++◌, ap, not, ◌↔◌, refl, ◌≡◌, inl, inr, ℕ, zero, suc, ◌≤◌, false, ◌&&◌, Some, sym, ◌∙◌, arith, ◌⊎◌, true, if◌then◌else◌, length, subst, ◌+◌, ◌<◌, Bool, ◌||◌, append_assoc, append-nil, cond, take, drop, nat_lt, eqb-true, eq-eqb}
pub use Rattle.jn_schedule.specs.declared.Event.{Event}
pub use Rattle.jn_report.specs.declared.line.Line.{Line}
pub use Rattle.jn_serial.specs.Caused.{is_caused, CausedFrom, Caused}
pub use Rattle.jn_judged.specs.Rules.{breaks_causes, Rule, breaks_outcomes, breaks_following, outstanding_behind, outstanding_at, fits_event, fits_number, fits_when, failed_in, acknowledged_in, failed_of}
pub use Rattle.jn_order.specs.Files.{AllFiles, no_files, Files as OneFiles, answer_to, or_else, zeros}
pub use Rattle.jn_report.specs.declared.line.When.TheVariants.{Event as AtEvent, End}
pub use Rattle.jn_serial.specs.Example.{made_and_removed, told_twice, opened_and_down, lost_after, refused_line, begun_line, first_server, second_server, one_client, one_transaction, file_7}
pub use Rattle.jn_judged.specs.Example.{made_twice, answered_then, there_already, made_again, made_line, commit_line, committed_line, file_line, count_line}
pub use Rattle.jn_judged.specs.Faults.{BreaksOrder, BreaksShows, BreaksCauses, BreaksFollowing, IsFault, InLine, LeftOut, AtTheEnd, OfFile, IsFaultless, CountsCommits, LeavesOut, Shows, Breaks, BreaksOutcomes, lines_up_to, IsLeastFault, Keeps, KeepsAll, OfBlock, ByEvent}
pub use Rattle.std.specs.Prelude.{Option, None, nat_eq, is_some, map}
pub use Rattle.std.proofs.lemmas.Bool.{cases_Bool, true≢false, ltb-true, ltb-false}
pub use Rattle.jn_report.specs.declared.line.Text.{Text}
pub use Rattle.jn_serial.specs.Lines.{says as any_says, event_at, history_of, lines_at, when_eq, count_lines, has_tid}
pub use Rattle.jn_base.specs.declared.names.ServerNo.{ServerNo}
pub use Rattle.jn_base.specs.declared.names.LockUnit.TheVariants.{File, Block}
pub use Rattle.jn_base.specs.Names.{server_eq, file_eq, tid_eq}
pub use Rattle.jn_serial.specs.Order.{replay, Agrees, reply_told, names_listed, first_reply, replied, done_in, done_from, done_of, AgreesFrom, names_reply as names_told, call_reply, is_addressed}
pub use Rattle.jn_serial.specs.Shown.{accounts_file, IsAsIn, AllAsIn, ShowsFiles, Shown}
pub use Rattle.jn_serial.specs.Follows.{IsOfEvent, Follows, Outstanding, nothing_asked, after_event, after_one, after_answer, after_answers, fits, AllFit, own_in_place, AllOwnInPlace, AllOfEvents, FollowsEvent, FollowsFrom}
pub use Rattle.jn_base.specs.declared.names.FileNo.{FileNo}
pub use Rattle.jn_report.specs.declared.line.When.{When}
pub use Rattle.jn_judged.specs.FileRules.{breaks_order, breaks_shows, files_when, Answered, answered_by, done_by, answered_from, same_answer, same_byte_refusal, same_next, same_entries, same_name_refusal, same_name_next, same_reply, one_unless, differing, differing_in, answers_first, is_stored_as, prints_wrongly, is_show, has_printed, is_locked_at_end, miscounts}
pub use Rattle.std.proofs.lemmas.Bool.Decides.{nat_tests}
pub use Rattle.jn_report.specs.Kinds.{is_answer, is_own_refusal, answer_in, speaks_to, commit_in, is_no_show, is_locked}
pub use Rattle.jn_serial.proofs.Orders.{lines_at-append, has_tid-append}
pub use Rattle.jn_serial.specs.Told.{Told, IsNamedWhere, NamesBefore, NamesOnce, IsNotNamedWhere, NamesNone}
pub use Rattle.std.specs.List.{list_any}
pub use Rattle.jn_base.specs.declared.names.Tid.{Tid}
pub use Rattle.std.proofs.lemmas.Slice.Eq.{bytes_eq-Decides}
