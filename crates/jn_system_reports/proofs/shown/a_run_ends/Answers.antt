use Rattle.jn_system_reports.proofs.Common.{[], ◌∷◌, Some, None, refl, arith, tid_eq, work_eq, file_eq, work_tells, tid_tells, work_before, Prepared, FlagState, at_work, at_tid, World, AreNames, tid_before, the_server, the_file, the_transaction, the_work, start, FileThere, IsPrinted, world_of, IsReported, world_at_end, IsEnding, a_commit_is_named, an_end}
use Rattle.jn_system_reports.proofs.Showing.Examples.{memory_in, is-up, once_there, no_block}
use Rattle.jn_system_reports.proofs.shown.a_run_ends.Goals as goal

abbrev over : World
over = world_at_end 1 an_end (world_of a_commit_is_named start)

printed : IsPrinted the_server over (FileThere the_file ∷ [])
printed = record {
  memory = memory_in (over.memory the_server);
  up = is-up (over.memory the_server) refl;
  prints_are = record {
    files = the_file ∷ [];
    blocks = λ f. [];
    are_files = record { each = λ f. once_there f (file_eq the_file f); rising = refl };
    are_blocks = λ f h. record { each = λ p. no_block f p (file_eq the_file f); rising = refl };
    printed = refl;
  };
}

one_work : (p : Prepared) → AreNames work_eq work_before (at_work (λ V. None) the_work (Some p)) (the_work ∷ [])
one_work p = record { each = λ a. grind (arith, work_tells); rising = refl }

one_flag : (p : FlagState) → AreNames tid_eq tid_before (at_tid (λ V. None) the_transaction (Some p)) (the_transaction ∷ [])
one_flag p = record { each = λ a. grind (arith, tid_tells); rising = refl }

reported : IsReported a_commit_is_named start
reported = record {
  under = (refl, (refl, (refl, (refl, (refl, (refl, (refl, (refl, (refl, (refl, (refl, (refl, (refl, tt)))))))))))));
  steps = (tt, (tt, (tt, (tt, (tt, (tt, (tt, (tt, (tt, (tt, (tt, (tt, (tt, (tt, (tt, (tt, (tt, (tt, (tt, (tt, (tt, (tt, (tt, (tt, (tt, (tt, tt))))))))))))))))))))))))));
  shows = (tt, (tt, (tt, (tt, (tt, (tt, (tt, (tt, (tt, (tt, (tt, (tt, (tt, tt)))))))))))));
  faults = (tt, (tt, ((tt, tt), (tt, (tt, ((tt, tt), (tt, (tt, ((tt, tt), (tt, (tt, (tt, ((tt, tt), tt)))))))))))));
}

ending : IsEnding 1 an_end (world_of a_commit_is_named start)
ending = record {
  steps = (tt, (tt, ((one_work _, one_flag _), (λ d. (refl, refl), (tt, (tt, (tt, (tt, (tt, tt)))))))));
  all_up = refl;
  settling = refl;
  all_print = refl;
  prints = (printed, tt);
}

pub returns-clause-run : goal.returns-clause-run
returns-clause-run c = record { reported = reported; ending = ending }
