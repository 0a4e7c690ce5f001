use Rattle.jn_headline.proofs.Common.{◌≡◌, ◌≤◌, ℕ, zero, suc, [], ◌∷◌, Some, None, refl, arith, tid_eq, work_eq, file_eq, work_tells, tid_tells, Prepared, FlagState, at_work, at_tid, World, AreNames, tid_before, FileThere, IsPrinted, world_of, IsReported, steps_at_end, world_at_end, IsEnding, course_at_end, settled}
use Rattle.jn_locks.specs.Locks.{work_before}
use Rattle.jn_system.specs.WholeSystem.Example.{the_server, the_file, the_transaction, the_work, much, start}
use Rattle.jn_system_reports.specs.Showing.Example.{a_commit_is_named}
use Rattle.jn_headline.specs.WholeReports.Example.{an_end_that_settles}
use Rattle.jn_system.specs.WholeSystem.Settle.{Chance}
use Rattle.jn_system_reports.proofs.Showing.Examples.{memory_in, is-up, once_there, no_block}
use Rattle.jn_headline.proofs.whole_reports.an_end_settles.Goals as goal

abbrev over : World
over = world_at_end 1 an_end_that_settles (world_of a_commit_is_named start)

printed : IsPrinted the_server over (FileThere the_file ∷ [])
printed = record {
  memory = memory_in (over.memory the_server);
  up = is-up (over.memory the_server) refl;
  prints_are = record {
    files = the_file ∷ [];
    blocks = λ f. [];
    are_files = record { each = λ f. once_there f (file_eq the_file f); rising = refl };
    are_blocks = λ f h. record { each = λ p. no_block f p (file_eq the_file f); rising = refl };
    printed = refl;
  };
}

one_work : (p : Prepared) → AreNames work_eq work_before (at_work (λ V. None) the_work (Some p)) (the_work ∷ [])
one_work p = record { each = λ a. grind (arith, work_tells); rising = refl }

one_flag : (p : FlagState) → AreNames tid_eq tid_before (at_tid (λ V. None) the_transaction (Some p)) (the_transaction ∷ [])
one_flag p = record { each = λ a. grind (arith, tid_tells); rising = refl }

reported : IsReported a_commit_is_named start
reported = record {
  under = (refl, (refl, (refl, (refl, (refl, (refl, (refl, (refl, (refl, (refl, (refl, (refl, (refl, tt)))))))))))));
  steps = (tt, (tt, (tt, (tt, (tt, (tt, (tt, (tt, (tt, (tt, (tt, (tt, (tt, (tt, (tt, (tt, (tt, (tt, (tt, (tt, (tt, (tt, (tt, (tt, (tt, (tt, tt))))))))))))))))))))))))));
  shows = (tt, (tt, (tt, (tt, (tt, (tt, (tt, (tt, (tt, (tt, (tt, (tt, (tt, tt)))))))))))));
  faults = (tt, (tt, ((tt, tt), (tt, (tt, ((tt, tt), (tt, (tt, ((tt, tt), (tt, (tt, (tt, ((tt, tt), tt)))))))))))));
}

ending : IsEnding 1 an_end_that_settles (world_of a_commit_is_named start)
ending = record {
  steps = (tt, (tt, ((one_work _, one_flag _), (λ d. (refl, refl), (tt, (tt, (tt, (tt, (tt, (tt, (tt, (tt, (tt, (tt, (tt, (tt, (tt, (tt, (tt, tt)))))))))))))))))));
  all_up = refl;
  settling = refl;
  all_print = refl;
  prints = (printed, tt);
}

pub returns-clause-run : goal.returns-clause-run
returns-clause-run c = record { reported = reported; ending = ending }

abbrev chances : ℕ → Chance
chances n = record { room = much; stop = None }

each : (n : ℕ) → 6 ≤ n → (settled 1 (record { first = chances; second = chances; steps = n }) (course_at_end 1 an_end_that_settles (world_of a_commit_is_named start))).steps ≡ steps_at_end 1 an_end_that_settles
each zero l = absurd (omega (arith, l))
each (suc zero) l = absurd (omega (arith, l))
each (suc (suc zero)) l = absurd (omega (arith, l))
each (suc (suc (suc zero))) l = absurd (omega (arith, l))
each (suc (suc (suc (suc zero)))) l = absurd (omega (arith, l))
each (suc (suc (suc (suc (suc zero))))) l = absurd (omega (arith, l))
each (suc (suc (suc (suc (suc (suc zero)))))) l = refl
each (suc (suc (suc (suc (suc (suc (suc n))))))) l = refl

pub returns-clause-settles : goal.returns-clause-settles
returns-clause-settles c = record { first = chances; second = chances; enough = 6; each = each }
