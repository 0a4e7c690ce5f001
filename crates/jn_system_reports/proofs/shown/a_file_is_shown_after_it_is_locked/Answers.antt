use Rattle.jn_system_reports.proofs.Common.{◌≡◌, Bool, true, false, [], ◌∷◌, Some, None, is_some, refl, if◌then◌else◌, ◌||◌, FileNo, File, file_eq, World, NextEvent, after, the_server, the_file, the_transaction, start, FileThere, UnitLocked, print_unit, IsPrinted, world_of, after_item, a_commit_is_named, carried_out, shown}
use Rattle.jn_system_reports.proofs.Showing.Examples.{memory_in, is-up, once_there, no_block}
use Rattle.jn_system_reports.proofs.shown.a_file_is_shown_after_it_is_locked.Goals as goal

abbrev named : World
named = after NextEvent (world_of a_commit_is_named start)

abbrev over : World
over = after NextEvent (after_item carried_out (after_item (shown (UnitLocked (File the_file) the_transaction ∷ [])) (world_of a_commit_is_named start)))

while_locked : (f : FileNo) (b : Bool) → (b || false) ≡ is_some (print_unit (File f) (if b || false then Some the_transaction else None) None)
while_locked f true = refl
while_locked f false = refl

first : IsPrinted the_server named (UnitLocked (File the_file) the_transaction ∷ [])
first = record {
  memory = memory_in (named.memory the_server);
  up = is-up (named.memory the_server) refl;
  prints_are = record {
    files = the_file ∷ [];
    blocks = λ f. [];
    are_files = record { each = λ f. while_locked f (file_eq the_file f); rising = refl };
    are_blocks = λ f h. record { each = λ p. refl; rising = refl };
    printed = refl;
  };
}

second : IsPrinted the_server over (FileThere the_file ∷ [])
second = record {
  memory = memory_in (over.memory the_server);
  up = is-up (over.memory the_server) refl;
  prints_are = record {
    files = the_file ∷ [];
    blocks = λ f. [];
    are_files = record { each = λ f. once_there f (file_eq the_file f); rising = refl };
    are_blocks = λ f h. record { each = λ p. no_block f p (file_eq the_file f); rising = refl };
    printed = refl;
  };
}

pub returns-clause-run : goal.returns-clause-run
returns-clause-run c = record {
  under = (refl, (refl, (refl, (refl, (refl, (refl, (refl, (refl, (refl, (refl, (refl, (refl, (refl, (refl, (refl, (refl, tt))))))))))))))));
  steps = (tt, (tt, (tt, (tt, (tt, (tt, (tt, (tt, (tt, (tt, (tt, (tt, (tt, (tt, (tt, (tt, (tt, (tt, (tt, (tt, (tt, (tt, (tt, (tt, (tt, (tt, (tt, (tt, (tt, (tt, (tt, (tt, (tt, tt)))))))))))))))))))))))))))))))));
  shows = (tt, (tt, (tt, (tt, (tt, (tt, (tt, (tt, (tt, (tt, (tt, (tt, (tt, (first, (tt, (second, tt))))))))))))))));
  faults = (tt, (tt, ((tt, tt), (tt, (tt, ((tt, tt), (tt, (tt, ((tt, tt), (tt, (tt, (tt, ((tt, tt), ((tt, tt), ((tt, tt), ((tt, tt), tt))))))))))))))));
}
