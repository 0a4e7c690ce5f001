-- What runs report, computed: of one server and of two.
use Rattle.jn_wrong.proofs.Common.{◌≡◌, ℕ, Bool, true, false, List, [], ◌∷◌, None, refl, ServerNo, no_files, Counts, Event, Line, Setup, State, next_task, before, begins, begun_report, traced_report, two_begin, two_report, opens_other, opened_report, settles_twice, reads_and_aborts, read_report, shows_unmade, shown_report, begins_and_aborts, aborted_report, IsOnly}
use Rattle.jn_wrong.proofs.StillRuns.{goes}
use Rattle.jn_locks.specs.Locks as locks
use Rattle.jn_wrong.proofs.Exact.{new_epochs, setup_of, IsRunOf, only}
use Rattle.jn_wrong.proofs.Computed.{Pieces, total, pieces-so}

module _ (n : ℕ) (trace : Bool) (schedule : List Event) (pieces : List ℕ) (report : List Line) (counts : ServerNo → Counts) (epochs : ServerNo → ℕ) where
  abbrev the_setup : Setup
  the_setup = setup_of n trace counts

  abbrev the_start : State
  the_start = before (setup_of n trace counts) schedule no_files (new_epochs n epochs)

  is-run : Pieces the_setup pieces the_start → next_task (goes the_setup (total pieces) the_start) ≡ None → (goes the_setup (total pieces) the_start).lines ≡ report → IsRunOf n trace schedule (total pieces) report counts epochs
  is-run h e k = record { so = pieces-so the_setup pieces the_start h; end = e; tells = k }

-- ---- one server

pub begun-only : IsOnly 1 false begins begun_report
begun-only = only 1 false begins 36 begun_report (λ counts epochs. is-run 1 false begins (0 ∷ 19 ∷ 12 ∷ 1 ∷ []) begun_report counts epochs (
  refl,
  record { epoch = 0; below = refl; found = λ c. refl; not_last = refl },
  (
    refl,
    record { epoch = 1; below = refl; found = λ c. refl; not_last = refl },
    (
      refl,
      record { memory = _; below = refl; up = refl; nothing = λ f. refl },
      (
        refl,
        refl,
        tt,
      ),
    ),
  ),
) refl refl)

pub traced-only : IsOnly 1 true begins traced_report
traced-only = only 1 true begins 36 traced_report (λ counts epochs. is-run 1 true begins (0 ∷ 19 ∷ 12 ∷ 1 ∷ []) traced_report counts epochs (
  refl,
  record { epoch = 0; below = refl; found = λ c. refl; not_last = refl },
  (
    refl,
    record { epoch = 1; below = refl; found = λ c. refl; not_last = refl },
    (
      refl,
      record { memory = _; below = refl; up = refl; nothing = λ f. refl },
      (
        refl,
        refl,
        tt,
      ),
    ),
  ),
) refl refl)

pub settled-only : IsOnly 1 false settles_twice begun_report
settled-only = only 1 false settles_twice 49 begun_report (λ counts epochs. is-run 1 false settles_twice (0 ∷ 32 ∷ 12 ∷ 1 ∷ []) begun_report counts epochs (
  refl,
  record { epoch = 0; below = refl; found = λ c. refl; not_last = refl },
  (
    refl,
    record { epoch = 1; below = refl; found = λ c. refl; not_last = refl },
    (
      refl,
      record { memory = _; below = refl; up = refl; nothing = λ f. refl },
      (
        refl,
        refl,
        tt,
      ),
    ),
  ),
) refl refl)

pub two-only : IsOnly 1 false two_begin two_report
two-only = only 1 false two_begin 71 two_report (λ counts epochs. is-run 1 false two_begin (0 ∷ 54 ∷ 12 ∷ 1 ∷ []) two_report counts epochs (
  refl,
  record { epoch = 0; below = refl; found = λ c. refl; not_last = refl },
  (
    refl,
    record { epoch = 1; below = refl; found = λ c. refl; not_last = refl },
    (
      refl,
      record { memory = _; below = refl; up = refl; nothing = λ f. refl },
      (
        refl,
        refl,
        tt,
      ),
    ),
  ),
) refl refl)

pub aborted-only : IsOnly 1 true begins_and_aborts aborted_report
aborted-only = only 1 true begins_and_aborts 54 aborted_report (λ counts epochs. is-run 1 true begins_and_aborts (0 ∷ 37 ∷ 12 ∷ 1 ∷ []) aborted_report counts epochs (
  refl,
  record { epoch = 0; below = refl; found = λ c. refl; not_last = refl },
  (
    refl,
    record { epoch = 1; below = refl; found = λ c. refl; not_last = refl },
    (
      refl,
      record { memory = _; below = refl; up = refl; nothing = λ f. refl },
      (
        refl,
        refl,
        tt,
      ),
    ),
  ),
) refl refl)

pub read-only : IsOnly 1 false reads_and_aborts read_report
unfolding locks.unit_before
read-only = only 1 false reads_and_aborts 109 read_report (λ counts epochs. is-run 1 false reads_and_aborts (0 ∷ 92 ∷ 12 ∷ 1 ∷ []) read_report counts epochs (
  refl,
  record { epoch = 0; below = refl; found = λ c. refl; not_last = refl },
  (
    refl,
    record { epoch = 1; below = refl; found = λ c. refl; not_last = refl },
    (
      refl,
      record { memory = _; below = refl; up = refl; nothing = λ f. refl },
      (
        refl,
        refl,
        tt,
      ),
    ),
  ),
) refl refl)

pub shown-only : IsOnly 1 false shows_unmade shown_report
unfolding locks.unit_before
shown-only = only 1 false shows_unmade 74 shown_report (λ counts epochs. is-run 1 false shows_unmade (0 ∷ 54 ∷ 2 ∷ 12 ∷ 1 ∷ []) shown_report counts epochs (
  refl,
  record { epoch = 0; below = refl; found = λ c. refl; not_last = refl },
  (
    refl,
    record { memory = _; below = refl; up = refl; nothing = λ f. refl },
    (
      refl,
      record { epoch = 1; below = refl; found = λ c. refl; not_last = refl },
      (
        refl,
        record { memory = _; below = refl; up = refl; nothing = λ f. refl },
        (
          refl,
          refl,
          tt,
        ),
      ),
    ),
  ),
) refl refl)

-- ---- two servers

pub opened-only : IsOnly 2 false opens_other opened_report
opened-only = only 2 false opens_other 63 opened_report (λ counts epochs. is-run 2 false opens_other (0 ∷ 0 ∷ 40 ∷ 0 ∷ 14 ∷ 0 ∷ 2 ∷ []) opened_report counts epochs (
  refl,
  record { epoch = 0; below = refl; found = λ c. refl; not_last = refl },
  (
    refl,
    record { epoch = 0; below = refl; found = λ c. refl; not_last = refl },
    (
      refl,
      record { epoch = 1; below = refl; found = λ c. refl; not_last = refl },
      (
        refl,
        record { epoch = 1; below = refl; found = λ c. refl; not_last = refl },
        (
          refl,
          record { memory = _; below = refl; up = refl; nothing = λ f. refl },
          (
            refl,
            record { memory = _; below = refl; up = refl; nothing = λ f. refl },
            (
              refl,
              refl,
              tt,
            ),
          ),
        ),
      ),
    ),
  ),
) refl refl)
