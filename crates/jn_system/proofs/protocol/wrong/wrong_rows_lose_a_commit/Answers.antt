use Rattle.jn_system.proofs.Common.{◌≡◌, Some, None, refl, arith, File, WorkId, work_tells, Prepared, at_work, run}
use Rattle.jn_system.specs.WholeSystem.WrongRuns.{worker, work, file, start, named_before_the_flag, ready_work_dropped, kept_without_a_record, committed_work_dropped, prepared_work_broken, old_begin_thanks, forgotten_too_soon}
use Rattle.jn_system.proofs.WholeSystem.LostCommits.{is-lost}
use Rattle.jn_system.proofs.protocol.wrong.wrong_rows_lose_a_commit.Goals as goal

gone : (p : Prepared) (W : WorkId) → at_work (at_work (λ V. None) (work 1) (Some p)) (work 1) None W ≡ None
gone p W = grind (arith, work_tells (work 1) W)

gone-on : (p q : Prepared) (W : WorkId) → at_work (at_work (at_work (λ V. None) (work 1) (Some p)) (work 1) (Some q)) (work 1) None W ≡ None
gone-on p q W = grind (arith, work_tells (work 1) W)

pub returns-clause-named_before_the_flag : goal.returns-clause-named_before_the_flag
returns-clause-named_before_the_flag c = is-lost (run named_before_the_flag start) worker (File (file 7)) _ (gone _) refl refl

pub returns-clause-ready_work_dropped : goal.returns-clause-ready_work_dropped
returns-clause-ready_work_dropped c = is-lost (run ready_work_dropped start) worker (File (file 7)) _ (gone _) refl refl

pub returns-clause-kept_without_a_record : goal.returns-clause-kept_without_a_record
returns-clause-kept_without_a_record c = is-lost (run kept_without_a_record start) worker (File (file 7)) _ (λ W. refl) refl refl

pub returns-clause-committed_work_dropped : goal.returns-clause-committed_work_dropped
returns-clause-committed_work_dropped c = is-lost (run committed_work_dropped start) worker (File (file 7)) _ (gone _) refl refl

pub returns-clause-prepared_work_broken : goal.returns-clause-prepared_work_broken
returns-clause-prepared_work_broken c = is-lost (run prepared_work_broken start) worker (File (file 7)) _ (gone _) refl refl

pub returns-clause-old_begin_thanks : goal.returns-clause-old_begin_thanks
returns-clause-old_begin_thanks c = is-lost (run old_begin_thanks start) worker (File (file 7)) _ (gone _) refl refl

pub returns-clause-forgotten_too_soon : goal.returns-clause-forgotten_too_soon
returns-clause-forgotten_too_soon c = is-lost (run forgotten_too_soon start) worker (File (file 7)) _ (gone-on _ _) refl refl
