use Rattle.jn_system_reports.proofs.Common.{◌≡◌, false, Option, None, Some, sym, ◌∙◌, arith, WorkId, File, work_tells, Prepared, at_work, the_server, the_file, the_work}
use Rattle.jn_base.specs.declared.op.Answer.TheVariants.{Did, NoFile}
use Rattle.jn_system_reports.proofs.talk.wrong_rows_tell_otherwise.Goals as goal

apart : NoFile ≡ Did → ⊥
apart e = cc

none : {A : Type 0} → {a : A} → None ≡ Some a → ⊥
none e = cc

-- the work is put, goes on, and is removed
gone : (p q : Option Prepared) (W : WorkId) → at_work (at_work (at_work (λ V. None) the_work p) the_work q) the_work None W ≡ None
gone p q W = grind (arith, work_tells)

pub returns-clause-old_answer : goal.returns-clause-old_answer
returns-clause-old_answer c = λ h. apart h.0.1.0

pub returns-clause-lost : goal.returns-clause-lost
returns-clause-lost c = λ h. none (h.shown the_server (λ n. false) (File the_file) (λ W p e k. absurd (none (sym (gone _ _ W) ∙ e))))
