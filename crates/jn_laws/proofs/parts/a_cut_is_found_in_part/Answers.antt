use Rattle.jn_laws.proofs.Common.{◌≡◌, [], ◌∷◌, Option, Some, None, refl, ap, arith, tid_eq, work_eq, tid_tells, work_tells, work_before, StableState, Prepared, FlagState, at_work, at_tid, AreNames, tid_before}
use Rattle.jn_system.specs.WholeSystem.Example.{the_transaction, the_work}
use Rattle.jn_laws.specs.Parts.{at, a_part}
use Rattle.jn_laws.proofs.parts.a_cut_is_found_in_part.Goals as goal

its_work : (p q : Prepared) → AreNames work_eq work_before (at_work (at_work (λ V. None) the_work (Some p)) the_work (Some q)) (the_work ∷ [])
its_work p q = record { each = λ a. grind (arith, work_tells); rising = refl }

its_flag : (p : FlagState) → AreNames tid_eq tid_before (at_tid (λ V. None) the_transaction (Some p)) (the_transaction ∷ [])
its_flag p = record { each = λ a. grind (arith, tid_tells); rising = refl }

none-some : {A : Type 0} (x : A) → None ≡ Some x → ⊥
none-some x e = cc

some-none : {A : Type 0} (x : A) → Some x ≡ None → ⊥
some-none x e = cc

pub returns-clause-steps : goal.returns-clause-steps
returns-clause-steps c = (tt, (tt, (tt, (tt, (tt, (tt, (tt, (tt, (tt, (tt, (tt, (tt, (tt, (tt, (tt, (tt, (tt, (tt, (tt, ((its_work _ _, its_flag _), (tt, (tt, tt))))))))))))))))))))))

pub returns-clause-left : goal.returns-clause-left
returns-clause-left c = λ p. record { left = a_part p; is_after = refl }

pub returns-clause-part : goal.returns-clause-part
returns-clause-part c = refl

pub returns-clause-not_before : goal.returns-clause-not_before
returns-clause-not_before c = λ e. none-some _ (ap (λ (x : StableState). x.files (at 160)) e)

pub returns-clause-not_after : goal.returns-clause-not_after
returns-clause-not_after c = λ e. some-none _ (ap (λ (x : StableState). x.files (at 250)) e)

pub returns-clause-maps : goal.returns-clause-maps
returns-clause-maps c = (refl, refl)

pub returns-clause-end : goal.returns-clause-end
returns-clause-end c = λ p. refl

pub returns-clause-over : goal.returns-clause-over
returns-clause-over c = λ p. refl
