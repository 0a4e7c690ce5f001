use Rattle.jn_lock_rows.proofs.Common.{◌≡◌, true, sym, ◌∙◌, subst, arith, work_eq, Work, stored}
use Rattle.jn_lock_rows.proofs.Edits.{rephased_here, same_there}
use Rattle.jn_lock_rows.proofs.finding.store_work.Goals as goal

pub returns-then-eq : goal.returns-then-eq
returns-then-eq c = rephased_here c.args.name stored c.index-works-i-then-eq.result c.loop-i.works c.loop-i.i c.store_phase.new.phase (omega arith) (subst (λ (w : Work). work_eq w.name c.args.name ≡ true) (same_there c.loop-i.works c.loop-i.i c.index-works-i.result c.index-works-i-then-eq.result (omega arith)) (sym c.eq.ensures ∙ c.if-eq.true)) c.store_phase.ensures ∙ c.loop-i.invariant
