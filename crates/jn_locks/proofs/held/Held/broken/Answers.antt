use Rattle.jn_locks.proofs.Common.{List, sym, subst, ap, ◌∙◌, arith, Want, Broken, wanted, AreBroken, at, table_of, all_broken, makes_way, collisions}
use Rattle.jn_locks.proofs.Steps.{drop_past}
use Rattle.jn_locks.proofs.Breaks.{broken_step, are_broken}
use Rattle.jn_locks.proofs.held.Held.broken.Goals as goal

pub loop-want-preserved : goal.loop-want-preserved
loop-want-preserved c = broken_step c.args.self.now c.args.work _ _ c.args.wants.now c.loop-want.want-index _ (omega arith) c.in_ok-add_broken_at.ensures ∙ c.loop-want.invariant

pub returns : goal.returns
returns c = subst (λ (bs : List Broken). AreBroken (table_of c.args.self.now) c.args.work (wanted c.args.wants.now) bs)
    (sym (sym (ap (λ (ws : List Want). all_broken (makes_way (table_of c.args.self.now)) c.loop-want.broken.items (collisions (at c.args.self.now.units) c.args.work ws)) (drop_past c.loop-want.want-index c.args.wants.now (omega arith)))
    ∙ c.loop-want.invariant))
    (are_broken c.args.self.now c.args.work c.args.wants.now)
