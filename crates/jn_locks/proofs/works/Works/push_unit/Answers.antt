use Rattle.jn_locks.proofs.Common.{rules, arith, List, ◌∷◌, [], ◌++◌, sym, ap, ◌∙◌, LockUnit, standing_in, units_in}
use Rattle.jn_locks.proofs.Maps.{work_at, work_after, work_kept}
use Rattle.jn_locks.proofs.works.Works.push_unit.Goals as goal

pub returns-in-Some-clause-units : goal.returns-in-Some-clause-units
returns-in-Some-clause-units c =
    let here = work_at c.args.self.now.map c.args.work _ c.name_of.ensures _ c.in-Some.ensures.value in
    work_after c.args.self.now.map c.args.work _ c.name_of.ensures units_in (c.get_mut.follows.lender _) _ ((c.get_mut.follows.holds _).3 (search rules)) _ (c.push_reserved.ensures.items ∙ ap (λ (us : List LockUnit). us ++ c.args.unit ∷ []) (ap units_in (sym here)))

pub returns-in-Some-clause-standing : goal.returns-in-Some-clause-standing
returns-in-Some-clause-standing c =
    let here = work_at c.args.self.now.map c.args.work _ c.name_of.ensures _ c.in-Some.ensures.value in
    work_kept c.args.self.now.map c.args.work _ c.name_of.ensures standing_in (c.get_mut.follows.lender _) _ ((c.get_mut.follows.holds _).3 (search rules)) (ap standing_in (sym here))

pub push_reserved-requires : goal.push_reserved-requires
push_reserved-requires c =
    let here = work_at c.args.self.now.map c.args.work _ c.name_of.ensures _ c.in-Some.ensures.value in
    omega (arith, rw here at c.requires)
