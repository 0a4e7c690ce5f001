use Rattle.jn_locks.proofs.Common.{rules, List, Option, Some, sym, ap, ◌∙◌, LockUnit, Standing, or_active, standing_in, units_in}
use Rattle.jn_locks.proofs.Maps.{work_at, work_after, work_kept, on_err}
use Rattle.jn_locks.proofs.works.Works.enter.Goals as goal

pub returns-in_err-reserve-clause-units : goal.returns-in_err-reserve-clause-units
returns-in_err-reserve-clause-units c =
    let here = work_at c.args.self.now.map c.args.work _ c.name_of-name.ensures _ c.in-Some.ensures.value in
    work_kept c.args.self.now.map c.args.work _ c.name_of-name.ensures units_in (c.get_mut.follows.lender _) _ ((c.get_mut.follows.holds _).3 (search rules)) (ap (λ (us : List LockUnit). us) c.reserve.ensures.items ∙ ap units_in (sym here))

pub returns-in-Some-clause-standing : goal.returns-in-Some-clause-standing
returns-in-Some-clause-standing c =
    let here = work_at c.args.self.now.map c.args.work _ c.name_of-name.ensures _ c.in-Some.ensures.value in
    work_after c.args.self.now.map c.args.work _ c.name_of-name.ensures standing_in (c.get_mut.follows.lender _) _ ((c.get_mut.follows.holds _).3 (search rules)) _ (ap (λ (o : Option Standing). Some (or_active o)) (ap standing_in (sym here)))

pub returns-in-Some-clause-units : goal.returns-in-Some-clause-units
returns-in-Some-clause-units c =
    let here = work_at c.args.self.now.map c.args.work _ c.name_of-name.ensures _ c.in-Some.ensures.value in
    work_kept c.args.self.now.map c.args.work _ c.name_of-name.ensures units_in (c.get_mut.follows.lender _) _ ((c.get_mut.follows.holds _).3 (search rules)) (c.reserve.ensures.items ∙ ap units_in (sym here))

pub returns-clause-standing : goal.returns-clause-standing
returns-clause-standing c =
    let here = work_at c.args.self.now.map c.args.work _ c.name_of-name.ensures _ c.in_default.ensures.value in
    work_after c.args.self.now.map c.args.work _ c.name_of-name.ensures standing_in (c.insert.new.self) _ (rw c.get_mut.follows.holds-at-none at c.in_ok-insert.ensures.updates) _ (ap (λ (o : Option Standing). Some (or_active o)) (ap standing_in (sym here)))

pub returns-clause-units : goal.returns-clause-units
returns-clause-units c =
    let here = work_at c.args.self.now.map c.args.work _ c.name_of-name.ensures _ c.in_default.ensures.value in
    work_kept c.args.self.now.map c.args.work _ c.name_of-name.ensures units_in (c.insert.new.self) _ (rw c.get_mut.follows.holds-at-none at c.in_ok-insert.ensures.updates) (c.in_ok-units.ensures.items ∙ ap units_in (sym here))

pub returns-in_err-reserve-clause-unchanged : goal.returns-in_err-reserve-clause-unchanged
returns-in_err-reserve-clause-unchanged c =
    let here = work_at c.args.self.now.map c.args.work _ c.name_of-name.ensures _ c.in-Some.ensures.value in
    on_err c.from_residual.result (work_kept c.args.self.now.map c.args.work _ c.name_of-name.ensures standing_in (c.get_mut.follows.lender _) _ ((c.get_mut.follows.holds _).3 (search rules)) (ap standing_in (sym here)))
