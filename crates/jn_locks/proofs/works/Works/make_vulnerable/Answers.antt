use Rattle.jn_locks.proofs.Common.{rules, Option, Some, sym, ap, ◌∙◌, option_map, Standing, once_vulnerable, standing_in, units_in}
use Rattle.jn_locks.proofs.Maps.{work_at, work_after, work_kept}
use Rattle.jn_locks.proofs.works.Works.make_vulnerable.Goals as goal

pub returns-in-Some-clause-standing : goal.returns-in-Some-clause-standing
returns-in-Some-clause-standing c =
    let here = work_at c.args.self.now.map c.args.work _ c.name_of.ensures _ c.in-Some.ensures.value in
    work_after c.args.self.now.map c.args.work _ c.name_of.ensures standing_in (c.get_mut.follows.lender _) _ ((c.get_mut.follows.holds _).3 (search rules)) _ (ap Some c.once_vulnerable-known.ensures ∙ ap (λ (o : Option Standing). option_map once_vulnerable o) (ap standing_in (sym here)))

pub returns-in-Some-clause-units : goal.returns-in-Some-clause-units
returns-in-Some-clause-units c =
    let here = work_at c.args.self.now.map c.args.work _ c.name_of.ensures _ c.in-Some.ensures.value in
    work_kept c.args.self.now.map c.args.work _ c.name_of.ensures units_in (c.get_mut.follows.lender _) _ ((c.get_mut.follows.holds _).3 (search rules)) (ap units_in (sym here))
