use Rattle.jn_locks.proofs.Common.{rules, arith, List, sym, ap, ◌∙◌, nat_tests, Holder, unit_eq, without, holders_in}
use Rattle.jn_locks.proofs.Maps.{unit_at, unit_after, twice}
use Rattle.jn_locks.proofs.Holding.{none_if_empty}
use Rattle.jn_locks.proofs.units.Units.drop_work.Goals as goal

pub returns-then-not-is_empty : goal.returns-then-not-is_empty
returns-then-not-is_empty c =
    let here = unit_at c.args.self.now.map c.args.unit _ c.place_of-place.ensures _ c.in-Some.ensures.value in
    unit_after c.args.self.now.map c.args.unit _ c.place_of-place.ensures holders_in (c.get_mut.follows.lender _) _ ((c.get_mut.follows.holds _).3 (search rules)) _ (c.drop_work.ensures.items ∙ ap (λ (hs : List Holder). without c.args.work hs) (ap holders_in (sym here)))

pub returns : goal.returns
returns c =
    let here = unit_at c.args.self.now.map c.args.unit _ c.place_of-place.ensures _ c.in-Some.ensures.value in
    let gone = none_if_empty c.drop_work.new.all.items (grind (arith, nat_tests, c.is_empty.ensures, c.if-not-is_empty.ensures, c.drop_work.new.all.ok.0)) in
    let left = c.drop_work.ensures.items ∙ ap (λ (hs : List Holder). without c.args.work hs) (ap holders_in (sym here)) in
    λ v. unit_after (c.get_mut.follows.lender _) c.args.unit _ c.place_of-place.ensures holders_in c.remove.new.self _ c.remove.ensures.updates _ (sym gone ∙ left) v
    ∙ twice _ _ _ (unit_eq c.args.unit v) (unit_after c.args.self.now.map c.args.unit _ c.place_of-place.ensures holders_in (c.get_mut.follows.lender _) _ ((c.get_mut.follows.holds _).3 (search rules)) _ left v)
