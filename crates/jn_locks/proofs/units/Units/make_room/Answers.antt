use Rattle.jn_locks.proofs.Common.{rules, arith, sym, ap, ◌∙◌, nat_tests, holders_in, room_in}
use Rattle.jn_locks.proofs.Maps.{unit_at, unit_kept, unit_stays}
use Rattle.jn_locks.proofs.units.Units.make_room.Goals as goal

pub returns-in_err-reserve-clause-same : goal.returns-in_err-reserve-clause-same
returns-in_err-reserve-clause-same c =
    let here = unit_at c.args.self.now.map c.args.unit _ c.place_of-place.ensures _ c.in-Some.ensures.value in
    unit_kept c.args.self.now.map c.args.unit _ c.place_of-place.ensures holders_in (c.get_mut.follows.lender _) _ ((c.get_mut.follows.holds _).3 (search rules)) (c.reserve.ensures.items ∙ ap holders_in (sym here))

pub returns-in_err-reserve-clause-kept : goal.returns-in_err-reserve-clause-kept
returns-in_err-reserve-clause-kept c =
    let here = unit_at c.args.self.now.map c.args.unit _ c.place_of-place.ensures _ c.in-Some.ensures.value in
    unit_stays room_in c.args.self.now.map (c.get_mut.follows.lender _) c.args.unit _ c.place_of-place.ensures _ ((c.get_mut.follows.holds _).3 (search rules)) (λ k. grind (arith, nat_tests, rw here at k, c.reserve.ensures.len, c.reserve.ensures.capacity))

pub returns-in-Some-clause-same : goal.returns-in-Some-clause-same
returns-in-Some-clause-same c =
    let here = unit_at c.args.self.now.map c.args.unit _ c.place_of-place.ensures _ c.in-Some.ensures.value in
    unit_kept c.args.self.now.map c.args.unit _ c.place_of-place.ensures holders_in (c.get_mut.follows.lender _) _ ((c.get_mut.follows.holds _).3 (search rules)) (c.reserve.ensures.items ∙ ap holders_in (sym here))

pub returns-in-Some-clause-kept : goal.returns-in-Some-clause-kept
returns-in-Some-clause-kept c =
    let here = unit_at c.args.self.now.map c.args.unit _ c.place_of-place.ensures _ c.in-Some.ensures.value in
    unit_stays room_in c.args.self.now.map (c.get_mut.follows.lender _) c.args.unit _ c.place_of-place.ensures _ ((c.get_mut.follows.holds _).3 (search rules)) (λ k. grind (arith, nat_tests, rw here at k, c.reserve.ensures.len, c.reserve.ensures.capacity))

pub returns-clause-same : goal.returns-clause-same
returns-clause-same c =
    let here = unit_at c.args.self.now.map c.args.unit _ c.place_of-place.ensures _ c.in_default.ensures.value in
    unit_kept c.args.self.now.map c.args.unit _ c.place_of-place.ensures holders_in (c.insert.new.self) _ (rw c.get_mut.follows.holds-at-none at c.in_ok-insert.ensures.updates) (c.in_ok-all.ensures.items ∙ ap holders_in (sym here))

pub returns-clause-kept : goal.returns-clause-kept
returns-clause-kept c =
    let here = unit_at c.args.self.now.map c.args.unit _ c.place_of-place.ensures _ c.in_default.ensures.value in
    unit_stays room_in c.args.self.now.map (c.insert.new.self) c.args.unit _ c.place_of-place.ensures _ (rw c.get_mut.follows.holds-at-none at c.in_ok-insert.ensures.updates) (λ k. absurd (cc (rw here at k)))
