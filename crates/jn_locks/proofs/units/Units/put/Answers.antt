use Rattle.jn_locks.proofs.Common.{rules, List, refl, sym, ap, ◌∙◌, Holder, with_holder, holders_in, room_in}
use Rattle.jn_locks.proofs.Maps.{unit_at, unit_after}
use Rattle.jn_locks.proofs.units.Units.put.Goals as goal

pub put_modes-requires : goal.put_modes-requires
put_modes-requires c =
    let here = unit_at c.args.self.now.map c.args.unit _ c.place_of.ensures _ c.in-Some.ensures.value in
    rw here at c.requires

pub returns-in-Some-clause-at : goal.returns-in-Some-clause-at
returns-in-Some-clause-at c =
    let here = unit_at c.args.self.now.map c.args.unit _ c.place_of.ensures _ c.in-Some.ensures.value in
    unit_after c.args.self.now.map c.args.unit _ c.place_of.ensures holders_in (c.get_mut.follows.lender _) _ ((c.get_mut.follows.holds _).3 (search rules)) _ (c.put_modes.ensures ∙ ap (λ (hs : List Holder). with_holder c.args.work c.args.modes hs) (ap holders_in (sym here)))

pub returns-in-Some-clause-room : goal.returns-in-Some-clause-room
returns-in-Some-clause-room c =
    λ u k. unit_after c.args.self.now.map c.args.unit _ c.place_of.ensures room_in (c.get_mut.follows.lender _) _ ((c.get_mut.follows.holds _).3 (search rules)) _ refl u ∙ rw k refl
