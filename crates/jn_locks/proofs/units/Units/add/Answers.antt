use Rattle.jn_locks.proofs.Common.{rules, List, refl, sym, ap, ◌∙◌, not, Holder, is_among, with_holder, holders_in, room_in}
use Rattle.jn_locks.proofs.Maps.{unit_at, unit_after}
use Rattle.jn_locks.proofs.units.Units.add.Goals as goal

pub put_modes-requires : goal.put_modes-requires
put_modes-requires c =
    let here = unit_at c.args.self.now.map c.args.unit _ c.place_of.ensures _ c.in-Some.ensures.value in
    rw here at c.requires

pub returns-clause-is_new : goal.returns-clause-is_new
returns-clause-is_new c =
    let here = unit_at c.args.self.now.map c.args.unit _ c.place_of.ensures _ c.in-Some.ensures.value in
    ap not (c.is_among-is_new.ensures ∙ ap (λ (hs : List Holder). is_among hs c.args.work) (c.deref.ensures.value ∙ ap holders_in (sym here)))

pub returns-clause-at : goal.returns-clause-at
returns-clause-at c =
    let here = unit_at c.args.self.now.map c.args.unit _ c.place_of.ensures _ c.in-Some.ensures.value in
    unit_after c.args.self.now.map c.args.unit _ c.place_of.ensures holders_in (c.get_mut.follows.lender _) _ ((c.get_mut.follows.holds _).3 (search rules)) _
    (c.put_modes.ensures ∙ ap (λ (hs : List Holder). with_holder c.args.work c.with_mode-modes.result hs) (ap holders_in (sym here)))

pub returns-clause-room : goal.returns-clause-room
returns-clause-room c =
    λ u k. unit_after c.args.self.now.map c.args.unit _ c.place_of.ensures room_in (c.get_mut.follows.lender _) _ ((c.get_mut.follows.holds _).3 (search rules)) _ refl u ∙ rw k refl
