use Rattle.jn_locks.proofs.Common.{sym, ap, ◌∙◌, holders_in}
use Rattle.jn_locks.proofs.Maps.{unit_at}
use Rattle.jn_locks.proofs.units.Units.at.Goals as goal

pub returns-in-Some : goal.returns-in-Some
returns-in-Some c =
    let here = unit_at c.args.self.now.map c.args.unit _ c.place_of.ensures _ c.in-Some.ensures.value in
    c.as_slice.ensures.value ∙ ap holders_in (sym here)

pub returns-in-None : goal.returns-in-None
returns-in-None c =
    let here = unit_at c.args.self.now.map c.args.unit _ c.place_of.ensures _ c.in-None.ensures.value in
    ap holders_in (sym here)
