use Rattle.jn_files.proofs.Common.{◌≡◌, ◌∙◌, sym, subst, ap, at_cell, kept_entry, TableView, address_for, layouts_in, layout_in}
use Rattle.jn_files.proofs.Lookup.{address_there, address_absent}
use Rattle.jn_files.proofs.table.FileTable.address_for.Goals as goal

pub returns-in-Some : goal.returns-in-Some
returns-in-Some c =
    let t = c.self.inside in
    c.address_at.ensures ∙ subst (λ (x : TableView). at_cell (layout_in x c.in-Some.slot) c.args.p.0 ≡ address_for (layouts_in x) c.args.f c.args.p.0) c.self.view_is
    (sym (address_there c.args.f (kept_entry t.maps) t.heads c.in-Some.slot c.args.p.0 c.in-Some.ensures.found.1 c.in-Some.ensures.lowest))

pub returns-in-None : goal.returns-in-None
returns-in-None c =
    let t = c.self.inside in
    sym (address_absent c.args.f (kept_entry t.maps) t.heads c.args.p.0 (sym c.in-None.ensures.there)) ∙ ap (λ (x : TableView). address_for (layouts_in x) c.args.f c.args.p.0) c.self.view_is
