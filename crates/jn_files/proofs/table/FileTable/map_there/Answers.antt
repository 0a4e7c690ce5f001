use Rattle.jn_files.proofs.Common.{◌≤◌, sym, ap, ◌∙◌, arith, nat_lt, most_maps, Head, head_map, maps_in, TableView, head_in}
use Rattle.jn_files.proofs.Lookup.{maps_there, maps_absent}
use Rattle.jn_files.proofs.Said.{map_past}
use Rattle.jn_files.proofs.table.FileTable.map_there.Goals as goal

pub returns : goal.returns
returns c =
    let heads = c.self.inside.heads in
    let slot = c.in-Some.slot in
    let here = c.in-Some.ensures.found.1 in
    ap (nat_lt 0) (c.map.ensures ∙ ap (λ (h : Head). head_map h c.from-2.result) c.slot.ensures ∙ ap (head_map (head_in heads slot)) c.from-2.ensures)
    ∙ sym (maps_there c.args.f heads slot c.args.j here (λ k e. c.self.invariant.table.heads.files c.args.f k slot e here)) ∙ ap (λ (x : TableView). maps_in x.heads c.args.f c.args.j) c.self.view_is

pub returns-in_default : goal.returns-in_default
returns-in_default c = sym (maps_absent c.args.f c.self.inside.heads c.args.j (sym c.in_default.ensures.there)) ∙ ap (λ (x : TableView). maps_in x.heads c.args.f c.args.j) c.self.view_is

pub returns-then-from-ge-MOST_MAPS : goal.returns-then-from-ge-MOST_MAPS
returns-then-from-ge-MOST_MAPS c =
    let heads = c.self.inside.heads in
    let slot = c.in-Some.slot in
    let here = c.in-Some.ensures.found.1 in
    let past : most_maps ≤ c.args.j = (let e = c.from.ensures in let ge = c.if-from-ge-MOST_MAPS.true in omega (arith, e, ge)) in
    sym (maps_there c.args.f heads slot c.args.j here (λ k e. c.self.invariant.table.heads.files c.args.f k slot e here)
    ∙ ap (nat_lt 0) (map_past (head_in heads slot) c.args.j (c.self.invariant.table.heads.each slot).is_head.whole past)) ∙ ap (λ (x : TableView). maps_in x.heads c.args.f c.args.j) c.self.view_is
