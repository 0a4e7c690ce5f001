use Rattle.jn_records.proofs.Common.{suc, ◌≡◌, ◌++◌, ◌∷◌, List, drop, sym, ap, ◌∙◌, arith, length-append, drop-cons, flat_map}
use Rattle.jn_records.proofs.Lists.{next_fits}
use Rattle.jn_records.proofs.list.put_list.Goals as goal

pub put_bytes-requires : goal.put_bytes-requires
put_bytes-requires g c =
    let f = g.F.Field.spelled in
    let i = c.loop-field.field-index in
    let xs = c.args.list.now in
    let x = c.field-item.result in
    let rest : drop i xs ≡ x ∷ drop (suc i) xs = drop-cons xs i x c.loop-field-test.true ∙ ap (λ (y : g.row.F.Denot). y ∷ drop (suc i) xs) (sym c.field-item.is) in
    rw c.to_bytes.ensures.bytes
    (next_fits f c.loop-field.page (c.args.page.now ++ flat_map f xs) x (drop (suc i) xs)
    (ap (λ (ys : List g.row.F.Denot). c.loop-field.page ++ flat_map f ys) (sym rest) ∙ c.loop-field.invariant)
    (omega (arith, c.requires.room, length-append c.args.page.now (flat_map f xs))))
