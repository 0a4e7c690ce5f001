use Rattle.jn_files.proofs.Common.{◌≡◌, ◌<◌, ◌∙◌, ℕ, List, [], ◌∷◌, ◌++◌, length, ap, subst, sym, arith, rules, slice_index, slice_index_or, slice_set, vec_capacity, rows_by, AreRowsMade}
use Rattle.jn_files.proofs.MapRows.{no-row, own-row, made-row, still-rows, fits, has-room}
use Rattle.jn_files.proofs.maps.Maps.replace.Goals as goal

pub overflow_cast-len : goal.overflow_cast-len
overflow_cast-len c =
    let at = no-row c.self.inside.slots.items c.self.inside.rows.items c.args.d c.index-slot.result.now (subst (λ (rows : List (List ℕ)). c.args.d < length rows) (sym c.self.view_is) c.requires) c.index-slot.ensures c.if-slot-ne0.false in
    let f = fits c.self.inside.slots.items c.self.inside.rows.items _ c.self.invariant c.args.d at.0 c.args.row at.1 in
    let n = c.len.ensures in let k = c.self.inside.rows.ok in grind (arith, rules, f, n, k)

pub push_reserved-requires : goal.push_reserved-requires
push_reserved-requires c =
    let at = no-row c.self.inside.slots.items c.self.inside.rows.items c.args.d c.index-slot.result.now (subst (λ (rows : List (List ℕ)). c.args.d < length rows) (sym c.self.view_is) c.requires) c.index-slot.ensures c.if-slot-ne0.false in
    let f = has-room c.self.inside.slots.items c.self.inside.rows.items _ c.self.invariant c.args.d at.0 c.args.row at.1 in
    let k = c.self.inside.rows.ok in grind (arith, rules, f, k)

pub invariant_of-self-2 : goal.invariant_of-self-2
invariant_of-self-2 c =
    let at = no-row c.self.inside.slots.items c.self.inside.rows.items c.args.d c.index-slot.result.now (subst (λ (rows : List (List ℕ)). c.args.d < length rows) (sym c.self.view_is) c.requires) c.index-slot.ensures c.if-slot-ne0.false in
    let e = c.len.ensures in let k = c.self.inside.rows.ok in
    let n : c.len.result ≡ length c.self.inside.rows.items = grind (arith, rules, e, k) in
    subst (λ (m : ℕ). AreRowsMade (slice_set c.self.inside.slots.items c.args.d m) c.push_reserved.new.self.items (vec_capacity c.push_reserved.new.self)) (sym n)
    (subst (λ (rs : List (List ℕ)). AreRowsMade (slice_set c.self.inside.slots.items c.args.d (length c.self.inside.rows.items)) rs (vec_capacity c.push_reserved.new.self)) (sym c.push_reserved.ensures.items)
    (subst (λ (room : ℕ). AreRowsMade (slice_set c.self.inside.slots.items c.args.d (length c.self.inside.rows.items)) (c.self.inside.rows.items ++ c.args.row ∷ []) room) (sym c.push_reserved.ensures.capacity)
    (still-rows c.self.inside.slots.items c.self.inside.rows.items _ c.self.invariant c.args.d at.0 c.args.row at.1)))

pub returns-clause-new : goal.returns-clause-new
returns-clause-new c =
    let at = no-row c.self.inside.slots.items c.self.inside.rows.items c.args.d c.index-slot.result.now (subst (λ (rows : List (List ℕ)). c.args.d < length rows) (sym c.self.view_is) c.requires) c.index-slot.ensures c.if-slot-ne0.false in
    let e = c.len.ensures in let k = c.self.inside.rows.ok in
    let n : c.len.result ≡ length c.self.inside.rows.items = grind (arith, rules, e, k) in
    ap (λ (m : ℕ). rows_by (slice_set c.self.inside.slots.items c.args.d m) c.push_reserved.new.self.items) n
    ∙ ap (λ (rs : List (List ℕ)). rows_by (slice_set c.self.inside.slots.items c.args.d (length c.self.inside.rows.items)) rs) c.push_reserved.ensures.items
    ∙ made-row c.self.inside.slots.items c.self.inside.rows.items _ c.self.invariant c.args.d at.0 c.args.row at.1
    ∙ ap (λ (rows : List (List ℕ)). slice_set rows c.args.d c.args.row) c.self.view_is

pub returns-then-slot-ne0-clause-new : goal.returns-then-slot-ne0-clause-new
returns-then-slot-ne0-clause-new c =
    ap (λ (r : List ℕ). rows_by c.self.inside.slots.items (slice_set c.self.inside.rows.items c.index-slot.result.now r)) c.replace.ensures.after
    ∙ own-row c.self.inside.slots.items c.self.inside.rows.items _ c.self.invariant c.args.d c.index-slot.result.now c.args.row (subst (λ (rows : List (List ℕ)). c.args.d < length rows) (sym c.self.view_is) c.requires) c.index-slot.ensures c.if-slot-ne0.true
    ∙ ap (λ (rows : List (List ℕ)). slice_set rows c.args.d c.args.row) c.self.view_is
