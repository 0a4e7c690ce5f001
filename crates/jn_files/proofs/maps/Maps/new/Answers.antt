use Rattle.std.proofs.Common.{◌≡◌, ◌≤◌, ◌<◌, ◌+◌, ◌∙◌, ℕ, List, [], ◌∷◌, ◌++◌, length, ap, refl, sym, subst, arith, rules}
use Rattle.jn_files.proofs.MapRows.{first-rows, new-rows}
use Rattle.jn_files.proofs.maps.Maps.new.Goals as goal

pub invariant_of-result : goal.invariant_of-result
invariant_of-result c =
    let l = c.in_ok-resize.ensures.len in let k = c.resize.new.self.ok in let z = c.in_ok-slots.ensures.len in
    first-rows c.resize.new.self.items c.push_reserved.new.self.items _ c.args.leaves (grind (arith, rules, l, k)) (let r = c.ranges.leaves.fits in grind (arith, rules, r))
    (λ d lt. c.in_ok-resize.ensures.by_index.1 d 0 refl (grind (arith, rules, z)) lt)
    (c.push_reserved.ensures.items ∙ ap (λ (rs : List (List ℕ)). rs ++ _ ∷ []) c.in_ok-rows.ensures.items)
    (let p = c.push_reserved.ensures.capacity in let q = c.in_ok-rows.ensures.capacity in grind (arith, rules, p, q))

pub returns-clause-rows : goal.returns-clause-rows
returns-clause-rows c =
    let l = c.in_ok-resize.ensures.len in let k = c.resize.new.self.ok in let z = c.in_ok-slots.ensures.len in
    new-rows c.args.leaves c.resize.new.self.items c.push_reserved.new.self.items (ap (λ (rs : List (List ℕ)). Rattle.std.specs.Prelude.slice_index_or rs 0 []) (c.push_reserved.ensures.items ∙ ap (λ (rs : List (List ℕ)). rs ++ _ ∷ []) c.in_ok-rows.ensures.items)) (grind (arith, rules, l, k))
    (λ d lt. c.in_ok-resize.ensures.by_index.1 d 0 refl (grind (arith, rules, z)) lt)
