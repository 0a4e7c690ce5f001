use Rattle.jn_index.proofs.Common.{◌+◌, arith, refl, sym, ◌∙◌, get_or_default, length-set, length-remove, remove, entry}
use Rattle.jn_index.proofs.Turning.{turned_here, hole_up}
use Rattle.jn_index.proofs.move_down.Goals as goal

pub loop-place-init : goal.loop-place-init
loop-place-init c = record { len = refl; capacity = refl; moved = λ x. turned_here c.args.entries.now.items c.args.from x (let from = c.requires.from in let to = c.requires.to in omega (arith, from, to)) }

pub loop-place-preserved : goal.loop-place-preserved
loop-place-preserved c =
    let old = c.args.entries.now.items in
    let list = c.loop-place.entries.items in
    let place = c.loop-place.place in
    let from = c.requires.from in
    let to = c.requires.to in
    let lt = c.loop-place-test.true in
    let len = c.loop-place.invariant.len in
    let shorter = length-remove old c.args.from (omega (arith, from, to)) in
    let next = get_or_default list (place + 1) (entry 0 0) c.index.result.now (omega (arith, lt, to, len)) ∙ sym c.index.ensures in
    record { len = length-set list place c.index.result.now ∙ len; capacity = c.loop-place.invariant.capacity; moved = hole_up list (remove old c.args.from) place c.index.result.now (omega (arith, lt, to, shorter)) next c.loop-place.invariant.moved }
