use Rattle.jn_index.proofs.Common.{◌≡◌, ◌+◌, ◌-◌, ℕ, arith, refl, sym, subst, ◌∙◌, get_or_default, length-set, length-remove, remove, slice_set, entry}
use Rattle.jn_index.proofs.Turning.{HasHole, turned_here, hole_down}
use Rattle.jn_index.proofs.move_up.Goals as goal

pub loop-place-init : goal.loop-place-init
loop-place-init c = record { within = omega arith; above = c.requires.to; len = refl; capacity = refl; moved = λ x. turned_here c.args.entries.now.items c.args.from x c.requires.from }

pub loop-place-preserved : goal.loop-place-preserved
loop-place-preserved c =
    let old = c.args.entries.now.items in
    let list = c.loop-place.entries.items in
    let place = c.loop-place.place in
    let from = c.requires.from in
    let within = c.loop-place.invariant.within in
    let lt = c.loop-place-test.true in
    let len = c.loop-place.invariant.len in
    let shorter = length-remove old c.args.from from in
    let up : (place - 1) + 1 ≡ place = omega (arith, lt) in
    let next = get_or_default list (place - 1) (entry 0 0) c.index.result.now (omega (arith, lt, within, from, len)) ∙ sym c.index.ensures in
    record {
      within = omega (arith, within);
      above = omega (arith, lt);
      len = length-set list place c.index.result.now ∙ len;
      capacity = c.loop-place.invariant.capacity;
      moved = subst (λ (k : ℕ). HasHole (slice_set list k c.index.result.now) (remove old c.args.from) (place - 1)) up
          (hole_down list (remove old c.args.from) (place - 1) c.index.result.now (omega (arith, lt, within, from, shorter)) next
          (subst (λ (k : ℕ). HasHole list (remove old c.args.from) k) (sym up) c.loop-place.invariant.moved));
    }
