use Rattle.jn_sets.proofs.Common.{◌≡◌, List, Bool, true, false, not, sym, ◌∙◌, subst, arith, Record, is_free, record_in, AreUsedTo}
use Rattle.jn_sets.proofs.Rubbish.{first_is, none_is, used_more}
use Rattle.jn_sets.proofs.sets.Sets.free_slot.Goals as goal

pub loop-slot-init : goal.loop-slot-init
loop-slot-init c = subst (λ (l : List Record). AreUsedTo l c.self.inside.used) c.self.view_is c.self.invariant.used_below

pub returns-then-not-holds-clause-first : goal.returns-then-not-holds-clause-first
returns-then-not-holds-clause-first c =
    let records = c.args.self.now in
    let here : is_free (record_in records c.loop-slot.slot) ≡ true = turned (is_free (record_in records c.loop-slot.slot)) (sym c.holds.ensures ∙ cc c.if-not-holds.true) in
    let lt = c.loop-slot-test.true in
    let end = c.slots-slot-end.ensures in
    first_is is_free records c.loop-slot.slot (omega (arith, lt, end)) c.loop-slot.invariant here
  where
    turned : (b : Bool) → not b ≡ false → b ≡ true
    turned b h = grind (arith, h)

pub returns-then-not-holds-clause-below : goal.returns-then-not-holds-clause-below
returns-then-not-holds-clause-below c = c.loop-slot.invariant

pub loop-slot-preserved : goal.loop-slot-preserved
loop-slot-preserved c =
    let records = c.args.self.now in
    let here : is_free (record_in records c.loop-slot.slot) ≡ false = turned (is_free (record_in records c.loop-slot.slot)) (sym c.holds.ensures ∙ cc c.if-not-holds.false) in
    used_more records c.loop-slot.slot c.loop-slot.invariant here
  where
    turned : (b : Bool) → not b ≡ true → b ≡ false
    turned b h = grind (arith, h)

pub returns-clause-first : goal.returns-clause-first
returns-clause-first c =
    let records = c.args.self.now in
    let past = c.loop-slot-test.false in
    let end = c.slots-slot-end.ensures in
    none_is is_free records (λ k lt. c.loop-slot.invariant k (omega (arith, past, end, lt)))
