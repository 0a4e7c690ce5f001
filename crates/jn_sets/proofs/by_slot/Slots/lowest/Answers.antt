use Rattle.jn_sets.proofs.Common.{◌≡◌, ◌≤◌, ℕ, true, false, Some, sym, ◌∙◌, ap, subst, arith, get_or_from_slice_get, values_of, position, number_at, IsSlotFrom, Free, is_wanted, record_in}
use Rattle.jn_sets.proofs.Numbering.{found_first, none_found, past_it, slot_within}
use Rattle.jn_sets.proofs.by_slot.Slots.lowest.Goals as goal

pub returns-then-is_wanted : goal.returns-then-is_wanted
returns-then-is_wanted c =
    let records = values_of c.self.inside.index.entries in
    let found = subst (λ (n : ℕ). IsSlotFrom c.self.inside.numbers n c.loop-slot.from c.in-Some.slot) c.number_wanted-number.ensures c.in-Some.ensures.found in
    let here : is_wanted c.args.wanted (record_in records c.in-Some.slot) ≡ true = ap (is_wanted c.args.wanted) (get_or_from_slice_get records c.in-Some.slot c.index.result.now Free c.index.ensures) ∙ sym c.is_wanted.ensures ∙ c.if-is_wanted.true in
    found_first c.self.inside.numbers c.self.inside.free c.self.inside.prepared records c.self.invariant.counted c.self.invariant.slots c.args.wanted c.loop-slot.from c.loop-slot.invariant.none_yet c.in-Some.slot found here
    ∙ ap (position (is_wanted c.args.wanted)) c.self.view_is

pub loop-slot-preserved : goal.loop-slot-preserved
loop-slot-preserved c =
    let records = values_of c.self.inside.index.entries in
    let found = subst (λ (n : ℕ). IsSlotFrom c.self.inside.numbers n c.loop-slot.from c.in-Some.slot) c.number_wanted-number.ensures c.in-Some.ensures.found in
    let here : is_wanted c.args.wanted (record_in records c.in-Some.slot) ≡ false = ap (is_wanted c.args.wanted) (get_or_from_slice_get records c.in-Some.slot c.index.result.now Free c.index.ensures) ∙ sym c.is_wanted.ensures ∙ c.if-is_wanted.false in
    record {
      within = let lt = slot_within c.self.inside.numbers c.self.inside.free c.self.inside.prepared records c.self.invariant.counted c.self.invariant.slots c.args.wanted c.loop-slot.from c.loop-slot.invariant.none_yet c.in-Some.slot found in omega arith;
      none_yet = past_it c.self.inside.numbers c.self.inside.free c.self.inside.prepared records c.self.invariant.counted c.self.invariant.slots c.args.wanted c.loop-slot.from c.loop-slot.invariant.none_yet c.in-Some.slot found here;
    }

pub returns : goal.returns
returns c =
    let records = values_of c.self.inside.index.entries in
    none_found c.self.inside.numbers c.self.inside.free c.self.inside.prepared records c.self.invariant.counted c.self.invariant.slots c.args.wanted c.loop-slot.from c.loop-slot.invariant.none_yet
    (subst (λ (n : ℕ). (slot : ℕ) → c.loop-slot.from ≤ slot → number_at c.self.inside.numbers slot ≡ Some n → ⊥) c.number_wanted-number.ensures c.in_default.ensures.none)
    ∙ ap (position (is_wanted c.args.wanted)) c.self.view_is
