use Rattle.jn_sets.proofs.Common.{◌≡◌, ◌<◌, ◌-◌, ℕ, List, Option, length, false, true, sym, ◌∙◌, ap, subst, arith, length-set, values_of, slice_set, Record, Free, record_in, record_number, is_free, prepares, AreCounted, ones}
use Rattle.jn_sets.proofs.Slots.{values_set}
use Rattle.jn_sets.proofs.Stored.{index_set}
use Rattle.jn_sets.proofs.Numbering.{counted_set, some_pass}
use Rattle.jn_sets.proofs.by_slot.Slots.fill.Goals as goal

pub overflow_sub-self : goal.overflow_sub-self
overflow_sub-self c =
    let records = values_of c.self.inside.index.entries in
    let below : c.args.slot < length records = subst (λ (l : List Record). c.args.slot < length l) (sym c.self.view_is) c.requires.slot in
    let free : is_free (record_in records c.args.slot) ≡ true = subst (λ (l : List Record). is_free (record_in l c.args.slot) ≡ true) (sym c.self.view_is) (ap is_free c.requires.free) in
    let some = some_pass is_free records c.args.slot below free in
    let count = c.self.invariant.counted.free_is in
    omega arith

pub invariant_of-self : goal.invariant_of-self
invariant_of-self c =
    let records = values_of c.self.inside.index.entries in
    let below : c.args.slot < length records = subst (λ (l : List Record). c.args.slot < length l) (sym c.self.view_is) c.requires.slot in
    let free : record_in records c.args.slot ≡ Free = subst (λ (l : List Record). record_in l c.args.slot ≡ Free) (sym c.self.view_is) c.requires.free in
    let value = c.args.value in
    let numbers : c.set.new.self ≡ slice_set c.self.inside.numbers c.args.slot (record_number value) = c.set.ensures ∙ ap (slice_set c.self.inside.numbers c.args.slot) c.number_of.ensures in
    let was : ones (is_free (record_in records c.args.slot)) ≡ 1 = ap (λ (r : Record). ones (is_free r)) free in
    let now : ones (is_free value) ≡ 0 = ap ones c.requires.used in
    let was_one : ones (prepares (record_in records c.args.slot)) ≡ ones false = ap (λ (r : Record). ones (prepares r)) free in
    let now_one : ones c.prepares.result ≡ ones (prepares value) = ap ones c.prepares.ensures in
    let works = c.recount-self-inside.ensures in
    let some = some_pass is_free records c.args.slot below (ap is_free free) in
    let count = c.self.invariant.counted.free_is in
    let values = values_set c.self.inside.index.entries c.args.slot value in
    record {
      index = index_set c.self.inside.index.entries c.args.slot value c.self.invariant.index below c.requires.page;
      slots = ap length numbers ∙ length-set c.self.inside.numbers c.args.slot (record_number value) ∙ c.self.invariant.slots ∙ sym (ap length values ∙ length-set records c.args.slot value);
      counted = subst (λ (l : List Record). AreCounted c.set.new.self (c.self.inside.free - 1) c.recount-self-inside.result l) (sym values)
          (subst (λ (l : List (Option ℕ)). AreCounted l (c.self.inside.free - 1) c.recount-self-inside.result (slice_set records c.args.slot value)) (sym numbers)
          (counted_set c.self.inside.numbers c.self.inside.free c.self.inside.prepared records c.self.invariant.counted value (c.self.inside.free - 1) c.recount-self-inside.result c.args.slot below c.self.invariant.slots (omega arith) (omega arith)));
    }

pub returns : goal.returns
returns c = values_set c.self.inside.index.entries c.args.slot c.args.value ∙ ap (λ (l : List Record). slice_set l c.args.slot c.args.value) c.self.view_is
