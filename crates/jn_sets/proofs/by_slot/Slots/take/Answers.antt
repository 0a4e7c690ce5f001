use Rattle.jn_sets.proofs.Common.{◌≡◌, ◌<◌, ◌+◌, ℕ, List, Option, length, false, sym, ◌∙◌, ap, subst, arith, length-set, count_by-le-length, get_or_from_slice_get, values_of, slice_set, Record, Free, has_page, record_in, record_number, is_free, prepares, AreCounted, ones}
use Rattle.jn_sets.proofs.Slots.{values_set}
use Rattle.jn_sets.proofs.Stored.{index_set}
use Rattle.jn_sets.proofs.Numbering.{counted_set, some_pass}
use Rattle.jn_sets.proofs.by_slot.Slots.take.Goals as goal

pub overflow_add-self : goal.overflow_add-self
overflow_add-self c =
    let records = values_of c.self.inside.index.entries in
    let most = count_by-le-length is_free records in
    let count = c.self.invariant.counted.free_is in
    let few = c.self.invariant.index.few in
    omega arith

pub recount-self-inside-requires-clause-some : goal.recount-self-inside-requires-clause-some
recount-self-inside-requires-clause-some c one =
    let records = values_of c.self.inside.index.entries in
    let below : c.args.slot < length records = subst (λ (l : List Record). c.args.slot < length l) (sym c.self.view_is) c.requires.slot in
    let taken : c.replace-old.result ≡ record_in records c.args.slot = c.replace-old.ensures.value ∙ sym (get_or_from_slice_get records c.args.slot c.index_mut.result.now Free c.index_mut.ensures.value) in
    let some = some_pass prepares records c.args.slot below (ap prepares (sym taken) ∙ sym c.prepares.ensures ∙ one) in
    let count = c.self.invariant.counted.prepared_is in
    omega arith

pub invariant_of-self : goal.invariant_of-self
invariant_of-self c =
    let records = values_of c.self.inside.index.entries in
    let below : c.args.slot < length records = subst (λ (l : List Record). c.args.slot < length l) (sym c.self.view_is) c.requires.slot in
    let taken : c.replace-old.result ≡ record_in records c.args.slot = c.replace-old.ensures.value ∙ sym (get_or_from_slice_get records c.args.slot c.index_mut.result.now Free c.index_mut.ensures.value) in
    let held : is_free (record_in records c.args.slot) ≡ false = subst (λ (l : List Record). is_free (record_in l c.args.slot) ≡ false) (sym c.self.view_is) c.requires.held in
    let value = c.replace-old.new.dest in
    let is : value ≡ Free = c.replace-old.ensures.after in
    let numbers : c.set.new.self ≡ slice_set c.self.inside.numbers c.args.slot (record_number value) = c.set.ensures ∙ ap (slice_set c.self.inside.numbers c.args.slot) (ap record_number (sym is)) in
    let was : ones (is_free (record_in records c.args.slot)) ≡ 0 = ap ones held in
    let now : ones (is_free value) ≡ 1 = ap (λ (r : Record). ones (is_free r)) is in
    let was_one : ones c.prepares.result ≡ ones (prepares (record_in records c.args.slot)) = ap ones (c.prepares.ensures ∙ ap prepares taken) in
    let now_one : ones false ≡ ones (prepares value) = ap (λ (r : Record). ones (prepares r)) (sym is) in
    let works = c.recount-self-inside.ensures in
    let values = values_set c.self.inside.index.entries c.args.slot value in
    record {
      index = index_set c.self.inside.index.entries c.args.slot value c.self.invariant.index below (ap has_page is);
      slots = ap length numbers ∙ length-set c.self.inside.numbers c.args.slot (record_number value) ∙ c.self.invariant.slots ∙ sym (ap length values ∙ length-set records c.args.slot value);
      counted = subst (λ (l : List Record). AreCounted c.set.new.self (c.self.inside.free + 1) c.recount-self-inside.result l) (sym values)
          (subst (λ (l : List (Option ℕ)). AreCounted l (c.self.inside.free + 1) c.recount-self-inside.result (slice_set records c.args.slot value)) (sym numbers)
          (counted_set c.self.inside.numbers c.self.inside.free c.self.inside.prepared records c.self.invariant.counted value (c.self.inside.free + 1) c.recount-self-inside.result c.args.slot below c.self.invariant.slots (omega arith) (omega arith)));
    }

pub returns-clause-taken : goal.returns-clause-taken
returns-clause-taken c = c.replace-old.ensures.value ∙ sym (get_or_from_slice_get _ c.args.slot _ Free c.index_mut.ensures.value) ∙ ap (λ (l : List Record). record_in l c.args.slot) c.self.view_is

pub returns-clause-left : goal.returns-clause-left
returns-clause-left c = values_set c.self.inside.index.entries c.args.slot c.replace-old.new.dest
    ∙ ap (λ (l : List Record). slice_set l c.args.slot c.replace-old.new.dest) c.self.view_is ∙ ap (slice_set c.args.self.now c.args.slot) c.replace-old.ensures.after
