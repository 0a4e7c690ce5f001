use Rattle.jn_sets.proofs.Common.{◌≡◌, ◌<◌, List, length, true, refl, sym, ◌∙◌, ap, subst, arith, length-set, set-set, get_or_from_slice_get, values_of, slice_set, index_map_len-with_value_at, set_value_at, Record, Free, has_page, record_in, marked, prepares, AreCounted, IsIndex}
use Rattle.std.proofs.lemmas.Map.Entries.{length-values_of}
use Rattle.jn_sets.proofs.Slots.{values_set}
use Rattle.jn_sets.proofs.Stored.{index_set, marked_like}
use Rattle.jn_sets.proofs.Numbering.{counted_like}
use Rattle.jn_sets.proofs.by_slot.Slots.mark.Goals as goal

pub index_mut-requires-2 : goal.index_mut-requires-2
index_mut-requires-2 c =
    let entries = c.self.inside.index.entries in
    let below : c.args.slot < length (values_of entries) = subst (λ (l : List Record). c.args.slot < length l) (sym c.self.view_is) c.requires.slot in
    let long = length-values_of entries in
    let same = index_map_len-with_value_at c.self.inside.index c.args.slot c.replace-old.new.dest in
    omega arith

pub invariant_of-self : goal.invariant_of-self
invariant_of-self c =
    let entries = c.self.inside.index.entries in
    let records = values_of entries in
    let slot = c.args.slot in
    let empty = c.replace-old.new.dest in
    let value = c.marked.result in
    let below : slot < length records = subst (λ (l : List Record). slot < length l) (sym c.self.view_is) c.requires.slot in
    let one : prepares (record_in records slot) ≡ true = subst (λ (l : List Record). prepares (record_in l slot) ≡ true) (sym c.self.view_is) c.requires.prepared in
    let taken : c.replace-old.result ≡ record_in records slot = c.replace-old.ensures.value ∙ sym (get_or_from_slice_get records slot c.index_mut.result.now Free c.index_mut.ensures.value) in
    let is : value ≡ marked c.args.going (record_in records slot) = c.marked.ensures ∙ ap (marked c.args.going) taken in
    let like = marked_like c.args.going (record_in records slot) one in
    let bare = values_set entries slot empty in
    let values : values_of (set_value_at (set_value_at entries slot empty) slot value) ≡ slice_set records slot (marked c.args.going (record_in records slot))
    = values_set (set_value_at entries slot empty) slot value ∙ ap (λ (l : List Record). slice_set l slot value) bare ∙ set-set records slot empty value ∙ ap (slice_set records slot) is in
    let long : slot < length (values_of (set_value_at entries slot empty)) = let same = ap length bare ∙ length-set records slot empty in omega arith in
    let first : IsIndex (set_value_at entries slot empty) = index_set entries slot empty c.self.invariant.index below (ap has_page c.replace-old.ensures.after) in
    record {
      index = index_set (set_value_at entries slot empty) slot value first long (ap has_page is ∙ like.page ∙ c.self.invariant.index.pages slot);
      slots = c.self.invariant.slots ∙ sym (ap length values ∙ length-set records slot (marked c.args.going (record_in records slot)));
      counted = subst (λ (l : List Record). AreCounted c.self.inside.numbers c.self.inside.free c.self.inside.prepared l) (sym values)
          (counted_like c.self.inside.numbers c.self.inside.free c.self.inside.prepared records c.self.invariant.counted (marked c.args.going (record_in records slot)) c.self.inside.free c.self.inside.prepared
          slot below c.self.invariant.slots like.number like.free like.prepares refl refl);
    }

pub returns-clause-left : goal.returns-clause-left
returns-clause-left c =
    let entries = c.self.inside.index.entries in
    let records = values_of entries in
    let slot = c.args.slot in
    let empty = c.replace-old.new.dest in
    let value = c.marked.result in
    let taken : c.replace-old.result ≡ record_in records slot = c.replace-old.ensures.value ∙ sym (get_or_from_slice_get records slot c.index_mut.result.now Free c.index_mut.ensures.value) in
    let is : value ≡ marked c.args.going (record_in records slot) = c.marked.ensures ∙ ap (marked c.args.going) taken in
    values_set (set_value_at entries slot empty) slot value ∙ ap (λ (l : List Record). slice_set l slot value) (values_set entries slot empty) ∙ set-set records slot empty value ∙ ap (slice_set records slot) is
    ∙ ap (λ (l : List Record). slice_set l slot (marked c.args.going (record_in l slot))) c.self.view_is
