use Rattle.jn_sets.proofs.Common.{refl, sym, ap, subst, length, ◌+◌, [], ◌∷◌, ◌∙◌, arith, length-append, values_of, AreCounted}
use Rattle.jn_sets.proofs.Loading.{read_more, still_readable, loads_more, loaded_index}
use Rattle.jn_sets.proofs.Slots.{index_push}
use Rattle.jn_sets.proofs.Numbering.{counted_more}
use Rattle.jn_sets.proofs.by_slot.Slots.load.Goals as goal

pub read_slot-requires-clause-readable : goal.read_slot-requires-clause-readable
read_slot-requires-clause-readable g c = still_readable _ _ _ _ c.loop-slot.invariant.loaded _ (c.requires.readable _ (omega arith))

pub returns-in_err-push-clause-read : goal.returns-in_err-push-clause-read
returns-in_err-push-clause-read g c =
    let all = read_more _ _ _ _ c.loop-slot.invariant.loaded.read c.in_ok-value.ensures.read in
    let lt = c.loop-slot-test.true in
    record { later = all.later; calls = (let few = all.calls in omega (arith, few, lt)); puts = all.puts; same = all.same }

pub loop-slot-preserved : goal.loop-slot-preserved
loop-slot-preserved g c =
    record {
      loaded = loads_more _ _ _ _ c.loop-slot.invariant.loaded _ _ _ c.in_ok-value.ensures.stored c.in_ok-value.ensures.read
          (c.in_ok-insert.ensures.entries ∙ index_push c.loop-slot.index _ _ c.loop-slot.invariant.loaded.numbered c.loop-slot.invariant.loaded.length_is) (c.in_ok-value.ensures.served refl);
      numbers = ap length c.in_ok-push.ensures.items ∙ length-append c.loop-slot.numbers.items (c.number_of.result ∷ []) ∙ ap (λ n. n + 1) c.loop-slot.invariant.numbers;
      counted = counted_more c.loop-slot.numbers.items c.loop-slot.free c.loop-slot.prepared c.loop-slot.index.entries _ c.loop-slot.slot c.in_ok-value.value c.push.new.self.items c.number_of.result c.recount-free.result c.recount-prepared.result c.is_free.result c.prepares.result
          c.loop-slot.invariant.counted c.loop-slot.invariant.loaded.length_is c.loop-slot.invariant.numbers c.number_of.ensures c.in_ok-push.ensures.items c.is_free.ensures c.recount-free.ensures c.prepares.ensures c.recount-prepared.ensures
          (c.in_ok-insert.ensures.entries ∙ index_push c.loop-slot.index _ _ c.loop-slot.invariant.loaded.numbered c.loop-slot.invariant.loaded.length_is);
    }

pub invariant_of-result : goal.invariant_of-result
invariant_of-result g c = record {
  index = loaded_index _ _ _ _ c.loop-slot.invariant.loaded (omega arith);
  slots = ap length (c.in_ok-by_number.ensures ∙ c.deref.ensures.value) ∙ c.loop-slot.invariant.numbers ∙ sym c.loop-slot.invariant.loaded.length_is;
  counted = subst (λ l. AreCounted l c.loop-slot.free c.loop-slot.prepared (values_of c.loop-slot.index.entries)) (sym (c.in_ok-by_number.ensures ∙ c.deref.ensures.value)) c.loop-slot.invariant.counted;
}
