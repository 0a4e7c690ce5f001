use Rattle.jn_sets.proofs.Common.{◌≡◌, length, values_of, AreCounted}
use Rattle.jn_sets.proofs.Loading.{LoadedTo}
use Rattle.jn_sets.proofs.by_slot.Slots.load.Given as goal

abbrev pub invariant-loop-slot : goal.invariant-loop-slot
invariant-loop-slot g l = record {
  loaded : LoadedTo (g.S.StableStore.view l.fn.store) l.slot l.index.entries (g.S.StableStore.view l.store);
  numbers : length l.numbers.items ≡ l.slot;
  counted : AreCounted l.numbers.items l.free l.prepared (values_of l.index.entries);
}
