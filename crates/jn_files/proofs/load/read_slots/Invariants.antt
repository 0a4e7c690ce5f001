use Rattle.jn_files.proofs.Common.{counts_of}
use Rattle.jn_files.proofs.Loading.{ReadTo}
use Rattle.jn_files.proofs.load.read_slots.Given as goal

abbrev pub invariant-loop-slot : goal.invariant-loop-slot
invariant-loop-slot g l = ReadTo (counts_of l.root) (g.S.StableStore.view l.fn.store) l.slot l.slots.items (g.S.StableStore.view l.store)
