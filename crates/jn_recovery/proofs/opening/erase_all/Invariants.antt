use Rattle.jn_recovery.proofs.Common.{ℕ, ◌≤◌, ◌+◌, length, List, ServerNo, IsStanding, Head, Counts, rubbish_in, Erases}
use Rattle.jn_recovery.proofs.opening.erase_all.Given as goal

-- what is left falls by one each time
abbrev pub invariant-loop-slot : goal.invariant-loop-slot
invariant-loop-slot g l =
    (length (rubbish_in l.sets l.sets) + l._slot ≤ length l.fn.sets)
    × ((server : ServerNo) (c : Counts) (epoch : ℕ) (heads : List Head) (maps : List (List ℕ)) → IsStanding server c (g.S.StableStore.view l.fn.store) epoch l.fn.sets heads maps → Erases server c (g.S.StableStore.view l.fn.store) epoch heads maps l._slot l.fn.sets l.sets (g.S.StableStore.view l.store))
