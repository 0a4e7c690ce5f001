use Rattle.jn_locks.proofs.Common.{◌≡◌, ◌++◌, drop, at}
use Rattle.jn_locks.proofs.Listing.{all_locks}
use Rattle.jn_locks.proofs.held.Held.holders.Given as goal

abbrev pub invariant-loop-h : goal.invariant-loop-h
invariant-loop-h l = l.locks.items ++ all_locks (drop l.h-index (at l.self.units l.fn.unit)) ≡ all_locks (at l.self.units l.fn.unit)
