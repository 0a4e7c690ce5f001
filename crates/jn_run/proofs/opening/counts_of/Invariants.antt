use Rattle.jn_run.proofs.Common.{◌≡◌, ◌++◌, map, drop, MemDisk, PageCounts}
use Rattle.jn_run.proofs.opening.counts_of.Given as goal

abbrev pub invariant-loop-store : goal.invariant-loop-store
invariant-loop-store l = l.counts.items ++ map (λ (x : MemDisk × PageCounts). x.1) (drop l.store-index l.stores) ≡ map (λ (x : MemDisk × PageCounts). x.1) l.stores
