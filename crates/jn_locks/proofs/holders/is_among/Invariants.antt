use Rattle.jn_locks.proofs.Common.{◌≡◌, drop, is_among}
use Rattle.jn_locks.proofs.holders.is_among.Given as goal

abbrev pub invariant-loop-h : goal.invariant-loop-h
invariant-loop-h l = is_among (drop l.h-index l.all) l.work ≡ is_among l.all l.work
