use Rattle.jn_locks.proofs.Common.{◌≡◌, drop, ◌||◌, Mode, has, holds_in}
use Rattle.jn_locks.proofs.holders.modes_of.Given as goal

abbrev pub invariant-loop-h : goal.invariant-loop-h
invariant-loop-h l = (m : Mode) → (has l.modes m || holds_in (drop l.h-index l.all) l.work m) ≡ holds_in l.all l.work m
