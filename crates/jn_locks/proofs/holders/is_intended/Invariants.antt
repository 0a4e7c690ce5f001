use Rattle.jn_locks.proofs.Common.{◌≡◌, drop, IntentionWrite, holds_in}
use Rattle.jn_locks.proofs.holders.is_intended.Given as goal

abbrev pub invariant-loop-h : goal.invariant-loop-h
invariant-loop-h l = holds_in (drop l.h-index l.all) l.work IntentionWrite ≡ holds_in l.all l.work IntentionWrite
