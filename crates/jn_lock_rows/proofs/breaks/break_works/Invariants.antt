use Rattle.jn_lock_rows.proofs.Common.{◌≡◌, drop, after_breaks}
use Rattle.jn_lock_rows.proofs.breaks.break_works.Given as goal

abbrev pub invariant-loop-b : goal.invariant-loop-b
invariant-loop-b l = after_breaks l.by (drop l.b-index l.broken) l.works ≡ after_breaks l.by l.broken l.fn.works
