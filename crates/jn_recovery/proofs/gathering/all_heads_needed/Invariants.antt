use Rattle.jn_recovery.proofs.Common.{◌≡◌, ◌+◌, drop, all_needed}
use Rattle.jn_recovery.proofs.gathering.all_heads_needed.Given as goal

abbrev pub invariant-loop-state : goal.invariant-loop-state
invariant-loop-state l = l.heads + all_needed l.table.heads (drop l.state-index l.works) ≡ all_needed l.table.heads l.works
