use Rattle.jn_recovery.proofs.Common.{◌≡◌, ◌≤◌, take, heads_needed}
use Rattle.jn_recovery.proofs.gathering.heads_needed.Given as goal

abbrev pub invariant-loop-intention : goal.invariant-loop-intention
invariant-loop-intention l = (l.heads ≡ heads_needed l.table.heads (take l.intention-index l.list)) × (l.heads ≤ l.intention-index)
