use Rattle.std.proofs.Common.{inr, rules}
use Rattle.jn_recovery.proofs.opening.count_restart.Goals as goal

pub encode-requires : goal.encode-requires
encode-requires g c = inr (search rules)
