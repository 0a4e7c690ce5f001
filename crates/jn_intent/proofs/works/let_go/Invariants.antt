use Rattle.jn_intent.proofs.Common.{◌≡◌, drop, pages_let_go, MayLetGo}
use Rattle.jn_intent.proofs.works.let_go.Given as goal

abbrev pub invariant-loop-intention : goal.invariant-loop-intention
invariant-loop-intention l = (pages_let_go (drop l.intention-index l.list) l.table ≡ pages_let_go l.list l.initial.table) × MayLetGo (drop l.intention-index l.list) l.table
