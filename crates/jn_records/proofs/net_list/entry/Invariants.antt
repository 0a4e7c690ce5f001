use Rattle.jn_records.proofs.Common.{◌≡◌, drop, entry}
use Rattle.jn_records.proofs.net_list.entry.Given as goal

abbrev pub invariant-loop-intention : goal.invariant-loop-intention
invariant-loop-intention l = entry (drop l.intention-index l.list) l.f l.place ≡ entry l.list l.f l.place
