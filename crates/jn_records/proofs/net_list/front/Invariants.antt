use Rattle.jn_records.proofs.Common.{◌≡◌, ◌+◌, drop, front}
use Rattle.jn_records.proofs.net_list.front.Given as goal

abbrev pub invariant-loop-at : goal.invariant-loop-at
invariant-loop-at l = l.at + front l.new (drop l.at l.list) ≡ front l.new l.list
