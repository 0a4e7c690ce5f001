use Rattle.jn_records.proofs.Common.{◌≡◌, take, count_by, is_put_intention}
use Rattle.jn_records.proofs.net_list.puts_in.Given as goal

abbrev pub invariant-loop-intention : goal.invariant-loop-intention
invariant-loop-intention l = l.puts ≡ count_by is_put_intention (take l.intention-index l.list)
