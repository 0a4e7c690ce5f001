use Rattle.jn_events.proofs.Common.{AreNew, IsClientOf, ◌≡◌, vec_len, All}
use Rattle.jn_events.proofs.starting.new_clients.Given as goal

abbrev pub invariant-loop-c : goal.invariant-loop-c
invariant-loop-c l = record { many : vec_len l.clients ≡ l.c; all : All (IsClientOf 0) l.clients.items; new : AreNew l.servers l.clients.items }
