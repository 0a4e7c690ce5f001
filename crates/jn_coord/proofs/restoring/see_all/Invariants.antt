use Rattle.jn_coord.proofs.Common.{◌≡◌, drop, length, with_requests, clients_fit}
use Rattle.jn_coord.proofs.restoring.see_all.Given as goal

abbrev pub invariant-loop-flag : goal.invariant-loop-flag
invariant-loop-flag l = (length l.requests ≡ 256)
    × (with_requests l.requests (drop l.flag-index l.flags) ≡ with_requests l.fn.requests l.flags)
    × (clients_fit (drop l.flag-index l.flags) ≡ clients_fit l.flags)
