use Rattle.std.proofs.Common.{◌≡◌, take, vec_capacity}
use Rattle.jn_intent.proofs.flags.copied.Given as goal

abbrev pub invariant-loop-work : goal.invariant-loop-work
invariant-loop-work l = (l.room.items ≡ take l.work-index l.flag.works) × (vec_capacity l.room ≡ vec_capacity l.initial.room)
