use Rattle.jn_intent.proofs.Common.{◌≡◌, drop, map, work_eq, is_in, name_of}
use Rattle.jn_intent.proofs.works.index_of.Given as goal

abbrev pub invariant-loop-i : goal.invariant-loop-i
invariant-loop-i l = is_in work_eq l.work (map name_of (drop l.i l.works)) ≡ is_in work_eq l.work (map name_of l.works)
