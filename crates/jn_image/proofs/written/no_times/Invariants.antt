use Rattle.jn_image.proofs.Common.{◌≡◌, ◌++◌, ◌+◌, ◌-◌, replicate, no_times}
use Rattle.jn_image.proofs.written.no_times.Given as goal

abbrev pub invariant-loop : goal.invariant-loop
invariant-loop l = l.times.items ++ replicate (l.leaves + 1 - l.counter) 0 ≡ no_times l.leaves
