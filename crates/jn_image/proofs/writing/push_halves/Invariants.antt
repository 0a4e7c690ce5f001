use Rattle.std.proofs.Common.{◌≡◌, ◌++◌, drop}
use Rattle.jn_image.proofs.Halves.{written}
use Rattle.jn_image.proofs.writing.push_halves.Given as goal

-- what is pushed and what is still to be pushed are all
abbrev pub invariant-loop-half : goal.invariant-loop-half
invariant-loop-half l = l.out.items ++ written (drop l.half-index l.halves) ≡ l.fn.out.items ++ written l.halves
