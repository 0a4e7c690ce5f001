use Rattle.std.proofs.Common.{arith}
use Rattle.jn_files.proofs.Cutting.{cut_is}
use Rattle.jn_files.proofs.maps.cut_row.Goals as goal

pub returns : goal.returns
returns c = cut_is c.args.n c.args.old.now c.loop-k.row c.loop-k.invariant.long c.loop-k.invariant.kept (λ k low below. c.loop-k.invariant.cut k low (let n = c.loop-k.invariant.long in let m = c.told-old in omega arith))
