use Rattle.std.proofs.Common.{arith}
use Rattle.jn_files.proofs.Cutting.{cut_is}
use Rattle.jn_files.proofs.slot.cut_maps.Goals as goal

pub returns : goal.returns
returns c = cut_is c.args.n c.args.old.now c.loop-j.maps c.loop-j.invariant.long c.loop-j.invariant.kept (λ k low below. c.loop-j.invariant.cut k low (let n = c.loop-j.invariant.long in let m = c.told-old in omega arith))
