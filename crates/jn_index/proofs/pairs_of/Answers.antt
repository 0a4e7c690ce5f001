use Rattle.std.proofs.Common.{arith}
use Rattle.jn_index.proofs.Taking.{all_first}
use Rattle.jn_index.proofs.pairs_of.Goals as goal

pub returns : goal.returns
returns c = let past = c.loop-slot-test.false in let few = c.requires in all_first c.args.numbers.now c.loop-slot.slot c.loop-slot.pairs.items (omega (arith, past, few)) c.loop-slot.invariant
