use Rattle.std.proofs.Common.{sym, ◌∙◌, arith}
use Rattle.jn_works.specs.Changing.{tallied}
use Rattle.jn_works.proofs.Edits.{changed_here}
use Rattle.jn_works.proofs.lists.tally.Goals as goal

pub returns-then-eq : goal.returns-then-eq
returns-then-eq c = changed_here c.args.name (tallied c.args.number c.args.answer) _ _ c.index.result.now c.index_mut.result.now _ (omega arith) c.index.ensures c.index_mut.ensures.value (sym c.eq.ensures ∙ c.if-eq.true) c.tally_phase.ensures ∙ c.loop-i.invariant
