use Rattle.std.proofs.Common.{sym, ◌∙◌, arith}
use Rattle.jn_rows.specs.Worker as rows
use Rattle.jn_works.proofs.Edits.{changed_here}
use Rattle.jn_works.proofs.works.expose.Goals as goal

pub returns-then-eq : goal.returns-then-eq
returns-then-eq c = changed_here c.args.name rows.vulnerable _ _ c.index.result.now c.index_mut.result.now _ (omega arith) c.index.ensures c.index_mut.ensures.value (sym c.eq.ensures ∙ c.if-eq.true) c.make_vulnerable.ensures ∙ c.loop-i.invariant
