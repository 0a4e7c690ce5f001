use Rattle.std.proofs.Common.{sym, ◌∙◌, ap, arith}
use Rattle.jn_works.specs.Changing.{relisted, list_of}
use Rattle.jn_works.proofs.Edits.{changed_here, found_here, none_further}
use Rattle.jn_works.proofs.lists.swap_list.Goals as goal

pub returns-then-eq-clause-works : goal.returns-then-eq-clause-works
returns-then-eq-clause-works c = changed_here c.args.name (relisted c.args.list) _ _ c.index.result.now c.index_mut.result.now _ (omega arith) c.index.ensures c.index_mut.ensures.value (sym c.eq.ensures ∙ c.if-eq.true) c.swap_phase_list.ensures.phase ∙ c.loop-i.invariant.works

pub returns-then-eq-clause-list : goal.returns-then-eq-clause-list
returns-then-eq-clause-list c = c.swap_phase_list.ensures.list ∙ ap (λ o. list_of c.args.list o) (sym (found_here c.args.name c.loop-i.works.items c.loop-i.i c.index.result.now c.index_mut.result.now (omega arith) c.index.ensures c.index_mut.ensures.value (sym c.eq.ensures ∙ c.if-eq.true)) ∙ c.loop-i.invariant.found)

pub returns-clause-list : goal.returns-clause-list
returns-clause-list c = ap (λ o. list_of c.args.list o) (sym (none_further c.args.name c.loop-i.works.items c.loop-i.i (omega arith)) ∙ c.loop-i.invariant.found)
