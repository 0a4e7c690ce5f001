use Rattle.jn_recovery.proofs.Common.{◌+◌, ◌-◌, ◌++◌, ◌∙◌, ap, List, arith, rules, intentions_from, StoredIntention}
use Rattle.jn_recovery.proofs.Gathered.{list_some, list_none}
use Rattle.jn_recovery.proofs.gathering.collect_list.Goals as goal
use Rattle.jn_recovery.proofs.gathering.collect_list.Goals.{in-Some+in_ok-push, in_default}

pub loop-order-preserved : goal.loop-order-preserved
loop-order-preserved c =
    let lt = c.loop-order-test.true in
    elim c.match-intention_of.branch [
      | in-Some+in_ok-push w ↦ list_some c.args.sets.now c.args.work c.loop-order.order c.args.count w.in-Some.intention c.loop-order.list.items c.match-intention_of.list.items _ (omega (arith, lt)) (search rules) (search rules) c.loop-order.invariant
      | in_default w ↦ ap (λ (l : List StoredIntention). l ++ intentions_from c.args.sets.now c.args.work (c.loop-order.order + 1) (c.args.count - (c.loop-order.order + 1))) (search rules)
          ∙ list_none c.args.sets.now c.args.work c.loop-order.order c.args.count c.loop-order.list.items _ (omega (arith, lt)) (search rules) c.loop-order.invariant
    ]
