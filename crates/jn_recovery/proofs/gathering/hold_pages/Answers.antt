use Rattle.jn_recovery.proofs.Common.{◌+◌, sym, subst, take, rules, HoldsNamed, both_held, HoldsBoth}
use Rattle.jn_recovery.proofs.Gathered.{may_hold_both, hold_more}
use Rattle.jn_recovery.proofs.gathering.hold_pages.Goals as goal

pub hold_both-requires : goal.hold_both-requires
hold_both-requires c = subst (HoldsBoth c.loop-slot.table) (sym c.record_at.ensures) (may_hold_both c.args.table.now c.loop-slot.table c.args.sets.now c.loop-slot.slot (search rules) c.requires c.loop-slot.invariant)

pub loop-slot-preserved : goal.loop-slot-preserved
loop-slot-preserved c = subst (HoldsNamed c.args.table.now (take (c.loop-slot.slot + 1) c.args.sets.now)) (sym (c.hold_both.ensures))
    (subst (λ r. HoldsNamed c.args.table.now (take (c.loop-slot.slot + 1) c.args.sets.now) (both_held c.loop-slot.table r)) (sym c.record_at.ensures)
    (hold_more c.args.table.now c.loop-slot.table c.args.sets.now c.loop-slot.slot (search rules) c.requires c.loop-slot.invariant))
