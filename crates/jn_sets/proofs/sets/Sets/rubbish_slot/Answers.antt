use Rattle.jn_sets.proofs.Common.{◌≡◌, List, true, false, sym, ◌∙◌, subst, arith, Record, is_rubbish, record_in, AreCleanTo}
use Rattle.jn_sets.proofs.Rubbish.{first_is, none_is, clean_more}
use Rattle.jn_sets.proofs.Slots.{none_found_where}
use Rattle.jn_sets.proofs.sets.Sets.rubbish_slot.Goals as goal

pub returns-then-not-has_rubbish-clause-first : goal.returns-then-not-has_rubbish-clause-first
returns-then-not-has_rubbish-clause-first c = none_found_where (is_rubbish c.args.self.now) c.args.self.now (sym c.has_rubbish.ensures ∙ cc c.if-not-has_rubbish.true)

pub loop-slot-init : goal.loop-slot-init
loop-slot-init c = subst (λ (l : List Record). AreCleanTo l c.self.inside.clean) c.self.view_is c.self.invariant.none_below

pub returns-then-is_rubbish_at-clause-first : goal.returns-then-is_rubbish_at-clause-first
returns-then-is_rubbish_at-clause-first c =
    let records = c.args.self.now in
    let here : is_rubbish records (record_in records c.loop-slot.slot) ≡ true = sym c.is_rubbish_at.ensures ∙ c.if-is_rubbish_at.true in
    let lt = c.loop-slot-test.true in
    let end = c.slots-slot-end.ensures in
    first_is (is_rubbish records) records c.loop-slot.slot (omega (arith, lt, end)) c.loop-slot.invariant here

pub returns-then-is_rubbish_at-clause-below : goal.returns-then-is_rubbish_at-clause-below
returns-then-is_rubbish_at-clause-below c = c.loop-slot.invariant

pub loop-slot-preserved : goal.loop-slot-preserved
loop-slot-preserved c =
    let records = c.args.self.now in
    let here : is_rubbish records (record_in records c.loop-slot.slot) ≡ false = sym c.is_rubbish_at.ensures ∙ c.if-is_rubbish_at.false in
    clean_more records c.loop-slot.slot c.loop-slot.invariant here

pub returns-clause-first : goal.returns-clause-first
returns-clause-first c =
    let records = c.args.self.now in
    let past = c.loop-slot-test.false in
    let end = c.slots-slot-end.ensures in
    none_is (is_rubbish records) records (λ k lt. c.loop-slot.invariant k (omega (arith, past, end, lt)))
