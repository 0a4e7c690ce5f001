use Rattle.jn_sets.proofs.Common.{◌≡◌, ◌-◌, ℕ, List, length, ◌∙◌, ap, sym, arith, count_by-le-length, filter, count_by, not, Record, intends_for, is_free}
use Rattle.jn_sets.proofs.Slots.{values_passing, values_others, none_yet}
use Rattle.jn_sets.proofs.Rubbish.{fewer_intend}
use Rattle.jn_sets.proofs.by_slot.Slots.intentions_of.Goals as goal

pub overflow_sub-left : goal.overflow_sub-left
overflow_sub-left c =
    let others = values_others is_free c.self.inside.index.entries in
    let free = c.self.invariant.counted.free_is in
    let long = ap length c.self.view_is in
    let slots = c.slots.ensures in
    let wide = c.from.ensures in
    omega arith

pub loop-value-init : goal.loop-value-init
loop-value-init c =
    let entries = c.self.inside.index.entries in
    let all : c.into_iter-value-iterator.result ≡ entries = c.into_iter-value-iterator.ensures.into_iter_gives ∙ c.iter-value-items.ensures.rest in
    let most = count_by-le-length (intends_for c.args.work) c.args.self.now in
    let few = c.self.invariant.index.few in
    let long = ap length c.self.view_is in
    let others = values_others is_free entries in
    let free = c.self.invariant.counted.free_is in
    let slots = c.slots.ensures in
    let wide = c.from.ensures in
    let used : (c.from.result - c.self.inside.free) ≡ length (filter (λ (m : ℕ × Record). not (is_free m.1)) entries) = omega arith in
    record {
      sum = none_yet _ _ (ap (λ (l : List (ℕ × Record)). length (filter (λ (m : ℕ × Record). intends_for c.args.work m.1) l)) all ∙ values_passing (intends_for c.args.work) entries ∙ ap (count_by (intends_for c.args.work)) c.self.view_is);
      few = omega arith;
      left = used ∙ ap (λ (l : List (ℕ × Record)). length (filter (λ (m : ℕ × Record). not (is_free m.1)) l)) (sym all);
    }

pub returns-then-left-eq0 : goal.returns-then-left-eq0
returns-then-left-eq0 c =
    let sum = c.loop-value.invariant.sum in
    let left = c.loop-value.invariant.left in
    let none = c.if-left-eq0.true in
    let fewer = fewer_intend c.args.work c.loop-value.value-iterator in
    omega arith
