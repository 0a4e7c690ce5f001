use Rattle.jn_sets.proofs.Common.{◌≡◌, ℕ, List, length, ◌∙◌, ap, arith, count_by-le-length, filter, count_by, Record, is_rubbish}
use Rattle.jn_sets.proofs.Slots.{values_passing, none_yet}
use Rattle.jn_sets.proofs.by_slot.Slots.rubbish_count.Goals as goal

pub loop-value-init : goal.loop-value-init
loop-value-init c =
    let entries = c.self.inside.index.entries in
    let all : c.into_iter-value-iterator.result ≡ entries = c.into_iter-value-iterator.ensures.into_iter_gives ∙ c.iter-value-items.ensures.rest in
    let most = count_by-le-length (is_rubbish c.args.self.now) c.args.self.now in
    let few = c.self.invariant.index.few in
    let long = ap length c.self.view_is in
    record {
      sum = none_yet _ _ (ap (λ (l : List (ℕ × Record)). length (filter (λ (m : ℕ × Record). is_rubbish c.args.self.now m.1) l)) all ∙ values_passing (is_rubbish c.args.self.now) entries ∙ ap (count_by (is_rubbish c.args.self.now)) c.self.view_is);
      few = omega arith;
    }
