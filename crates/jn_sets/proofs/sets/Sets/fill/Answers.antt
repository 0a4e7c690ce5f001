use Rattle.jn_sets.proofs.Common.{◌≡◌, ◌<◌, ◌-◌, List, length, sym, ◌∙◌, subst, arith, Record, Free, record_in}
use Rattle.jn_sets.proofs.Rubbish.{sum_filled, watched_filled, put_free}
use Rattle.jn_sets.proofs.sets.Sets.fill.Goals as goal

pub overflow_sub-self : goal.overflow_sub-self
overflow_sub-self c =
    let below : c.args.slot < length c.self.inside.slots = subst (λ (l : List Record). c.args.slot < length l) (sym c.self.view_is) c.requires.slot in
    let free : record_in c.self.inside.slots c.args.slot ≡ Free = subst (λ (l : List Record). record_in l c.args.slot ≡ Free) (sym c.self.view_is) c.requires.free in
    let sum = sum_filled c.self.inside.slots c.self.inside.rubbish c.self.inside.clean c.self.inside.used c.self.invariant c.args.slot below c.fill.new.self c.args.value c.is_rubbish-is.result c.kept_by-kept.result
    free c.fill.ensures c.is_rubbish-is.ensures c.kept_by-kept.ensures in
    let all = c.recount.ensures in
    omega arith

pub invariant_of-self : goal.invariant_of-self
invariant_of-self c =
    let below : c.args.slot < length c.self.inside.slots = subst (λ (l : List Record). c.args.slot < length l) (sym c.self.view_is) c.requires.slot in
    let free : record_in c.self.inside.slots c.args.slot ≡ Free = subst (λ (l : List Record). record_in l c.args.slot ≡ Free) (sym c.self.view_is) c.requires.free in
    let sum = sum_filled c.self.inside.slots c.self.inside.rubbish c.self.inside.clean c.self.inside.used c.self.invariant c.args.slot below c.fill.new.self c.args.value c.is_rubbish-is.result c.kept_by-kept.result
    free c.fill.ensures c.is_rubbish-is.ensures c.kept_by-kept.ensures in
    let all = c.recount.ensures in
    watched_filled c.self.inside.slots c.self.inside.rubbish c.self.inside.clean c.self.inside.used c.self.invariant c.args.slot below c.fill.new.self c.args.value c.is_rubbish-is.result c.kept_by-kept.result
    free c.fill.ensures c.is_rubbish-is.ensures c.kept_by-kept.ensures (c.recount.result - c.kept_by-kept.result) c.clean_with-self-inside.result c.used_with-self-inside.result (omega arith)
    c.clean_with-self-inside.ensures.kept (λ e. c.clean_with-self-inside.ensures.intention (c.intends-intended.ensures ∙ e)) (sym c.is_free.ensures ∙ c.if-is_free.false) c.used_with-self-inside.ensures

pub returns-then-is_free : goal.returns-then-is_free
returns-then-is_free c = put_free c.args.self.now c.args.slot c.args.value c.requires.free (sym c.is_free.ensures ∙ c.if-is_free.true)

pub used_with-self-inside-requires : goal.used_with-self-inside-requires
used_with-self-inside-requires c =
    let below : c.args.slot < length c.self.inside.slots = subst (λ (l : List Record). c.args.slot < length l) (sym c.self.view_is) c.requires.slot in
    let few = c.self.invariant.few in
    omega arith
