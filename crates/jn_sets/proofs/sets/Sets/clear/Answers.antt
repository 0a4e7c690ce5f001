use Rattle.jn_sets.proofs.Common.{◌≡◌, ◌<◌, Bool, true, false, not, List, length, sym, ◌∙◌, ap, subst, arith, Record, is_free, record_in, ones}
use Rattle.jn_sets.proofs.Rubbish.{sum_cleared, watched_cleared, at_most_one, still_free}
use Rattle.jn_sets.proofs.sets.Sets.clear.Goals as goal

pub recount-self-inside-requires-clause-some : goal.recount-self-inside-requires-clause-some
recount-self-inside-requires-clause-some c h =
    let below : c.args.slot < length c.self.inside.slots = subst (λ (l : List Record). c.args.slot < length l) (sym c.self.view_is) c.requires in
    let sum = (sum_cleared c.self.inside.slots c.self.inside.rubbish c.self.inside.clean c.self.inside.used c.self.invariant c.args.slot below c.take-old.new.self c.take-old.result c.is_rubbish-was.result c.kept_by.result
    c.take-old.ensures.left c.take-old.ensures.taken c.is_rubbish-was.ensures c.kept_by.ensures).0 in
    let one : ones c.is_rubbish-was.result ≡ 1 = ap ones h in
    omega arith

pub recount-self-inside-requires-clause-few : goal.recount-self-inside-requires-clause-few
recount-self-inside-requires-clause-few c =
    let below : c.args.slot < length c.self.inside.slots = subst (λ (l : List Record). c.args.slot < length l) (sym c.self.view_is) c.requires in
    let sum = sum_cleared c.self.inside.slots c.self.inside.rubbish c.self.inside.clean c.self.inside.used c.self.invariant c.args.slot below c.take-old.new.self c.take-old.result c.is_rubbish-was.result c.kept_by.result
    c.take-old.ensures.left c.take-old.ensures.taken c.is_rubbish-was.ensures c.kept_by.ensures in
    let all = sum.0 in
    let few = sum.1 in
    let one = at_most_one c.is_rubbish-was.result in
    omega arith

pub invariant_of-self : goal.invariant_of-self
invariant_of-self c =
    let below : c.args.slot < length c.self.inside.slots = subst (λ (l : List Record). c.args.slot < length l) (sym c.self.view_is) c.requires in
    watched_cleared c.self.inside.slots c.self.inside.rubbish c.self.inside.clean c.self.inside.used c.self.invariant c.args.slot below c.take-old.new.self c.take-old.result c.is_rubbish-was.result c.kept_by.result
    c.take-old.ensures.left c.take-old.ensures.taken c.is_rubbish-was.ensures c.kept_by.ensures c.recount-self-inside.result c.clean_without-self-inside.result c.used_without-self-inside.result c.recount-self-inside.ensures
    c.clean_without-self-inside.ensures.kept c.clean_without-self-inside.ensures.prepared c.used_without-self-inside.ensures.used c.used_without-self-inside.ensures.slot

pub returns-then-not-holds : goal.returns-then-not-holds
returns-then-not-holds c =
    let free : is_free (record_in c.args.self.now c.args.slot) ≡ true = turned (is_free (record_in c.args.self.now c.args.slot)) (sym c.holds.ensures ∙ cc c.if-not-holds.true) in
    still_free c.args.self.now c.args.slot free
  where
    turned : (b : Bool) → not b ≡ false → b ≡ true
    turned b h = grind (arith, h)
