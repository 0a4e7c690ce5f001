use Rattle.jn_index.proofs.Common.{◌≡◌, Bool, true, false, refl, sym, ◌∙◌, not}
use Rattle.jn_index.proofs.Order.{after_from}
use Rattle.jn_index.proofs.none_is_before.Goals as goal

off : (b : Bool) → not b ≡ true → b ≡ false
off true e = absurd (cc e)
off false e = refl

pub returns : goal.returns
returns c e i le lt = after_from c.args.entries.now c.requires.rising c.args.sought c.args.place i lt (sym c.comes_before.ensures ∙ off c.comes_before.result e) le
