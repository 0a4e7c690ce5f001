use Rattle.jn_sets.proofs.Common.{sym, ◌∙◌, ap, kept_by}
use Rattle.jn_sets.proofs.by_slot.Slots.kept_by.Goals as goal

pub returns-in-Ready : goal.returns-in-Ready
returns-in-Ready c = c.left_of.ensures ∙ ap (kept_by c.args.self.now) (sym c.in-Ready.is)

pub returns-in-Going : goal.returns-in-Going
returns-in-Going c = c.left_of-in-Going.ensures ∙ ap (kept_by c.args.self.now) (sym c.in-Going.is)
