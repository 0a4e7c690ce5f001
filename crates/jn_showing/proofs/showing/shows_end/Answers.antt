use Rattle.std.proofs.Common.{sym, ap, not, ◌∙◌}
use Rattle.jn_showing.proofs.ShownLemmas.{not_so}
use Rattle.jn_showing.proofs.showing.shows_end.Goals as goal

pub returns-then-shows_all : goal.returns-then-shows_all
returns-then-shows_all c = (
  λ h. (c.shows_all.ensures.0 c.if-shows_all.true, sym c.shows_locked.ensures ∙ not_so c.shows_locked.result h),
  λ h. ap not (c.shows_locked.ensures ∙ h.1),
)
