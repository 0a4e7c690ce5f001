use Rattle.jn_coord.proofs.Common.{sym, ◌∙◌, ap, option_copied}
use Rattle.jn_coord.proofs.Rows.{works-found}
use Rattle.jn_coord.proofs.coordinator.Coordinator.done.Goals as goal

pub settle-requires-clause-same : goal.settle-requires-clause-same
settle-requires-clause-same g c = rw c.in_ok-more.ensures.ok (works-found c.args.tid _ c.in-Some.x.now c.in-Committed.d (sym c.find.ensures ∙ ap option_copied c.in-Some.is) c.in-Committed.is)
