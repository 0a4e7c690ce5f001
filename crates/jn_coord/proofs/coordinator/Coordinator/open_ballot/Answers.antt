use Rattle.jn_coord.proofs.Common.{rules, sym, ◌∙◌, ap, option_copied}
use Rattle.jn_coord.proofs.Ending.{ballot-opened}
use Rattle.jn_coord.proofs.coordinator.Coordinator.open_ballot.Goals as goal

pub returns : goal.returns
returns c = λ k x v at fits. ballot-opened _ _ _ c.args.tid k c.in-Some.x.now x c.args.ballot _ _ fits (sym c.find.ensures ∙ ap option_copied c.in-Some.is) at c.requires.open c.requires.few (rw (sym c.as_slice.ensures) (search rules)) c.set_stage.ensures
