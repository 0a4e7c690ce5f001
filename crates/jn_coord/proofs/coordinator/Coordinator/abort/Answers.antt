use Rattle.jn_coord.proofs.Common.{rules, sym, ◌∙◌, ap, option_copied}
use Rattle.jn_coord.proofs.Fitting.{promise_for}
use Rattle.jn_coord.proofs.Rows.{aborted-found}
use Rattle.jn_coord.proofs.coordinator.Coordinator.abort.Goals as goal

pub release-requires-clause-promise : goal.release-requires-clause-promise
release-requires-clause-promise g c = λ voting. promise_for 0 _ _ c.args.tid c.in-Some.x.now c.requires.fits (ap option_copied (sym c.in-Some.is) ∙ c.find.ensures) (sym c.is_voting.ensures ∙ voting)

pub returns : goal.returns
returns g c = λ k x at undecided. aborted-found _ _ _ _ c.args.tid k c.in-Some.x.now x _ _ _ _ c.requires.fits (sym c.find.ensures ∙ ap option_copied c.in-Some.is) at undecided (rw (sym c.is_voting.ensures) c.release.ensures) (search rules) c.set_stage.ensures
