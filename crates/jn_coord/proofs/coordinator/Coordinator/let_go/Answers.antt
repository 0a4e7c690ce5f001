use Rattle.jn_coord.proofs.Common.{rules, sym, ◌∙◌, ap, is_ok, option_copied, going_in}
use Rattle.jn_coord.proofs.Room.{has_flag_at}
use Rattle.jn_coord.proofs.Fitting.{promise_for}
use Rattle.jn_coord.proofs.ClosingLemmas.{went-released, went-dropped, not-dropped}
use Rattle.jn_coord.proofs.coordinator.Coordinator.let_go.Goals as goal

pub release-requires-clause-promise : goal.release-requires-clause-promise
release-requires-clause-promise g c = λ voting. promise_for 0 _ _ c.args.tid c.in-Some.x.now c.requires.fits (ap option_copied (sym c.in-Some.is) ∙ c.find.ensures) (sym c.is_voting.ensures ∙ voting)

pub returns-then-not-is_committed : goal.returns-then-not-is_committed
returns-then-not-is_committed g c = λ x at. went-released _ _ _ c.args.tid c.in-Some.x.now x c.requires.fits (sym c.find.ensures ∙ ap option_copied c.in-Some.is) at (search rules) (rw (sym c.is_voting.ensures) c.release.ensures)

pub drop_flag-requires-clause-live : goal.drop_flag-requires-clause-live
drop_flag-requires-clause-live g c = has_flag_at _ _ c.args.tid c.in-Some.x.now c.requires.fits (sym c.find.ensures ∙ ap option_copied c.in-Some.is) (search rules)

pub returns-then-is_err : goal.returns-then-is_err
returns-then-is_err g c = λ x at. let found = sym c.find.ensures ∙ ap option_copied c.in-Some.is in not-dropped c.args.self.now _ _ c.args.tid c.in-Some.x.now x (is_ok c.drop_flag.result) found at (search rules) (sym (ap going_in found) ∙ c.requires.going) c.drop_flag.ensures.dropped (search rules)

pub returns : goal.returns
returns g c = λ x at. let found = sym c.find.ensures ∙ ap option_copied c.in-Some.is in went-dropped c.args.self.now _ _ c.args.tid c.in-Some.x.now x (is_ok c.drop_flag.result) found at (search rules) (sym (ap going_in found) ∙ c.requires.going) c.drop_flag.ensures.dropped (search rules)
