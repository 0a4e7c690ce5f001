use Rattle.std.proofs.Common.{rules}
use Rattle.jn_coord.proofs.Rows.{voting-undecided, counted-on}
use Rattle.jn_coord.proofs.coordinator.Coordinator.count.Goals as goal

pub commit-requires-clause-undecided : goal.commit-requires-clause-undecided
commit-requires-clause-undecided g c = voting-undecided c.args.tid _ c.requires.voting

pub returns : goal.returns
returns g c = λ k x at. counted-on _ _ _ c.args.tid k x c.args.ballot _ c.requires.fits c.requires.voting at c.requires.few (search rules) c.set_stage.ensures
