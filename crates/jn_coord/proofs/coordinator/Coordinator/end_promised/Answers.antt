use Rattle.jn_coord.proofs.Common.{sym, ◌∙◌, subst, commit_row, table_of, Does, ballot_row}
use Rattle.jn_coord.proofs.Ending.{open-undecided, none-of, ended-with}
use Rattle.jn_coord.proofs.coordinator.Coordinator.end_promised.Goals as goal

pub commit-requires-clause-undecided : goal.commit-requires-clause-undecided
commit-requires-clause-undecided g c = open-undecided c.args.tid _ c.requires.open

pub returns-then-is_empty : goal.returns-then-is_empty
returns-then-is_empty g c = λ k x at. rw (none-of c.args.works.now (rw (sym c.as_slice.ensures) (sym c.is_empty.ensures ∙ c.if-is_empty.true)))
    (subst (λ ws. Does (commit_row (table_of c.args.self.now) k x c.args.request ws) c.args.self.now (g.F.Storage.view c.args.store.now) c.args.out.now c.commit.result c.commit.new.self (g.F.Storage.view c.commit.new.store) c.commit.new.out)
    (c.from_vec-none.ensures ∙ c.new.ensures.items) (c.commit.ensures k x at))

pub returns : goal.returns
returns g c = λ k x at. rw (ended-with (table_of c.args.self.now) k x c.args.request c.args.works.now (rw (sym c.as_slice.ensures) (sym c.is_empty.ensures ∙ c.if-is_empty.false)))
    (subst (λ b. Does (ballot_row (table_of c.args.self.now) k x b) c.args.self.now (g.F.Storage.view c.args.store.now) c.args.out.now c.open_ballot.result c.open_ballot.new.self (g.F.Storage.view c.args.store.now) c.open_ballot.new.out)
    c.in_ok-ballot.ensures.ok (c.open_ballot.ensures k x _ at c.requires.fits))
