use Rattle.jn_coord.proofs.Common.{sym, ◌∙◌, ap, subst, option_copied, Ballot, noted, with_work, table_of, Does}
use Rattle.jn_coord.proofs.Rows.{same-ballot, ballot-few}
use Rattle.jn_coord.proofs.coordinator.Coordinator.ready.Goals as goal

pub count-requires-clause-few : goal.count-requires-clause-few
count-requires-clause-few g c = rw c.in_ok-more.ensures.ok (ballot-few c.args.tid _ c.in-Some.ballot.now c.requires.fits.ballots (ap option_copied (sym c.in-Some.is) ∙ c.ballot.ensures))

pub returns : goal.returns
returns g c = λ k x b at is. subst (λ z. Does (noted (table_of c.args.self.now) k x z) c.args.self.now (g.F.Storage.view c.args.store.now) c.args.out.now c.count.result c.count.new.self (g.F.Storage.view c.count.new.store) c.count.new.out)
    (c.in_ok-more.ensures.ok ∙ ap (λ (z : Ballot). record z { ready = with_work c.args.work z.ready }) (same-ballot _ x c.in-Some.ballot.now b (ap option_copied (sym c.in-Some.is) ∙ c.ballot.ensures) at is)) (c.count.ensures k x at)
