use Rattle.jn_coord.proofs.Common.{table_of}
use Rattle.jn_coord.proofs.Rows.{tells, waiting-still}
use Rattle.jn_coord.proofs.coordinator.Coordinator.counted_vote.Goals as goal

pub returns-in-Ready : goal.returns-in-Ready
returns-in-Ready g c = λ k x b at is. rw c.in-Ready.is (c.ready.ensures k x b at is)

pub returns-in-Waiting : goal.returns-in-Waiting
returns-in-Waiting g c = λ k x b at is. let still = waiting-still (table_of c.args.self.now) k x b c.args.work _ in rw c.in-Waiting.is (tells _ _ _ _ _ _ still.0 still.1 c.requires.fits (c.waiting.ensures (table_of c.args.self.now) k x b at is))
