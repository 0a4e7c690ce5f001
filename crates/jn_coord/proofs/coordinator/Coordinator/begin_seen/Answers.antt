use Rattle.jn_coord.proofs.Common.{rules, subst, Adds, begin_again, begun_by, table_of}
use Rattle.jn_coord.proofs.Beginnings.{begun-again}
use Rattle.jn_coord.proofs.coordinator.Coordinator.begin_seen.Goals as goal

pub returns : goal.returns
returns c = λ k. rw (begun-again c.args.self.now k c.args.client c.args.request c.requires.seen (search rules))
    (subst (λ xs. Adds (begin_again (table_of c.args.self.now) k c.args.client c.args.request (begun_by c.args.client c.args.request xs)).messages (begin_again (table_of c.args.self.now) k c.args.client c.args.request (begun_by c.args.client c.args.request xs)).notes c.args.out.now c.begin_again.result c.begin_again.new.out) (search rules) (c.begin_again.ensures (table_of c.args.self.now) k))
