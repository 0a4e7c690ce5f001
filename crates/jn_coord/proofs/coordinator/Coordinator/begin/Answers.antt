use Rattle.jn_coord.proofs.Common.{rules, begin_row, table_of}
use Rattle.jn_coord.proofs.Rows.{tells}
use Rattle.jn_coord.proofs.Beginnings.{begin-still, full-tickets}
use Rattle.jn_coord.proofs.coordinator.Coordinator.begin.Goals as goal

pub returns-then-seen-request-clause-does : goal.returns-then-seen-request-clause-does
returns-then-seen-request-clause-does g c = let still = begin-still (table_of c.args.self.now) c.args.tickets.now c.args.client c.args.request (search rules) in
    tells (begin_row (table_of c.args.self.now) c.args.tickets.now c.args.client c.args.request) c.args.self.now _ c.args.out.now c.begin_seen.new.out c.begin_seen.result still.0 still.1 c.requires.fits (c.begin_seen.ensures c.args.tickets.now)

pub returns-clause-drawn : goal.returns-clause-drawn
returns-clause-drawn g c = full-tickets c.begin_full.result c.args.self.now c.args.tickets.now c.args.client c.args.request (search rules) (search rules)
