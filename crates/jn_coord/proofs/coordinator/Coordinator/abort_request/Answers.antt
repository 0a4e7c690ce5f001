use Rattle.jn_coord.proofs.Common.{◌≡◌, None, rules, refl, transaction_at, table_of}
use Rattle.jn_coord.proofs.Rows.{tells}
use Rattle.jn_coord.proofs.coordinator.Coordinator.abort_request.Goals as goal

pub returns-in_default : goal.returns-in_default
returns-in_default g c = let none : transaction_at c.args.tid c.args.self.now.transactions ≡ None = search rules in
    rw none (tells _ _ _ _ _ _ refl refl c.requires.fits (c.tell_not_known.ensures (table_of c.args.self.now)))
