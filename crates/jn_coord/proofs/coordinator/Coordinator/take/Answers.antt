use Rattle.jn_coord.proofs.Common.{subst, transaction_at, inquire_row, table_of}
use Rattle.jn_msgs.specs.Ranges.{FewWorks}
use Rattle.jn_coord.proofs.Rows.{tells, inquire-still}
use Rattle.jn_coord.proofs.coordinator.Coordinator.take.Goals as goal

pub end-requires-clause-few : goal.end-requires-clause-few
end-requires-clause-few g c = subst (λ m. FewWorks m) c.in-End.is c.requires.taken.few

pub returns-in-Inquire : goal.returns-in-Inquire
returns-in-Inquire g c = let at = transaction_at c.in-Inquire.tid c.args.self.now.transactions in let still = inquire-still (table_of c.args.self.now) c.args.tickets c.in-Inquire.tid c.in-Inquire.work at in
    rw c.in-Inquire.is (tells (inquire_row (table_of c.args.self.now) c.args.tickets c.in-Inquire.tid c.in-Inquire.work at) c.args.self.now _ c.args.out.now c.inquire.new.out c.inquire.result still.0 still.1 c.requires.fits (c.inquire.ensures c.args.tickets))
