use Rattle.jn_files.proofs.Common.{subst, TableView, NextFile}
use Rattle.jn_files.proofs.table.FileTable.next.Goals as goal

pub returns : goal.returns
returns c = subst (λ (x : TableView). NextFile x.heads c.args.after c.next.result) c.self.view_is c.next.ensures
