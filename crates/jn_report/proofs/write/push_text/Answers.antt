use Rattle.std.proofs.Common.{codes, decimal}
use Rattle.jn_report.specs.Text.{client_word, tid_word}
use Rattle.jn_report.proofs.Appends.{appended_told}
use Rattle.jn_report.proofs.write.push_text.Goals as goal

pub returns-in_ok-push_told-in-Committed-clause-ok : goal.returns-in_ok-push_told-in-Committed-clause-ok
returns-in_ok-push_told-in-Committed-clause-ok c =
    let said = c.in-Committed in
    rw said.is (appended_told c.push_tid-in-Committed.result c.args.out.now.items (client_word said.client) (codes "committed") (decimal said.at) (tid_word said.tid) _ _
    c.in_ok-push_told-in-Committed.ensures.ok c.push_tid-in-Committed.ensures.ok)
