use Rattle.std.proofs.Common.{◌∙◌, ◌++◌, ap, List, ℕ}
use Rattle.jn_report.specs.Text.{text_of}
use Rattle.jn_summary.proofs.Taking.{taken}
use Rattle.jn_summary.proofs.summary.Summary.take.Goals as goal

pub returns-clause-ok : goal.returns-clause-ok
returns-clause-ok c =
    let text = c.as_slice.ensures.value ∙ c.in_ok-push_line.ensures.ok ∙ ap (λ (t : List ℕ). t ++ text_of c.args.line.now) c.clear.ensures.items in
    taken c.args.self.now _ c.args.line.now c.as_slice.result.now c.with-self.ensures text c.update.ensures
