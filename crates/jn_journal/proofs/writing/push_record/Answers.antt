use Rattle.std.proofs.Common.{◌++◌, ◌+◌, ℕ, List, length, refl, ap, ap₂, ◌∙◌}
use Rattle.jn_journal.specs.Format.{zeros_in}
use Rattle.jn_journal.proofs.Steps.{record-parts}
use Rattle.jn_journal.proofs.writing.push_record.Goals as goal

pub returns-clause-record : goal.returns-clause-record
returns-clause-record c =
    let chain = c.args.chain.now in let content = c.args.content.now in
    let d = c.digest_of-digest.ensures in
    c.in_ok-extend_from_slice-2.ensures.items
    ∙ ap (λ (v : List ℕ). v ++ content) (c.in_ok-extend_from_slice.ensures.items ∙ ap₂ (λ (v w : List ℕ). v ++ w) c.in_ok-push_header.ensures d)
    ∙ record-parts chain content c.args.out.now.items (32 + length content) (c.zeros_in.result + c.zeros_in-2.result) refl
    (ap₂ (λ (n m : ℕ). n + m) (c.zeros_in.ensures.count ∙ ap zeros_in d) c.zeros_in-2.ensures.count)
