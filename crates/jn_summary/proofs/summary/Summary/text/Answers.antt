use Rattle.std.proofs.Common.{◌≡◌, ◌∙◌, ap, subst, List, ℕ, IfOk}
use Rattle.hex.specs.Hex.{encode_lower}
use Rattle.jn_summary.proofs.Taking.{told_of}
use Rattle.jn_summary.proofs.summary.Summary.text.Goals as goal

pub returns : goal.returns
returns c = λ ls has.
    let spelled = c.as_str.ensures.value ∙ c.in_ok-digest.ensures ∙ ap encode_lower c.as_slice.ensures in
    subst (λ (t : List ℕ). IfOk c.line_of.result (λ v. v.items ≡ t))
    (told_of c.args.self c.args.seed c.args.events c.as_str.result.now c.finalize.result c.finalize.ensures spelled ls has) c.line_of.ensures
