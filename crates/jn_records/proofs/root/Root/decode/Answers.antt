use Rattle.jn_records.proofs.Common.{◌≡◌, Some, replicate, ap, sym, subst, ◌∙◌, Root, root_page, IsRoot}
use Rattle.jn_records.proofs.Roots.{root_is_read, value_is}
use Rattle.jn_records.proofs.root.Root.decode.Goals as goal

pub returns-in_err-root-clause-only : goal.returns-in_err-root-clause-only
returns-in_err-root-clause-only c = λ root is e. let r = root_is_read c.args.page.now root is e in absurd (cc (r, c.in_err-root.ensures))

pub returns-then-is_of-clause-only : goal.returns-then-is_of-clause-only
returns-then-is_of-clause-only c = λ root is e.
    ap (λ (r : Root). Some r) (value_is c.in_ok-root.root root c.in_ok-root.field-0-1.now (replicate 496 0) (sym c.in_ok-root.ensures ∙ root_is_read c.args.page.now root is e))

pub returns-else-is_of-clause-only : goal.returns-else-is_of-clause-only
returns-else-is_of-clause-only c = λ root is e.
    let same : c.in_ok-root.root ≡ root = value_is c.in_ok-root.root root c.in_ok-root.field-0-1.now (replicate 496 0) (sym c.in_ok-root.ensures ∙ root_is_read c.args.page.now root is e) in
    absurd (cc (c.is_of.ensures.1 (subst IsRoot (sym same) is, e ∙ ap root_page (sym same)), c.if-is_of.false))
