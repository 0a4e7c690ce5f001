use Rattle.jn_gen.proofs.Common.{◌∙◌, subst, List, ℕ, AllByRecursion, IsByte}
use Rattle.jn_gen.proofs.text.push_op.Goals as goal

pub returns-in-Write-clause-bytes : goal.returns-in-Write-clause-bytes
returns-in-Write-clause-bytes c =
    let bytes = subst (λ (b : List ℕ). AllByRecursion IsByte b) (c.as_slice.ensures ∙ c.to_block-bytes.ensures) c.push_write.ensures.bytes in
    rw c.in-Write.is (tt, (tt, (tt, (tt, (bytes, tt)))))
