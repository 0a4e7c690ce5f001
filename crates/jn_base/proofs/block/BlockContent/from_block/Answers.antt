use Rattle.std.proofs.Common.{◌≡◌, ◌∙◌, List, ℕ, Result, Ok, Err, IfOk}
use Rattle.jn_base.proofs.Zeros.{zeros_behind}
use Rattle.jn_base.proofs.block.BlockContent.from_block.Goals as goal

same_where_ok : {E : Type 0} (r : Result (List ℕ) E) (made block : List ℕ) → IfOk r (λ c. c ≡ made) → made ≡ block → IfOk r (λ c. c ≡ block)
same_where_ok (Ok c) made block is same = is ∙ same
same_where_ok (Err e) made block is same = tt

pub new-requires : goal.new-requires
new-requires c = (zeros_behind 448 c.before_end_zeros.result.now c.args.block.now c.before_end_zeros.ensures c.told-block).0

pub returns : goal.returns
returns c =
    same_where_ok c.new.result _ c.args.block.now c.new.ensures
    (zeros_behind 448 c.before_end_zeros.result.now c.args.block.now c.before_end_zeros.ensures c.told-block).1
