use Rattle.std.proofs.Common.{◌++◌, ◌-◌, ℕ, List, length, replicate, ap, sym, ◌∙◌}
use Rattle.jn_base.proofs.block.BlockContent.first_bytes.Goals as goal

pub returns : goal.returns
returns c = sym (ap (λ (xs : List ℕ). xs ++ replicate (448 - length xs) 0) (c.as_slice.ensures.value ∙ ap (λ (v : _). v.items) c.as_ref.ensures) ∙ c.self.view_is)
