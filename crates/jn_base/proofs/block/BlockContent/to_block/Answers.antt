use Rattle.std.proofs.Common.{◌≡◌, ◌++◌, ◌-◌, ℕ, List, length, drop, replicate, ap, ◌∙◌}
use Rattle.std.proofs.lemmas.List.{drop-replicate}
use Rattle.jn_base.proofs.block.BlockContent.to_block.Goals as goal

zeros_stay : (put bytes front : List ℕ) (size : ℕ) → front ≡ bytes → put ≡ front → put ++ drop (length front) (replicate size 0) ≡ bytes ++ replicate (size - length bytes) 0
zeros_stay put bytes front size same copied =
    ap (λ (xs : List ℕ). xs ++ drop (length front) (replicate size 0)) copied
    ∙ ap (λ (xs : List ℕ). front ++ xs) (drop-replicate (length front) size 0)
    ∙ ap (λ (xs : List ℕ). xs ++ replicate (size - length xs) 0) same

pub returns : goal.returns
returns c =
    zeros_stay c.copy_from_slice.new.self c.self.inside.bytes.value.items c.as_slice-bytes.result.now 448 (c.as_slice-bytes.ensures.value ∙ ap (λ (v : _). v.items) c.as_ref.ensures) c.copy_from_slice.ensures.after
    ∙ c.self.view_is
