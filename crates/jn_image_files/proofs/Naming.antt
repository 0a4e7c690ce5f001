-- Images of different servers have different names.
use Rattle.jn_image_files.proofs.Common.{◌≡◌, ℕ, ◌+◌, ◌<◌, List, [], ◌∷◌, ◌++◌, sym, ◌∙◌, arith, append_cancel_left, codes, decimal, image_name}
use Rattle.std.proofs.lemmas.Fmt.{decimal_digit}

one : (a b : ℕ) → (48 + a) ∷ [] ≡ (48 + b) ∷ [] → 48 + a ≡ 48 + b
one a b h = cc

pub same-server : (name : List ℕ) (a b : ℕ) → a < 10 → b < 10 → image_name name a ≡ image_name name b → a ≡ b
same-server name a b few less same =
    let digits = append_cancel_left (name ++ codes ".") (decimal a) (decimal b) same in
    let codes-same = one a b (sym (decimal_digit a few) ∙ digits ∙ decimal_digit b less) in
    omega (arith, codes-same)
