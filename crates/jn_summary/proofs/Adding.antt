-- Lines added to a summary one by one.
use Rattle.std.proofs.Common.{◌≡◌, ℕ, ◌+◌, ◌<◌, List, [], ◌∷◌, ◌++◌, length, take, get_or, append_assoc, ◌∙◌, ap, sym, subst}
use Rattle.std.proofs.lemmas.List.{take_more}
use Rattle.jn_report.specs.declared.line.Line.{Line}
use Rattle.jn_summary.specs.declared.summary.Summary.{Summary}
use Rattle.jn_summary.specs.Taken.{HasTaken}
use Rattle.jn_summary.specs.Summing.{Adds}

pub one-more : (lines : List Line) (i : ℕ) (l : Line) (a b s : Summary) → i < length lines → l ≡ get_or lines i l → Adds a b (take i lines)
    → ((ls : List Line) → HasTaken b ls → HasTaken s (ls ++ l ∷ [])) → Adds a s (take (i + 1) lines)
one-more lines i l a b s here is before one = λ ls has.
    subst (λ (all : List Line). HasTaken s all)
    (append_assoc ls (take i lines) (l ∷ []) ∙ ap (λ (xs : List Line). ls ++ xs) (ap (λ (x : Line). take i lines ++ x ∷ []) is ∙ sym (take_more lines i l here)))
    (one (ls ++ take i lines) (before ls has))
