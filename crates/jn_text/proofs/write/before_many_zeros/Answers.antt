use Rattle.std.proofs.Common.{◌≡◌, ◌++◌, ◌-◌, ◌∙◌, ap, sym, ℕ, List, length, take, replicate}
use Rattle.std.proofs.lemmas.List.{take-append-drop}
use Rattle.std.specs.Cmp.Lexicographic.{same_text}
use Rattle.jn_text.specs.Words.{without_end_zeros}
use Rattle.jn_text.proofs.Zeros.{without_end_zeros-zeros}
use Rattle.jn_text.proofs.write.before_many_zeros.Goals as goal

pub loop-before-preserved : goal.loop-before-preserved
loop-before-preserved c =
    let used = c.loop-before.used.now in
    let first = take (length used - 32) used in
    let cases = c.in-Some.ensures.cases in
    let whole : first ++ replicate 32 0 ≡ used =
    ap (λ (l : List ℕ). first ++ l) (sym (same_text _ _ (sym cases.0))) ∙ take-append-drop (length used - 32) used in
    ap without_end_zeros cases.1
    ∙ sym (without_end_zeros-zeros first 32)
    ∙ ap without_end_zeros whole
    ∙ c.loop-before.invariant
