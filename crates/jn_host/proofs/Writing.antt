-- What writes to a sink add up to, whether or not it tells its bytes.
use Rattle.std.specs.Prelude.{◌≡◌, ℕ, ◌+◌, List, ◌++◌, take, drop, Option, None, Some, Result, Ok}
use Rattle.std.specs.Io.KnownBytes.{append_known}
use Rattle.std.proofs.Math.Seq.{take-add}
use Rattle.std.proofs.Common.{arith, refl, ap, sym, ◌∙◌}
use Rattle.std.proofs.lemmas.Grind.{common_steps}
use Rattle.jn_host.specs.declared.Failed.{Failed}
use Rattle.jn_host.specs.Outside.{SinkWrote}

-- bytes taken after others
pub append_twice : (known : Option (List ℕ)) (xs ys : List ℕ) → append_known (append_known known xs) ys ≡ append_known known (xs ++ ys)
append_twice None xs ys = refl
append_twice (Some zs) xs ys = grind (arith, common_steps)

-- a write of the rest of a text, of which the first bytes were taken
pub writes_join : (first : Option (List ℕ)) (text : List ℕ) (at : ℕ) (taken : Option (List ℕ)) (faults : ℕ) (piece : List ℕ) (answer : Result ℕ Failed) (taken' : Option (List ℕ)) (faults' : ℕ) → taken ≡ append_known first (take at text) → SinkWrote taken faults piece answer taken' faults' → piece ≡ drop at text → (n : ℕ) → answer ≡ Ok n → taken' ≡ append_known first (take (at + n) text)
writes_join first text at taken faults piece answer taken' faults' start wrote rest n ok =
    wrote.took n ok ∙ ap (λ known. append_known known (take n piece)) start ∙ append_twice first (take at text) (take n piece) ∙ ap (append_known first) (ap (λ xs. take at text ++ take n xs) rest ∙ sym (take-add at n text))
