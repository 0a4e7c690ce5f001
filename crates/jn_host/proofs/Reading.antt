-- What reads of a source give one after another, whether or not it tells its bytes.
use Rattle.std.specs.Prelude.{◌≡◌, ℕ, ◌<◌, List, ◌++◌, length, take, drop, Option, None, Some, Result, Ok}
use Rattle.std.specs.Io.KnownBytes.{prepend_known}
use Rattle.std.proofs.Common.{arith, refl, ap, sym, ◌∙◌}
use Rattle.std.proofs.lemmas.Grind.{common_steps}
use Rattle.jn_host.specs.declared.Failed.{Failed}
use Rattle.jn_host.specs.Outside.{SourceRead, Took}

-- what was left is what came, and then what is left
took_splits : (bytes room : List ℕ) (n : ℕ) (left : Option (List ℕ)) (room' : List ℕ) → Took bytes room n left room' → bytes ≡ take n room' ++ drop n bytes
took_splits bytes room n left room' took = grind (arith, common_steps)

prepend_twice : (xs ys : List ℕ) (known : Option (List ℕ)) → prepend_known xs (prepend_known ys known) ≡ prepend_known (xs ++ ys) known
prepend_twice xs ys None = refl
prepend_twice xs ys (Some zs) = grind (arith, common_steps)

-- the bytes that came, and then those that are left
pub read_gave : (left : Option (List ℕ)) (faults : ℕ) (room : List ℕ) (answer : Result ℕ Failed) (left' : Option (List ℕ)) (faults' : ℕ) (room' : List ℕ) → SourceRead left faults room answer left' faults' room' → (n : ℕ) → answer ≡ Ok n → left ≡ prepend_known (take n room') left'
read_gave None faults room answer left' faults' room' read n ok = grind (arith, read.untold refl)
read_gave (Some bytes) faults room answer left' faults' room' read n ok =
    let took = read.told n ok bytes refl in
    grind (arith, took.rest, took_splits bytes room n left' room' took)

-- a read after what earlier ones gave
pub reads_join : (first : Option (List ℕ)) (before : List ℕ) (left : Option (List ℕ)) (faults : ℕ) (room : List ℕ) (answer : Result ℕ Failed) (left' : Option (List ℕ)) (faults' : ℕ) (room' : List ℕ) → first ≡ prepend_known before left → SourceRead left faults room answer left' faults' room' → (n : ℕ) → answer ≡ Ok n → (after : List ℕ) → after ≡ before ++ take n room' → first ≡ prepend_known after left'
reads_join first before left faults room answer left' faults' room' start read n ok after joined =
    start ∙ ap (prepend_known before) (read_gave left faults room answer left' faults' room' read n ok) ∙ prepend_twice before (take n room') left' ∙ ap (λ xs. prepend_known xs left') (sym joined)

-- no byte came into room that isn't empty, so the earlier reads gave all
pub reads_end : (bytes before : List ℕ) (left : Option (List ℕ)) (faults : ℕ) (room : List ℕ) (answer : Result ℕ Failed) (left' : Option (List ℕ)) (faults' : ℕ) (room' : List ℕ) → Some bytes ≡ prepend_known before left → SourceRead left faults room answer left' faults' room' → answer ≡ Ok 0 → 0 < length room → before ≡ bytes
reads_end bytes before None faults room answer left' faults' room' start read ok some = grind arith
reads_end bytes before (Some rest) faults room answer left' faults' room' start read ok some =
    grind (arith, common_steps, (read.told 0 ok rest refl).ended some refl)
