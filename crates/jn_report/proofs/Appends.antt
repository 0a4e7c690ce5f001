-- Appends, one after another.
use Rattle.std.proofs.Common.{◌≡◌, ℕ, List, [], ◌∷◌, ◌++◌, length, take, drop, ap, append_assoc, ◌∙◌, sym, arith, Result, Ok, Err, OnOk, OnErr}
use Rattle.std.proofs.lemmas.Grind.{common_steps}
use Rattle.std.proofs.lemmas.List.{take-append-drop}
use Rattle.std.proofs.Math.Seq.{take-append_seam}
use Rattle.jn_report.specs.Append.{IsFrontKept}
use Rattle.jn_report.specs.Text.{spaced}

-- two appends are one
pub appended_twice : (old x mid y new : List ℕ) → mid ≡ old ++ x → new ≡ mid ++ y → new ≡ old ++ (x ++ y)
appended_twice old x mid y new first second = second ∙ ap (λ (l : List ℕ). l ++ y) first ∙ append_assoc old x y

-- the same, where the two are the parts of a text
pub appended_whole : (old x mid y new whole : List ℕ) → whole ≡ x ++ y → mid ≡ old ++ x → new ≡ mid ++ y → new ≡ old ++ whole
appended_whole old x mid y new whole parts first second = appended_twice old x mid y new first second ∙ ap (λ (l : List ℕ). old ++ l) (sym parts)

-- what is kept of more is kept of what it began with
pub IsKept-after : (old text mid new : List ℕ) → mid ≡ old ++ text → IsFrontKept mid new → IsFrontKept old new
IsKept-after old text mid new appended kept =
    let rest = drop (length mid) new in
    let whole : new ≡ old ++ (text ++ rest) =
    appended_twice old text mid rest new appended (sym (take-append-drop (length mid) new) ∙ ap (λ (l : List ℕ). l ++ rest) kept) in
    ap (take (length old)) whole ∙ take-append_seam old (text ++ rest)

pub OnErr-always : {T E : Type 0} (r : Result T E) (P : Type 0) → P → OnErr r P
OnErr-always (Ok x) P holds = tt
OnErr-always (Err e) P holds = holds

-- the last of the appends of a line
pub appended_last : {T E : Type 0} (r : Result T E) (old x mid y new : List ℕ) → mid ≡ old ++ x → OnOk r (new ≡ mid ++ y) → OnOk r (new ≡ old ++ (x ++ y))
appended_last (Ok t) old x mid y new first second = appended_twice old x mid y new first second
appended_last (Err e) old x mid y new first second = tt

-- what a client is told of a transaction
pub appended_told : {T E : Type 0} (r : Result T E) (old client name at tid mid new : List ℕ) → mid ≡ old ++ (32 ∷ client ++ ((32 ∷ name ++ 32 ∷ []) ++ at)) → OnOk r (new ≡ mid ++ 32 ∷ tid) → OnOk r (new ≡ old ++ spaced (client ∷ name ∷ at ∷ tid ∷ []))
appended_told (Ok t) old client name at tid mid new first second = grind (arith, common_steps)
appended_told (Err e) old client name at tid mid new first second = tt
