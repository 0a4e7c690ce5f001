-- Values one after another, as a loop reads them.
use Rattle.std.proofs.Common.{◌≡◌, ℕ, suc, ◌-◌, ◌+◌, ◌≤◌, ◌<◌, List, [], ◌∷◌, ◌++◌, length, Option, Some, None, refl, sym, ap, ◌∙◌, append_assoc, arith, append-nil}
use Rattle.std.specs.Prelude.{flat_map}
use Rattle.std.specs.List.{AllByRecursion}
use Rattle.jn_fields.specs.Reading.{◌>>=◌, list_at}

-- what was read before, and what is still read
abbrev pub with_front : {X : Type 0} → List X → Option (List X × List ℕ) → Option (List X × List ℕ)
with_front front read = read >>= λ x. Some (front ++ x.0, x.1)

regroup : {X : Type 0} (front : List X) (x : X) (read : Option (List X × List ℕ)) → with_front front (read >>= λ y. Some (x ∷ y.0, y.1)) ≡ with_front (front ++ x ∷ []) read
regroup {X} front x (Some y) = ap (λ (xs : List X). Some (xs, y.1)) (sym (append_assoc front (x ∷ []) y.0))
regroup front x None = refl

pub goes_on : {X : Type 0} (read : List ℕ → Option (X × List ℕ)) (front : List X) (count i : ℕ) (bytes : List ℕ) (x : X) (after : List ℕ) (total : Option (List X × List ℕ)) → i < count → read bytes ≡ Some (x, after)
    → with_front front (list_at read (count - i) bytes) ≡ total → with_front (front ++ x ∷ []) (list_at read (count - (i + 1)) after) ≡ total
unfolding list_at
goes_on read front count i bytes x after total lt h so_far =
    let k : count - i ≡ suc (count - (i + 1)) = omega arith in
    let one : with_front front (list_at read (count - i) bytes) ≡ with_front (front ++ x ∷ []) (list_at read (count - (i + 1)) after) = rw (k, h) (regroup front x (list_at read (count - (i + 1)) after)) in
    sym one ∙ so_far

pub ends : {X : Type 0} (read : List ℕ → Option (X × List ℕ)) (front : List X) (count i : ℕ) (bytes : List ℕ) (total : Option (List X × List ℕ)) → i < count → read bytes ≡ None
    → with_front front (list_at read (count - i) bytes) ≡ total → total ≡ None
unfolding list_at
ends read front count i bytes total lt h so_far =
    let k : count - i ≡ suc (count - (i + 1)) = omega arith in
    let one : with_front front (list_at read (count - i) bytes) ≡ None = rw (k, h) refl in
    sym so_far ∙ one

pub is_done : {X : Type 0} (read : List ℕ → Option (X × List ℕ)) (front : List X) (count i : ℕ) (bytes : List ℕ) (total : Option (List X × List ℕ)) → count ≤ i → with_front front (list_at read (count - i) bytes) ≡ total → total ≡ Some (front, bytes)
unfolding list_at
is_done {X} read front count i bytes total le so_far =
    let k : count - i ≡ 0 = omega arith in
    let one : with_front front (list_at read (count - i) bytes) ≡ Some (front, bytes) = rw k (ap (λ (xs : List X). Some (xs, bytes)) (append-nil front)) in
    sym so_far ∙ one

-- what each value's reading gives back, a list's does
pub list_again : {X : Type 0} (f : X → List ℕ) (read : List ℕ → Option (X × List ℕ)) (P : X → Type 0) → ((x : X) (rest : List ℕ) → P x → read (f x ++ rest) ≡ Some (x, rest))
    → (xs : List X) (rest : List ℕ) → AllByRecursion P xs → list_at read (length xs) (flat_map f xs ++ rest) ≡ Some (xs, rest)
unfolding list_at
list_again f read P again [] rest all = refl
list_again f read P again (x ∷ xs) rest all =
    let k : length (x ∷ xs) ≡ suc (length xs) = omega arith in
    ap (λ (n : ℕ). list_at read n (flat_map f (x ∷ xs) ++ rest)) k
    ∙ ap (list_at read (suc (length xs))) (append_assoc (f x) (flat_map f xs) rest)
    ∙ rw (again x (flat_map f xs ++ rest) all.0, list_again f read P again xs rest all.1) refl
