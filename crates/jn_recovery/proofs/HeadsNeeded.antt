-- The heads that a list needs, counted of its intentions as they are stored.
use Rattle.jn_recovery.proofs.Common.{◌≡◌, ◌&&◌, ℕ, Bool, not, if◌then◌else◌, List, [], ◌∷◌, map, refl, sym, ap, arith, sum_by-cons, count_by, FileNo, exists, intended, Head, FullIntention, StoredIntention, is_fresh, needs_a_head, heads_needed}

pub heads_are : (blocks : ℕ → List ℕ) (heads : List Head) (there : FileNo → Bool) → ((f : FileNo) → exists heads f ≡ there f) → (list : List StoredIntention)
    → count_by (λ (i : FullIntention). needs_a_head (there i.file) i) (map (intended blocks) list) ≡ heads_needed heads list
heads_are blocks heads there same [] = refl
heads_are blocks heads there same (i ∷ list) =
    let again = heads_are blocks heads there same list in
    let a = sum_by-cons (λ (i : FullIntention). if needs_a_head (there i.file) i then 1 else 0) (intended blocks i) (map (intended blocks) list) in
    let b = sum_by-cons (λ (i : StoredIntention). if is_fresh i.what && not (exists heads i.file) then 1 else 0) i list in
    let here : (is_fresh i.what && not (there i.file)) ≡ (is_fresh i.what && not (exists heads i.file)) = ap (λ b. is_fresh i.what && not b) (sym (same i.file)) in
    grind (arith, again, a, b, here)
