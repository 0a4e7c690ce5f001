-- An entry that is taken out, and one that is inserted, where only the entries between both places move.
use Rattle.jn_index.proofs.Common.{◌≡◌, ◌<◌, ◌+◌, ℕ, zero, suc, List, [], ◌∷◌, length, refl, sym, ap, ◌∙◌, arith, get_or-set_other, get_or-insert_below, get_or-insert_above, insert, remove, slice_set, Entry, entry, entry_at}

pub turned_here : (xs : List Entry) (i : ℕ) (x : Entry) → i < length xs → slice_set xs i x ≡ insert (remove xs i) i x
turned_here [] i x lt = absurd (let no_way : ⊥ = omega (arith, lt) in no_way)
turned_here (y ∷ ys) zero x lt = refl
turned_here (y ∷ ys) (suc i) x lt = ap (λ l. y ∷ l) (turned_here ys i x (omega (arith, lt)))

-- the hole goes up by one
up_by_one : (xs : List Entry) (i : ℕ) (x : Entry) → i < length xs → slice_set (insert xs i (entry_at xs i)) (suc i) x ≡ insert xs (suc i) x
up_by_one [] i x lt = absurd (let no_way : ⊥ = omega (arith, lt) in no_way)
up_by_one (y ∷ ys) zero x lt = refl
up_by_one (y ∷ ys) (suc i) x lt = ap (λ l. y ∷ l) (up_by_one ys i x (omega (arith, lt)))

-- and down
down_by_one : (xs : List Entry) (i : ℕ) (x : Entry) → i < length xs → slice_set (insert xs (suc i) (entry_at xs i)) i x ≡ insert xs i x
down_by_one [] i x lt = absurd (let no_way : ⊥ = omega (arith, lt) in no_way)
down_by_one (y ∷ ys) zero x lt = refl
down_by_one (y ∷ ys) (suc i) x lt = ap (λ l. y ∷ l) (down_by_one ys i x (omega (arith, lt)))

-- the list with a hole at a place, whatever stands there
abbrev pub HasHole : List Entry → List Entry → ℕ → Type 0
HasHole list rest hole = (x : Entry) → slice_set list hole x ≡ insert rest hole x

pub hole_up : (list rest : List Entry) (hole : ℕ) (y : Entry) → hole < length rest → entry_at list (hole + 1) ≡ y → HasHole list rest hole → HasHole (slice_set list hole y) rest (hole + 1)
hole_up list rest hole y here is has x =
    let same : entry_at rest hole ≡ y = sym (get_or-insert_above rest hole y (entry 0 0) hole (omega arith) (omega (arith, here)))
    ∙ ap (λ (l : List Entry). entry_at l (hole + 1)) (sym (has y)) ∙ get_or-set_other list hole (hole + 1) y (entry 0 0) (λ e. let no_way : ⊥ = omega (arith, e) in no_way) ∙ is in
    let next : suc hole ≡ hole + 1 = omega arith in
    rw (← next)
    (ap (λ (l : List Entry). slice_set l (suc hole) x) (has y ∙ ap (insert rest hole) (sym same)) ∙ up_by_one rest hole x here)

pub hole_down : (list rest : List Entry) (hole : ℕ) (y : Entry) → hole < length rest → entry_at list hole ≡ y → HasHole list rest (hole + 1) → HasHole (slice_set list (hole + 1) y) rest hole
hole_down list rest hole y here is has x =
    let same : entry_at rest hole ≡ y = sym (get_or-insert_below rest (hole + 1) y (entry 0 0) hole (omega arith) (omega (arith, here)))
    ∙ ap (λ (l : List Entry). entry_at l hole) (sym (has y)) ∙ get_or-set_other list (hole + 1) hole y (entry 0 0) (λ e. let no_way : ⊥ = omega (arith, e) in no_way) ∙ is in
    let next : suc hole ≡ hole + 1 = omega arith in
    ap (λ (l : List Entry). slice_set l hole x) (has y ∙ ap (insert rest (hole + 1)) (sym same))
    ∙ rw (← next) (down_by_one rest hole x here)
