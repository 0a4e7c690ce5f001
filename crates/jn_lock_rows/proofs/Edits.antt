-- Changing one work of a list.
use Rattle.jn_lock_rows.proofs.Common.{◌≡◌, ℕ, zero, suc, true, ◌≤◌, ◌<◌, List, [], ◌∷◌, ◌++◌, length, take, drop, slice_set, slice_index_or, Bool, false, Some, if◌then◌else◌, refl, ◌∙◌, ap, arith, WorkId, work_eq, Work, Phase, with_phase, work_at, rephased}

-- the work at place i has the name
pub set_at : (W : WorkId) (phase : Phase) (d : Work) (ws : List Work) (i : ℕ) → i < length ws → work_eq (slice_index_or ws i d).name W ≡ true
    → slice_set ws i (record (slice_index_or ws i d) { phase = phase }) ≡ take i ws ++ with_phase W phase (drop i ws)
set_at W phase d [] i h e = grind arith
set_at W phase d (w ∷ ws) zero h e = grind arith
set_at W phase d (w ∷ ws) (suc i) h e = let rest = set_at W phase d ws i (omega arith) e in grind (arith, rest)

-- no work has it
pub set_none : (W : WorkId) (phase : Phase) (ws : List Work) (i : ℕ) → length ws ≤ i → take i ws ++ with_phase W phase (drop i ws) ≡ ws
set_none W phase [] zero h = refl
set_none W phase [] (suc i) h = refl
set_none W phase (w ∷ ws) zero h = grind arith
set_none W phase (w ∷ ws) (suc i) h = let rest = set_none W phase ws i (omega arith) in grind (arith, rest)

pub rephased_at : (W : WorkId) (f : Phase → Phase) (d : Work) (ws : List Work) (i : ℕ) → i < length ws → work_eq (slice_index_or ws i d).name W ≡ true
    → slice_set ws i (record (slice_index_or ws i d) { phase = f (slice_index_or ws i d).phase }) ≡ take i ws ++ rephased W f (drop i ws)
rephased_at W f d [] i h e = grind arith
rephased_at W f d (w ∷ ws) zero h e = grind arith
rephased_at W f d (w ∷ ws) (suc i) h e = let rest = rephased_at W f d ws i (omega arith) e in grind (arith, rest)

pub rephased_none : (W : WorkId) (f : Phase → Phase) (ws : List Work) (i : ℕ) → length ws ≤ i → take i ws ++ rephased W f (drop i ws) ≡ ws
rephased_none W f [] zero h = refl
rephased_none W f [] (suc i) h = refl
rephased_none W f (w ∷ ws) zero h = grind arith
rephased_none W f (w ∷ ws) (suc i) h = let rest = rephased_none W f ws i (omega arith) in grind (arith, rest)

pub same_there : (ws : List Work) (i : ℕ) (d e : Work) → i < length ws → slice_index_or ws i d ≡ slice_index_or ws i e
same_there [] i d e h = absurd (omega arith)
same_there (w ∷ ws) zero d e h = refl
same_there (w ∷ ws) (suc i) d e h = same_there ws i d e (omega arith)

pub rephased_here : (W : WorkId) (f : Phase → Phase) (d : Work) (ws : List Work) (i : ℕ) (new : Phase) → i < length ws → work_eq (slice_index_or ws i d).name W ≡ true → new ≡ f (slice_index_or ws i d).phase
    → slice_set ws i (record (slice_index_or ws i d) { phase = new }) ≡ take i ws ++ rephased W f (drop i ws)
rephased_here W f d ws i new h e n = ap (λ (p : Phase). slice_set ws i (record (slice_index_or ws i d) { phase = p })) n ∙ rephased_at W f d ws i h e

-- the work that is found is put into its new phase
pub rephased-is : (W : WorkId) (f : Phase → Phase) (ws : List Work) (w : Work) → work_at W ws ≡ Some w → rephased W f ws ≡ with_phase W (f w.phase) ws
rephased-is W f [] w h = absurd (cc h)
rephased-is W f (x ∷ xs) w h = by (work_eq x.name W) h (rephased-is W f xs w)
  where
    by : (b : Bool) → (if b then Some x else work_at W xs) ≡ Some w → (work_at W xs ≡ Some w → rephased W f xs ≡ with_phase W (f w.phase) xs)
        → (if b then (record x { phase = f x.phase }) ∷ xs else x ∷ rephased W f xs) ≡ (if b then (record x { phase = f w.phase }) ∷ xs else x ∷ with_phase W (f w.phase) xs)
    by true e rest = let q : x ≡ w = cc e in ap (λ (p : Phase). (record x { phase = f p }) ∷ xs) (ap (λ (z : Work). z.phase) q)
    by false e rest = ap (λ (l : List Work). x ∷ l) (rest e)
