-- Names in rising order.
use Rattle.jn_worker.proofs.Common.{◌≡◌, ◌<◌, ℕ, zero, suc, Bool, true, false, List, [], ◌∷◌, length, take, slice_index_or, if◌then◌else◌, refl, ◌∙◌, arith, ◌||◌, WorkId, work_eq, work_tells, work_before, work_before-irreflexive, work_before-transitive, work_before-total, is_name_after, is_in, are_different, placed, sorted_into, sorted, comes_before, names_rise}

in-placed : (W U : WorkId) (Vs : List WorkId) → is_in work_eq U (placed W Vs) ≡ (work_eq W U || is_in work_eq U Vs)
in-placed W U [] = refl
in-placed W U (V ∷ Vs) = let again = in-placed W U Vs in grind arith

comes-placed : (X W : WorkId) (Vs : List WorkId) → work_before X W ≡ true → comes_before X Vs ≡ true → comes_before X (placed W Vs) ≡ true
comes-placed X W [] b h = grind arith
comes-placed X W (V ∷ Vs) b h = let again = comes-placed X W Vs b in grind (arith, h, b)

comes-on : (W V : WorkId) (Vs : List WorkId) → work_before W V ≡ true → comes_before V Vs ≡ true → comes_before W Vs ≡ true
comes-on W V [] b h = refl
comes-on W V (U ∷ Vs) b h = let again = comes-on W V Vs b in let t = work_before-transitive W V U b in grind (arith, h)

rise-placed : (W : WorkId) (Vs : List WorkId) → is_in work_eq W Vs ≡ false → names_rise Vs ≡ true → names_rise (placed W Vs) ≡ true
rise-placed W [] new h = refl
rise-placed W (V ∷ Vs) new h = by (work_before V W) refl (rise-placed W Vs)
  where
    by : (b : Bool) → work_before V W ≡ b → (is_in work_eq W Vs ≡ false → names_rise Vs ≡ true → names_rise (placed W Vs) ≡ true) → names_rise (if b then V ∷ placed W Vs else W ∷ V ∷ Vs) ≡ true
    by true e again = let c = comes-placed V W Vs e in let r = again (grind (arith, new)) (grind (arith, h)) in grind (arith, h)
    by false e again = let first = before (work_before W V) refl in let c = comes-on W V Vs first in grind (arith, h)
      where
        before : (b : Bool) → work_before W V ≡ b → b ≡ true
        before true f = refl
        before false f = let same = work_before-total V W e f in let t = work_tells V W in grind (arith, new)

in-sorted : (names Ws : List WorkId) (U : WorkId) → is_in work_eq U (sorted_into names Ws) ≡ (is_in work_eq U names || is_in work_eq U Ws)
in-sorted names [] U = grind arith
in-sorted names (W ∷ Ws) U = in-sorted (placed W names) Ws U ∙ (let p = in-placed W U names in grind arith)

rise-sorted : (names Ws : List WorkId) → names_rise names ≡ true → are_different work_eq Ws ≡ true → ((U : WorkId) → is_in work_eq U Ws ≡ true → is_in work_eq U names ≡ false) → names_rise (sorted_into names Ws) ≡ true
rise-sorted names [] h d new = h
rise-sorted names (W ∷ Ws) h d new = rise-sorted (placed W names) Ws (rise-placed W names (new W (let t = work_tells W W in grind arith)) h) (grind (arith, d))
    (λ U u. in-placed W U names ∙ (let n = new U (grind (arith, u)) in let t = work_tells W U in other U (work_eq W U) refl u n))
  where
    other : (U : WorkId) (b : Bool) → work_eq W U ≡ b → is_in work_eq U Ws ≡ true → is_in work_eq U names ≡ false → (b || is_in work_eq U names) ≡ false
    other U false e u n = n
    other U true e u n = let t = work_tells W U in grind (arith, d, e, u)

pub sorted-in : (Ws : List WorkId) (U : WorkId) → is_in work_eq U (sorted Ws) ≡ is_in work_eq U Ws
sorted-in Ws U = in-sorted [] Ws U

pub sorted-rise : (Ws : List WorkId) → are_different work_eq Ws ≡ true → names_rise (sorted Ws) ≡ true
sorted-rise Ws d = rise-sorted [] Ws refl d (λ U u. refl)

comes-in : (W U : WorkId) (Vs : List WorkId) → comes_before W Vs ≡ true → is_in work_eq U Vs ≡ true → work_before W U ≡ true
comes-in W U (V ∷ Vs) h u = let again = comes-in W U Vs in let t = work_tells V U in grind (arith, h, u)
comes-in W U [] h u = absurd (cc u)

pub rise-different : (Ws : List WorkId) → names_rise Ws ≡ true → are_different work_eq Ws ≡ true
rise-different [] h = refl
rise-different (W ∷ Ws) h = let again = rise-different Ws in let out = not_in (is_in work_eq W Ws) refl in grind (arith, h)
  where
    not_in : (b : Bool) → is_in work_eq W Ws ≡ b → b ≡ false
    not_in false e = refl
    not_in true e = let c = comes-in W W Ws in let i = work_before-irreflexive W in grind (arith, h, e)

comes-at : (W : WorkId) (Vs : List WorkId) (i : ℕ) (d : WorkId) → i < length Vs → comes_before W Vs ≡ true → work_before W (slice_index_or Vs i d) ≡ true
comes-at W [] i d lt h = absurd (omega (arith, lt))
comes-at W (V ∷ Vs) zero d lt h = grind (arith, h)
comes-at W (V ∷ Vs) (suc i) d lt h = comes-at W Vs i d (omega (arith, lt)) (grind (arith, h))

-- each name comes after those before it
pub after-front : (Ws : List WorkId) (i : ℕ) (d : WorkId) → i < length Ws → names_rise Ws ≡ true → is_name_after (slice_index_or Ws i d) (take i Ws) ≡ true
after-front [] i d lt h = absurd (omega (arith, lt))
after-front (W ∷ Ws) zero d lt h = refl
after-front (W ∷ Ws) (suc i) d lt h = let again = after-front Ws i d (omega (arith, lt)) (grind (arith, h)) in let c = comes-at W Ws i d (omega (arith, lt)) (grind (arith, h)) in grind arith
