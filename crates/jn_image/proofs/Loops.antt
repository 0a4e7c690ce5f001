-- One more page of a loop that goes over physical pages.
use Rattle.jn_image.proofs.Common.{◌≡◌, ◌<◌, ◌≤◌, ◌+◌, ◌*◌, ◌-◌, ℕ, suc, Bool, true, false, List, [], ◌∷◌, ◌++◌, length, get_or, drop, sym, ap, ◌∙◌, append_assoc, arith, length-drop, ◌&&◌, nat_le, nat_tests, Half, statuses_fit, half_in, halves_in}

next : (count i : ℕ) → i < count → count - i ≡ suc (count - (i + 1))
next count i lt = omega (arith, lt)

pub fewer : (count i : ℕ) (rest : List ℕ) → i < count → 513 * (count - i) ≤ length rest → 513 * (count - (i + 1)) ≤ length (drop 513 rest)
fewer count i rest lt enough = omega (arith, lt, enough, length-drop 513 rest)

module _ (count i : ℕ) (rest : List ℕ) (total : Bool) (lt : i < count) (so_far : statuses_fit (count - i) rest ≡ total) where
  pub status_over : 1 < get_or rest 0 0 → false ≡ total
  status_over over =
      sym (ap (λ n. statuses_fit n rest) (next count i lt) ∙ ap (λ b. b && statuses_fit (count - (i + 1)) (drop 513 rest)) (past (get_or rest 0 0) over)) ∙ so_far
    where
      past : (s : ℕ) → 1 < s → nat_le s 1 ≡ false
      past s h = grind (arith, nat_tests, h)

  pub status_within : get_or rest 0 0 ≤ 1 → statuses_fit (count - (i + 1)) (drop 513 rest) ≡ total
  status_within small =
      sym (ap (λ n. statuses_fit n rest) (next count i lt) ∙ ap (λ b. b && statuses_fit (count - (i + 1)) (drop 513 rest)) (fits (get_or rest 0 0) small)) ∙ so_far
    where
      fits : (s : ℕ) → s ≤ 1 → nat_le s 1 ≡ true
      fits s h = grind (arith, nat_tests, h)

pub half_read : (count i : ℕ) (front : List Half) (rest : List ℕ) (total : List Half) → i < count → front ++ halves_in (count - i) rest ≡ total → (front ++ half_in rest ∷ []) ++ halves_in (count - (i + 1)) (drop 513 rest) ≡ total
half_read count i front rest total lt so_far =
    append_assoc front (half_in rest ∷ []) (halves_in (count - (i + 1)) (drop 513 rest))
    ∙ ap (λ (hs : List Half). front ++ hs) (sym (ap (λ n. halves_in n rest) (next count i lt)))
    ∙ so_far
