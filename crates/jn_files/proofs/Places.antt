-- Where a block stands in its map page, and the other way round.
use Rattle.jn_files.proofs.Common.{◌≡◌, Bool, false, ◌<◌, ◌≤◌, ◌+◌, ◌*◌, ◌/◌, ◌%◌, ℕ, suc, true, refl, ◌∙◌, arith, nat_tests, div-add-mod, mul-add-mod_self_left, mod-lt, mod-eq_of_lt, head_blocks, most_maps, most_blocks, is_in_range, Head, head_map, nat_lt, nat_eq, ◌||◌, if◌then◌else◌, range_of, cut_map}

parts : (q : ℕ) → head_blocks * (q / head_blocks) + q % head_blocks ≡ q
parts q = div-add-mod q head_blocks

pub entry_below : (q : ℕ) → q % head_blocks < head_blocks
entry_below q = mod-lt q {m = head_blocks} (omega arith)

-- a block past the head's stands in one of the map pages
pub range_below : (q : ℕ) → head_blocks ≤ q → q < most_blocks → range_of q < most_maps
range_below q high low = let whole = parts q in let rest = entry_below q in omega arith

pub block_at : (q : ℕ) → head_blocks ≤ q → head_blocks * (range_of q + 1) + q % head_blocks ≡ q
block_at q high = let whole = parts q in let rest = entry_below q in omega arith

pub in_its_range : (q : ℕ) → head_blocks ≤ q → is_in_range (range_of q) q ≡ true
in_its_range q high = let whole = parts q in let rest = entry_below q in let e : q / head_blocks ≡ range_of q + 1 = omega arith in grind (arith, nat_tests, e)

pub range_is : (j q : ℕ) → is_in_range j q ≡ true → (head_blocks ≤ q) × (range_of q ≡ j)
range_is j q e =
    let whole = parts q in let at : q / head_blocks ≡ j + 1 = grind (arith, nat_tests, e) in (omega arith, omega arith)

-- ---- entry k of map page j

module _ (j k : ℕ) (low : j < most_maps) (below : k < head_blocks) where
  pub at_high : head_blocks ≤ head_blocks * (j + 1) + k
  at_high = omega arith

  pub at_low : head_blocks * (j + 1) + k < most_blocks
  at_low = omega arith

  pub at_entry : (head_blocks * (j + 1) + k) % head_blocks ≡ k
  at_entry = mul-add-mod_self_left head_blocks (j + 1) k ∙ mod-eq_of_lt below

  pub at_range : range_of (head_blocks * (j + 1) + k) ≡ j
  at_range = let whole = parts (head_blocks * (j + 1) + k) in let e = at_entry in omega arith

-- where a cut falls inside of a map page there is one
pub cut_map_is : (n : ℕ) (h : Head) (d : ℕ) → cut_map n h ≡ suc d → (head_blocks ≤ n) × (head_map h (range_of n) ≡ suc d)
cut_map_is n h d e = by (nat_lt n head_blocks) refl (nat_eq (n % head_blocks) 0) e
  where
    by : (x : Bool) → nat_lt n head_blocks ≡ x → (y : Bool) → (if x || y then 0 else head_map h (range_of n)) ≡ suc d → (head_blocks ≤ n) × (head_map h (range_of n) ≡ suc d)
    by true t y e = absurd (omega (arith, e))
    by false t true e = absurd (omega (arith, e))
    by false t false e = (grind (arith, nat_tests, t), e)
