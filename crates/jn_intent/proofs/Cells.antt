-- The cells of a layout once an intention is carried out: by another head, or by another map page.
use Rattle.jn_intent.proofs.Common.{◌≡◌, ◌≢◌, ⊎_elim, ◌<◌, ◌≤◌, ◌+◌, ◌-◌, ◌*◌, ◌/◌, ◌%◌, ℕ, zero, suc, Bool, true, false, ◌&&◌, if◌then◌else◌, List, length, refl, sym, ◌∙◌, ap, true≢false, arith, cases_eq, cases_lt, nat_tests, get_or-set_same, get_or-set_other, nat_le, nat_eq, nat_lt, slice_set, slice_index, replicate, head_blocks, most_blocks, cut_addresses, most_maps, kept_maps, cut_kept, cut_gone, laid, through, map_cell, with_entries, cut_inside, is_in_range, keeps_map, laid-block, laid-entry, laid-map}

when_true : (b : Bool) (x y : ℕ) → b ≡ true → (if b then x else y) ≡ x
when_true b x y e = ap (λ b. if b then x else y) e

when_false : (b : Bool) (x y : ℕ) → b ≡ false → (if b then x else y) ≡ y
when_false b x y e = ap (λ b. if b then x else y) e

-- ---- ranges of blocks

-- a block past the last map page that a cut keeps
past_kept : (n q : ℕ) → 120 ≤ q → (n - 1) / 120 ≤ q / 120 - 1 → n ≤ q
past_kept n q high le = omega arith

keeps_low : (n j : ℕ) → j < (n - 1) / 120 → nat_lt (120 * (j + 1)) n ≡ true
keeps_low n j lt = let h : 120 * (j + 1) < n = omega arith in grind (arith, nat_tests, h)

keeps_high : (n j : ℕ) → (n - 1) / 120 ≤ j → nat_lt (120 * (j + 1)) n ≡ false
keeps_high n j le = let h : n ≤ 120 * (j + 1) = omega arith in grind (arith, nat_tests, h)

one_block : (p q : ℕ) → p / 120 ≡ q / 120 → p % 120 ≡ q % 120 → p ≡ q
one_block p q range entry = omega arith

in_range : (j q : ℕ) → is_in_range j q ≡ true → q / 120 ≡ j + 1
in_range j q h = grind (arith, nat_tests, h)

pub is_range : (j q : ℕ) → q / 120 ≡ j + 1 → is_in_range j q ≡ true
is_range j q h = grind (arith, nat_tests, h)

equal_so : (p q : ℕ) → p ≡ q → nat_eq p q ≡ true
equal_so p q e = grind (arith, nat_tests, e)

differ_so : (p q : ℕ) → p ≢ q → nat_eq p q ≡ false
differ_so p q ne = grind (arith, nat_tests, ne)

is_below : (q : ℕ) → q < most_blocks → nat_lt q most_blocks ≡ true
is_below q lt = grind (arith, nat_tests, lt)

entry_below : (q : ℕ) → q % 120 < 120
entry_below q = omega arith

pub zeros_at : (n p : ℕ) → slice_index (replicate n 0) p ≡ 0
zeros_at zero p = refl
zeros_at (suc n) zero = refl
zeros_at (suc n) (suc p) = zeros_at n p

-- ---- another head

module _ (maps : ℕ → ℕ → ℕ) (xs ms : List ℕ) where
  abbrev cells : List ℕ → List ℕ → ℕ → ℕ
  cells xs ms q = laid maps (λ p. slice_index xs p) (λ j. slice_index ms j) q

  -- the blocks of a head that is cut, where no block from there on has its address in a map page that stays
  pub cut_cell : (n : ℕ) → ((q : ℕ) → 120 ≤ q → q < most_blocks → n ≤ q → q / 120 - 1 < (n - 1) / 120 → laid maps (λ p. slice_index xs p) (λ j. slice_index ms j) q ≡ 0) → (q : ℕ) → q < most_blocks
      → laid maps (λ p. slice_index (cut_addresses n xs) p) (λ j. slice_index (cut_addresses (kept_maps n) ms) j) q ≡ (if nat_le n q then 0 else laid maps (λ p. slice_index xs p) (λ j. slice_index ms j) q)
  cut_cell n inside q below = ⊎_elim in_head in_map (cases_lt q head_blocks)
    where
      less : q < n → nat_le n q ≡ false
      less lt = grind (arith, nat_tests, lt)

      not_less : n ≤ q → nat_le n q ≡ true
      not_less le = grind (arith, nat_tests, le)

      in_head : q < head_blocks → cells (cut_addresses n xs) (cut_addresses (kept_maps n) ms) q ≡ (if nat_le n q then 0 else cells xs ms q)
      in_head low = laid-block maps (λ p. slice_index (cut_addresses n xs) p) (λ j. slice_index (cut_addresses (kept_maps n) ms) j) q low ∙ ⊎_elim
          (λ lt. cut_kept n xs q lt ∙ sym (laid-block maps (λ p. slice_index xs p) (λ j. slice_index ms j) q low) ∙ sym (when_false (nat_le n q) 0 (cells xs ms q) (less lt)))
          (λ le. cut_gone n xs q le ∙ sym (when_true (nat_le n q) 0 (cells xs ms q) (not_less le)))
          (cases_lt q n)

      in_map : head_blocks ≤ q → cells (cut_addresses n xs) (cut_addresses (kept_maps n) ms) q ≡ (if nat_le n q then 0 else cells xs ms q)
      in_map high = laid-entry maps (λ p. slice_index (cut_addresses n xs) p) (λ j. slice_index (cut_addresses (kept_maps n) ms) j) q high below ∙ ⊎_elim kept gone (cases_lt (q / 120 - 1) ((n - 1) / 120))
        where
          kept : q / 120 - 1 < (n - 1) / 120 → through maps (slice_index (cut_addresses (kept_maps n) ms) (q / 120 - 1)) (q % 120) ≡ (if nat_le n q then 0 else cells xs ms q)
          kept lt = ap (λ (a : ℕ). through maps a (q % 120)) (cut_kept (kept_maps n) ms (q / 120 - 1) lt) ∙ sym (laid-entry maps (λ p. slice_index xs p) (λ j. slice_index ms j) q high below) ∙ ⊎_elim
              (λ l. sym (when_false (nat_le n q) 0 (cells xs ms q) (less l)))
              (λ le. inside q high below le lt ∙ sym (when_true (nat_le n q) 0 (cells xs ms q) (not_less le)))
              (cases_lt q n)

          gone : (n - 1) / 120 ≤ q / 120 - 1 → through maps (slice_index (cut_addresses (kept_maps n) ms) (q / 120 - 1)) (q % 120) ≡ (if nat_le n q then 0 else cells xs ms q)
          gone le = ap (λ (a : ℕ). through maps a (q % 120)) (cut_gone (kept_maps n) ms (q / 120 - 1) le) ∙ sym (when_true (nat_le n q) 0 (cells xs ms q) (not_less (past_kept n q high le)))

  pub cut_map_cell : (n j : ℕ) → j < most_maps
      → laid maps (λ p. slice_index (cut_addresses n xs) p) (λ j. slice_index (cut_addresses (kept_maps n) ms) j) (map_cell j) ≡ (if keeps_map n j then laid maps (λ p. slice_index xs p) (λ j. slice_index ms j) (map_cell j) else 0)
  cut_map_cell n j below = laid-map maps (λ p. slice_index (cut_addresses n xs) p) (λ j. slice_index (cut_addresses (kept_maps n) ms) j) j below ∙ ⊎_elim
      (λ lt. cut_kept (kept_maps n) ms j lt ∙ sym (laid-map maps (λ p. slice_index xs p) (λ j. slice_index ms j) j below) ∙ sym (when_true (keeps_map n j) (cells xs ms (map_cell j)) 0 (keeps_low n j lt)))
      (λ le. cut_gone (kept_maps n) ms j le ∙ sym (when_false (keeps_map n j) (cells xs ms (map_cell j)) 0 (keeps_high n j le)))
      (cases_lt j ((n - 1) / 120))

  -- a head with another data page for one of its first blocks
  pub leaf_cell : (p a : ℕ) → p < head_blocks → p < length xs → (q : ℕ) → q < most_blocks
      → laid maps (λ k. slice_index (slice_set xs p a) k) (λ j. slice_index ms j) q ≡ (if nat_eq p q then a else laid maps (λ k. slice_index xs k) (λ j. slice_index ms j) q)
  leaf_cell p a low there q below = ⊎_elim
      (λ lt. laid-block maps (λ k. slice_index (slice_set xs p a) k) (λ j. slice_index ms j) q lt ∙ ⊎_elim
      (λ e. ap (slice_index (slice_set xs p a)) e ∙ get_or-set_same xs p a 0 there ∙ sym (when_true (nat_eq p q) a (cells xs ms q) (equal_so p q (sym e))))
      (λ ne. get_or-set_other xs p q a 0 ne ∙ sym (laid-block maps (λ k. slice_index xs k) (λ j. slice_index ms j) q lt) ∙ sym (when_false (nat_eq p q) a (cells xs ms q) (differ_so p q (λ e. ne (sym e)))))
      (cases_eq q p))
      (λ ge. laid-entry maps (λ k. slice_index (slice_set xs p a) k) (λ j. slice_index ms j) q ge below ∙ sym (laid-entry maps (λ k. slice_index xs k) (λ j. slice_index ms j) q ge below)
      ∙ sym (when_false (nat_eq p q) a (cells xs ms q) (differ_so p q (λ e. omega (arith, e, low, ge)))))
      (cases_lt q head_blocks)

  -- a head with a new map page, which leads to one data page alone
  pub map_brought : (p a d : ℕ) → head_blocks ≤ p → p < most_blocks → slice_index ms (p / 120 - 1) ≡ 0 → p / 120 - 1 < length ms → ((k : ℕ) → maps d k ≡ slice_index (slice_set (replicate 120 0) (p % 120) a) k) → (q : ℕ) → q < most_blocks
      → laid maps (λ k. slice_index xs k) (λ j. slice_index (slice_set ms (p / 120 - 1) (suc d)) j) q ≡ (if nat_eq p q then a else laid maps (λ k. slice_index xs k) (λ j. slice_index ms j) q)
  map_brought p a d high range none there row q below = ⊎_elim
      (λ lt. laid-block maps (λ k. slice_index xs k) (λ j. slice_index (slice_set ms (p / 120 - 1) (suc d)) j) q lt ∙ sym (laid-block maps (λ k. slice_index xs k) (λ j. slice_index ms j) q lt)
      ∙ sym (when_false (nat_eq p q) a (cells xs ms q) (differ_so p q (λ e. omega (arith, e, high, lt)))))
      (λ ge. laid-entry maps (λ k. slice_index xs k) (λ j. slice_index (slice_set ms (p / 120 - 1) (suc d)) j) q ge below ∙ ⊎_elim (λ e. own ge e) (λ ne. other ge ne) (cases_eq (q / 120 - 1) (p / 120 - 1)))
      (cases_lt q head_blocks)
    where
      own : head_blocks ≤ q → q / 120 - 1 ≡ p / 120 - 1 → through maps (slice_index (slice_set ms (p / 120 - 1) (suc d)) (q / 120 - 1)) (q % 120) ≡ (if nat_eq p q then a else cells xs ms q)
      own ge e = ap (λ (k : ℕ). through maps (slice_index (slice_set ms (p / 120 - 1) (suc d)) k) (q % 120)) e
          ∙ ap (λ (b : ℕ). through maps b (q % 120)) (get_or-set_same ms (p / 120 - 1) (suc d) 0 there)
          ∙ row (q % 120) ∙ ⊎_elim
          (λ same. ap (λ (k : ℕ). slice_index (slice_set (replicate 120 0) (p % 120) a) (k % 120)) same ∙ get_or-set_same (replicate 120 0) (p % 120) a 0 (entry_below p) ∙ sym (when_true (nat_eq p q) a (cells xs ms q) (equal_so p q (sym same))))
          (λ ne. get_or-set_other (replicate 120 0) (p % 120) (q % 120) a 0 (λ same. ne (one_block q p (let h : q / 120 ≡ p / 120 = omega (arith, e, ge, high) in h) same)) ∙ zeros_at 120 (q % 120)
          ∙ sym old_none ∙ sym (when_false (nat_eq p q) a (cells xs ms q) (differ_so p q (λ same. ne (sym same)))))
          (cases_eq q p)
        where
          old_none : cells xs ms q ≡ 0
          old_none = laid-entry maps (λ k. slice_index xs k) (λ j. slice_index ms j) q ge below ∙ ap (λ (b : ℕ). through maps b (q % 120)) (ap (slice_index ms) e ∙ none)

      other : head_blocks ≤ q → q / 120 - 1 ≢ p / 120 - 1 → through maps (slice_index (slice_set ms (p / 120 - 1) (suc d)) (q / 120 - 1)) (q % 120) ≡ (if nat_eq p q then a else cells xs ms q)
      other ge ne = ap (λ (b : ℕ). through maps b (q % 120)) (get_or-set_other ms (p / 120 - 1) (q / 120 - 1) (suc d) 0 ne) ∙ sym (laid-entry maps (λ k. slice_index xs k) (λ j. slice_index ms j) q ge below)
          ∙ sym (when_false (nat_eq p q) a (cells xs ms q) (differ_so p q (λ e. ne (ap (λ (k : ℕ). k / 120 - 1) (sym e)))))

-- ---- another map page

module _ (j : ℕ) (entries : ℕ → ℕ) (old : ℕ → ℕ) where
  -- a map page's cells are not among its blocks
  pub with_map_cell : (k : ℕ) → with_entries j entries old (map_cell k) ≡ old (map_cell k)
  with_map_cell k = let past : nat_lt (map_cell k) most_blocks ≡ false = grind (arith, nat_tests) in
      ap (λ b. if b && is_in_range j (map_cell k) then entries (map_cell k % 120) else old (map_cell k)) past

  with_inside : (q : ℕ) → q < most_blocks → is_in_range j q ≡ true → with_entries j entries old q ≡ entries (q % 120)
  with_inside q below in_it = ap (λ b. if b && is_in_range j q then entries (q % 120) else old q) (is_below q below) ∙ ap (λ b. if b then entries (q % 120) else old q) in_it

  with_outside : (q : ℕ) → is_in_range j q ≡ false → with_entries j entries old q ≡ old q
  with_outside q out = ap (λ b. if nat_lt q most_blocks && b then entries (q % 120) else old q) out ∙ no (nat_lt q most_blocks)
    where
      no : (b : Bool) → (if b && false then entries (q % 120) else old q) ≡ old q
      no true = refl
      no false = refl

module _ (j : ℕ) (row : List ℕ) (old : ℕ → ℕ) (says : (q : ℕ) → q < most_blocks → is_in_range j q ≡ true → old q ≡ slice_index row (q % 120)) where
  -- with a data page for one block
  pub entry_cell : (p a : ℕ) → p / 120 ≡ j + 1 → length row ≡ 120 → (q : ℕ) → q < most_blocks
      → with_entries j (λ k. slice_index (slice_set row (p % 120) a) k) old q ≡ (if nat_eq p q then a else old q)
  entry_cell p a range long q below = by (is_in_range j q) refl
    where
      by : (b : Bool) → is_in_range j q ≡ b → with_entries j (λ k. slice_index (slice_set row (p % 120) a) k) old q ≡ (if nat_eq p q then a else old q)
      by true e = with_inside j (λ k. slice_index (slice_set row (p % 120) a) k) old q below e ∙ ⊎_elim
          (λ same. ap (λ (k : ℕ). slice_index (slice_set row (p % 120) a) (k % 120)) same ∙ get_or-set_same row (p % 120) a 0 (let lt = entry_below p in omega (arith, lt, long)) ∙ sym (when_true (nat_eq p q) a (old q) (equal_so p q (sym same))))
          (λ ne. get_or-set_other row (p % 120) (q % 120) a 0 (λ same. ne (one_block q p (in_range j q e ∙ sym range) same)) ∙ sym (says q below e) ∙ sym (when_false (nat_eq p q) a (old q) (differ_so p q (λ same. ne (sym same)))))
          (cases_eq q p)
      by false e = with_outside j (λ k. slice_index (slice_set row (p % 120) a) k) old q e
          ∙ sym (when_false (nat_eq p q) a (old q) (differ_so p q (λ same. true≢false (sym (is_range j q (ap (λ (k : ℕ). k / 120) (sym same) ∙ range)) ∙ e))))

  -- without its blocks from one on
  pub cut_entry_cell : (n : ℕ) → n / 120 ≡ j + 1 → (q : ℕ) → q < most_blocks → with_entries j (λ k. slice_index (cut_addresses (n % 120) row) k) old q ≡ cut_inside n j old q
  cut_entry_cell n range q below = by (is_in_range j q) refl
    where
      inside : is_in_range j q ≡ true → cut_inside n j old q ≡ (if nat_le n q then 0 else old q)
      inside e = ap (λ b. if b && (is_in_range j q && nat_le n q) then 0 else old q) (is_below q below) ∙ ap (λ b. if b && nat_le n q then 0 else old q) e

      outside : is_in_range j q ≡ false → cut_inside n j old q ≡ old q
      outside e = ap (λ b. if b && (is_in_range j q && nat_le n q) then 0 else old q) (is_below q below) ∙ ap (λ b. if b && nat_le n q then 0 else old q) e

      by : (b : Bool) → is_in_range j q ≡ b → with_entries j (λ k. slice_index (cut_addresses (n % 120) row) k) old q ≡ cut_inside n j old q
      by true e = with_inside j (λ k. slice_index (cut_addresses (n % 120) row) k) old q below e ∙ ⊎_elim
          (λ lt. cut_kept (n % 120) row (q % 120) (let r = in_range j q e in omega (arith, lt, r, range)) ∙ sym (says q below e) ∙ sym (when_false (nat_le n q) 0 (old q) (grind (arith, nat_tests, lt))))
          (λ le. cut_gone (n % 120) row (q % 120) (let r = in_range j q e in omega (arith, le, r, range)) ∙ sym (when_true (nat_le n q) 0 (old q) (grind (arith, nat_tests, le))))
          (cases_lt q n) ∙ sym (inside e)
      by false e = with_outside j (λ k. slice_index (cut_addresses (n % 120) row) k) old q e ∙ sym (outside e)
