-- The least block of a head that has an address.
use Rattle.jn_files.proofs.Common.{◌≡◌, ◌<◌, ◌≤◌, ◌+◌, ◌-◌, ◌*◌, ◌%◌, ℕ, zero, suc, Bool, true, List, length, sym, ap, subst, ◌∙◌, inl, inr, arith, nat_lt, slice_index, ◌&&◌, cases_lt, and_parts, nat_tests, head_blocks, most_maps, most_blocks, BlockNo, IsLeastFrom, Head, Free, Used, at_cell, kept_entry, layout_by, through, is_in_range, row_at, range_of, AreRows, IsHeadOf, head_address, has_block, has_entry, head_map}
use Rattle.jn_files.proofs.Places.{block_at, in_its_range, range_is, at_high, at_entry, at_range}
use Rattle.jn_files.proofs.Cutting.{past_list, whole_length}
use Rattle.jn_files.proofs.Cells.{block_cell, entry_cell}

above : (x : ℕ) → nat_lt 0 x ≡ true → 0 < x
above x e = grind (arith, nat_tests, e)

both : (b : Bool) (x : ℕ) → b ≡ true → 0 < x → (b && nat_lt 0 x) ≡ true
both b x e lt = grind (arith, nat_tests, e, lt)

-- where an address stands there is a place
listed : (xs : List ℕ) (k : ℕ) → 0 < slice_index xs k → k < length xs
listed xs k lt = elim (cases_lt k (length xs)) [
  | inl low ↦ low
  | inr ge ↦ absurd (let none = past_list xs k ge in omega arith)
]

in_range : (j p : ℕ) → head_blocks ≤ p → range_of p ≡ j → is_in_range j p ≡ true
in_range j p past e = subst (λ (i : ℕ). is_in_range i p ≡ true) e (in_its_range p past)

-- ---- of one map page

module _ (leaves : ℕ) (rows : List (List ℕ)) (are : AreRows leaves rows) (d j from : ℕ) (below : d < leaves) (range : j < most_maps) where
  entry_block : (k : ℕ) → k < head_blocks → through (kept_entry rows) (suc d) ((head_blocks * (j + 1) + k) % head_blocks) ≡ slice_index (row_at rows d) k
  entry_block k low = ap (λ (i : ℕ). slice_index (row_at rows d) i) (at_entry j k range low)

  short : (k : ℕ) → 0 < slice_index (row_at rows d) k → k < head_blocks
  short k lt = let low = listed (row_at rows d) k lt in let long = (are.each d below).count in omega arith

  its_entry : (b : BlockNo) → has_entry rows (suc d) j b ≡ true → nat_lt 0 (slice_index (row_at rows d) (b.0 % head_blocks)) ≡ true
  its_entry b e = (and_parts (is_in_range j b.0) (nat_lt 0 (through (kept_entry rows) (suc d) (b.0 % head_blocks))) e).1

  its_block : (b : BlockNo) → has_entry rows (suc d) j b ≡ true → head_blocks * (j + 1) + b.0 % head_blocks ≡ b.0
  its_block b e =
      let at = (and_parts (is_in_range j b.0) (nat_lt 0 (through (kept_entry rows) (suc d) (b.0 % head_blocks))) e).0 in
      let whole = block_at b.0 (range_is j b.0 at).0 in
      let same = (range_is j b.0 at).1 in
      ap (λ (i : ℕ). head_blocks * (i + 1) + b.0 % head_blocks) (sym same) ∙ whole

  pub entry_found : (k : ℕ) → IsLeastFrom {A = ℕ} (λ k. k) (λ k. nat_lt 0 (slice_index (row_at rows d) k)) (from - head_blocks * (j + 1)) k → IsLeastFrom {A = BlockNo} (λ p. p.0) (has_entry rows (suc d) j) from (record { 0 = head_blocks * (j + 1) + k })
  entry_found k is = record {
    here =
        let lt = above (slice_index (row_at rows d) k) is.here in
        let low = short k lt in
        both (is_in_range j (head_blocks * (j + 1) + k)) (through (kept_entry rows) (suc d) ((head_blocks * (j + 1) + k) % head_blocks))
        (in_range j (head_blocks * (j + 1) + k) (at_high j k range low) (at_range j k range low)) (subst (λ (x : ℕ). 0 < x) (sym (entry_block k low)) lt);
    from_there = let low = is.from_there in omega arith;
    least = λ b e le.
        let whole = its_block b e in
        let low = is.least (b.0 % head_blocks) (its_entry b e) (omega (arith, whole, le)) in
        omega (arith, whole, low);
  }

-- as the search of its row says it
pub entry_found_by : (leaves : ℕ) (rows : List (List ℕ)) (address j from first k : ℕ) (row : List ℕ) → AreRows leaves rows → j < most_maps → 0 < address → address ≤ leaves → row ≡ row_at rows (address - 1) → first ≡ from - head_blocks * (j + 1)
    → IsLeastFrom {A = ℕ} (λ k. k) (λ k. nat_lt 0 (slice_index row k)) first k → IsLeastFrom {A = BlockNo} (λ p. p.0) (has_entry rows address j) from (record { 0 = head_blocks * (j + 1) + k })
entry_found_by leaves rows zero j from first k row are range above low e g is = absurd (omega (arith, above))
entry_found_by leaves rows (suc d) j from first k row are range above low e g is =
    entry_found leaves rows are d j from (omega (arith, low)) range k
    (subst (λ (n : ℕ). IsLeastFrom {A = ℕ} (λ k. k) (λ k. nat_lt 0 (slice_index (row_at rows d) k)) n k) g
    (subst (λ (l : List ℕ). IsLeastFrom {A = ℕ} (λ k. k) (λ k. nat_lt 0 (slice_index l k)) first k) (e ∙ ap (row_at rows) (let back : suc d - 1 ≡ d = omega arith in back)) is))

-- ---- of a head and its map pages

module _ (leaves : ℕ) (rows : List (List ℕ)) (h : Head) (is : IsHeadOf leaves h) (from : ℕ) where
  abbrev cell : ℕ → ℕ
  cell q = at_cell (layout_by (kept_entry rows) h) q

  has_by : (p : ℕ) → p < most_blocks → 0 < cell p → (nat_lt p most_blocks && nat_lt 0 (cell p)) ≡ true
  has_by p low lt = let t : nat_lt p most_blocks ≡ true = grind (arith, nat_tests, low) in both (nat_lt p most_blocks) (cell p) t lt

  has_low : (b : BlockNo) → has_block rows h b ≡ true → b.0 < most_blocks
  has_low b e = let t = (and_parts (nat_lt b.0 most_blocks) (nat_lt 0 (cell b.0)) e).0 in grind (arith, nat_tests, t)

  has_cell : (b : BlockNo) → has_block rows h b ≡ true → nat_lt 0 (cell b.0) ≡ true
  has_cell b e = (and_parts (nat_lt b.0 most_blocks) (nat_lt 0 (cell b.0)) e).1

  in_head : (g : Head) → IsHeadOf leaves g → (p : ℕ) → 0 < head_address g p → p < head_blocks
  in_head Free of p lt = absurd (omega arith)
  in_head (Used f xs maps) of p lt = let low = listed xs p lt in let long = whole_length f xs maps of.is_head.whole in omega arith

  -- one of the head's first blocks
  pub first_found : (p : ℕ) → IsLeastFrom {A = ℕ} (λ p. p) (λ p. nat_lt 0 (head_address h p)) from p → IsLeastFrom {A = BlockNo} (λ p. p.0) (has_block rows h) from (record { 0 = p })
  first_found p first = record {
    here = has_by p (omega (arith, low)) (subst (λ (x : ℕ). 0 < x) (sym (block_cell (kept_entry rows) h p low)) (above (head_address h p) first.here));
    from_there = first.from_there;
    least = λ b e le. elim (cases_lt b.0 head_blocks) [
      | inl lt ↦ first.least b.0 (ap (λ (x : ℕ). nat_lt 0 x) (sym (block_cell (kept_entry rows) h b.0 lt)) ∙ has_cell b e) le
      | inr ge ↦ omega (arith, ge, low)
    ];
  }
    where
      low : p < head_blocks
      low = in_head h is p (above (head_address h p) first.here)

  -- no block from there on is below the range of map page j
  abbrev pub NoneBefore : ℕ → Type 0
  NoneBefore j = (b : BlockNo) → has_block rows h b ≡ true → from ≤ b.0 → head_blocks * (j + 1) ≤ b.0

  pub first_none : ((p : ℕ) → nat_lt 0 (head_address h p) ≡ true → p < from) → NoneBefore 0
  first_none none b e le = elim (cases_lt b.0 head_blocks) [
    | inl lt ↦ absurd (let low = none b.0 (ap (λ (x : ℕ). nat_lt 0 x) (sym (block_cell (kept_entry rows) h b.0 lt)) ∙ has_cell b e) in omega arith)
    | inr ge ↦ omega (arith, ge)
  ]

  -- a head without map pages has none from there on
  pub none_mapped : ((j : ℕ) → head_map h j ≡ 0) → NoneBefore 0 → (b : BlockNo) → has_block rows h b ≡ true → b.0 < from
  none_mapped none past b e = elim (cases_lt b.0 from) [
    | inl lt ↦ lt
    | inr ge ↦
        let high : head_blocks ≤ b.0 = past b e ge in
        let here : 0 < cell b.0 = above (cell b.0) (has_cell b e) in
        let empty : cell b.0 ≡ 0 = entry_cell (kept_entry rows) h b.0 high (has_low b e) ∙ ap (λ (a : ℕ). through (kept_entry rows) a (b.0 % head_blocks)) (none (range_of b.0)) in
        absurd (omega (arith, here, empty))
  ]
