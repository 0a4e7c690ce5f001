-- What comes to a layout and what goes, put by put.
use Rattle.jn_files.proofs.Common.{◌≡◌, ◌≢◌, ◌⊎◌, inl, inr, ⊎_elim, ◌<◌, ◌≤◌, ◌+◌, ◌*◌, ◌-◌, ◌%◌, ℕ, suc, Bool, true, false, List, [], length, drop, refl, sym, ap, subst, ◌∙◌, arith, slice_index, nat_lt, nat_le, ◌&&◌, if◌then◌else◌, cases_eq, cases_lt, nat_tests, get_or_past, head_blocks, most_blocks, Head, Free, Used, Layout, at_cell, kept_entry, layout_by, layout_at, cut_inside, is_in_range, inside-was, AreRows, IsHeadOf, row_at, range_of, cells_kept, unnamed_head}
use Rattle.jn_files.proofs.Changing.{with_cell}
use Rattle.jn_files.proofs.Between.{Moves, Nothing, One, Two}
use Rattle.jn_files.proofs.Cutting.{whole_length, maps_length, there_below}
use Rattle.jn_files.proofs.Freeing.{Clears, LeadsFrom, clears_from, index_past, clears_nothing}
use Rattle.jn_files.proofs.Laying.{cell_here, cell_off, kept_was, goes_from, kept_or_goes}
use Rattle.jn_files.proofs.Places.{range_below, block_at, range_is, in_its_range, at_high, at_low, at_entry, at_range}

-- ---- one data page in place of another

module _ (layouts : List Layout) (slot : ℕ) (new : Layout) (p a : ℕ) (is : (q : ℕ) → at_cell new q ≡ with_cell p (suc a) (at_cell (layout_at layouts slot)) q)
    (elsewhere : (j r : ℕ) → at_cell (layout_at layouts j) r ≡ suc a → (j ≡ slot) × (r ≡ p)) where
  new_at : (q : ℕ) → q ≡ p → at_cell new q ≡ suc a
  new_at q e = is q ∙ cell_here p (suc a) (at_cell (layout_at layouts slot)) q e

  old_at : (q : ℕ) → q ≢ p → at_cell new q ≡ at_cell (layout_at layouts slot) q
  old_at q ne = is q ∙ cell_off p (suc a) (at_cell (layout_at layouts slot)) q ne

  one_less : (b c : ℕ) → suc b ≡ suc c → b ≡ c
  one_less b c e = omega (arith, e)

  pub moves_set : Moves layouts slot new (One p a) (λ b. at_cell (layout_at layouts slot) p ≡ suc b)
  moves_set = record {
    origin = λ q b e. elim (cases_eq q p) [
      | inl same ↦ inl (same, one_less b a (sym e ∙ new_at q same))
      | inr ne ↦ inr (sym (old_at q ne) ∙ e)
    ];
    here = λ q b c. new_at q c.0 ∙ ap suc (sym c.1);
    elsewhere = λ q b c j r at. let there = elsewhere j r (at ∙ ap suc c.1) in (there.0, there.1 ∙ sym c.0);
    alone = λ q r b c d. c.0 ∙ sym d.0;
    stays = λ q b at. elim (cases_eq q p) [
      | inl same ↦ inr (ap (at_cell (layout_at layouts slot)) (sym same) ∙ at)
      | inr ne ↦ inl (old_at q ne ∙ at)
    ];
    left = λ b at. (p, at, λ e. (refl, one_less b a (sym e ∙ new_at p refl)));
  }

-- ---- two where there was none

module _ (layouts : List Layout) (slot : ℕ) (new : Layout) (p a r d : ℕ) (is : (q : ℕ) → at_cell new q ≡ with_cell p (suc a) (with_cell r (suc d) (at_cell (layout_at layouts slot))) q)
    (elsewhere : (j q : ℕ) → at_cell (layout_at layouts j) q ≡ suc a → (j ≡ slot) × (q ≡ p)) (elsewhere2 : (j q : ℕ) → at_cell (layout_at layouts j) q ≡ suc d → (j ≡ slot) × (q ≡ r))
    (apart : p ≢ r) (differs : d ≢ a) (none_p : at_cell (layout_at layouts slot) p ≡ 0) (none_r : at_cell (layout_at layouts slot) r ≡ 0) where
  abbrev old : ℕ → ℕ
  old q = at_cell (layout_at layouts slot) q

  at_p : (q : ℕ) → q ≡ p → at_cell new q ≡ suc a
  at_p q e = is q ∙ cell_here p (suc a) (with_cell r (suc d) (at_cell (layout_at layouts slot))) q e

  at_r : (q : ℕ) → q ≡ r → at_cell new q ≡ suc d
  at_r q e = is q ∙ cell_off p (suc a) (with_cell r (suc d) (at_cell (layout_at layouts slot))) q (λ f. apart (sym f ∙ e)) ∙ cell_here r (suc d) (at_cell (layout_at layouts slot)) q e

  at_old : (q : ℕ) → q ≢ p → q ≢ r → at_cell new q ≡ old q
  at_old q ne nr = is q ∙ cell_off p (suc a) (with_cell r (suc d) (at_cell (layout_at layouts slot))) q ne ∙ cell_off r (suc d) (at_cell (layout_at layouts slot)) q nr

  less_one : (b c : ℕ) → suc b ≡ suc c → b ≡ c
  less_one b c e = omega (arith, e)

  pub moves_two : Moves layouts slot new (Two p a r d) (λ b. ⊥)
  moves_two = record {
    origin = λ q b e. elim (cases_eq q p) [
      | inl same ↦ inl (inl (same, less_one b a (sym e ∙ at_p q same)))
      | inr ne ↦ elim (cases_eq q r) [
        | inl same ↦ inl (inr (same, less_one b d (sym e ∙ at_r q same)))
        | inr nr ↦ inr (sym (at_old q ne nr) ∙ e)
      ]
    ];
    here = λ q b. ⊎_elim (λ (c : One p a q b). at_p q c.0 ∙ ap suc (sym c.1)) (λ (c : One r d q b). at_r q c.0 ∙ ap suc (sym c.1));
    elsewhere = λ q b come j s at. ⊎_elim
        (λ (c : One p a q b). let there = elsewhere j s (at ∙ ap suc c.1) in let result : (j ≡ slot) × (s ≡ q) = (there.0, there.1 ∙ sym c.0) in result)
        (λ (c : One r d q b). let there = elsewhere2 j s (at ∙ ap suc c.1) in (there.0, there.1 ∙ sym c.0)) come;
    alone = λ q s b come also. ⊎_elim
        (λ (c : One p a q b). ⊎_elim (λ (e : One p a s b). c.0 ∙ sym e.0) (λ (e : One r d s b). absurd (differs (sym e.1 ∙ c.1))) also)
        (λ (c : One r d q b). ⊎_elim (λ (e : One p a s b). absurd (differs (sym c.1 ∙ e.1))) (λ (e : One r d s b). c.0 ∙ sym e.0) also) come;
    stays = λ q b at. elim (cases_eq q p) [
      | inl same ↦ absurd (let none : old q ≡ 0 = ap old same ∙ none_p in omega (arith, none, at))
      | inr ne ↦ elim (cases_eq q r) [
        | inl same ↦ absurd (let none : old q ≡ 0 = ap old same ∙ none_r in omega (arith, none, at))
        | inr nr ↦ inl (at_old q ne nr ∙ at)
      ]
    ];
    left = λ b no_way. absurd no_way;
  }

-- ---- a map page without its blocks from n on

module _ (layouts : List Layout) (slot : ℕ) (new : Layout) (n : ℕ) (row : List ℕ) (is : (q : ℕ) → at_cell new q ≡ cut_inside n (range_of n) (at_cell (layout_at layouts slot)) q) (high : head_blocks ≤ n) (low : n < most_blocks)
    (long : length row ≡ head_blocks) (stands : (q : ℕ) → q < most_blocks → is_in_range (range_of n) q ≡ true → at_cell (layout_at layouts slot) q ≡ slice_index row (q % head_blocks)) where
  abbrev cells : ℕ → ℕ
  cells q = at_cell (layout_at layouts slot) q

  abbrev Gone : ℕ → Type 0
  Gone b = (k : ℕ) × (slice_index (drop (n % head_blocks) row) k ≡ suc b)

  low_is : (q : ℕ) → nat_lt q most_blocks ≡ true → q < most_blocks
  low_is q e = grind (arith, nat_tests, e)

  behind : (q : ℕ) → is_in_range (range_of n) q ≡ true → nat_le n q ≡ true → n % head_blocks ≤ q % head_blocks
  behind q e f = let at = range_is (range_of n) q e in let one = block_at q at.0 in let two = block_at n high in let le : n ≤ q = grind (arith, nat_tests, f) in
      let lines : head_blocks * (range_of n + 1) + q % head_blocks ≡ q = ap (λ (j : ℕ). head_blocks * (j + 1) + q % head_blocks) (sym at.1) ∙ one in omega (arith, lines, two, le)

  stays_by : (q b : ℕ) → cells q ≡ suc b → (x : Bool) → nat_lt q most_blocks ≡ x → (y : Bool) → is_in_range (range_of n) q ≡ y → (z : Bool) → nat_le n q ≡ z
      → ((if x && (y && z) then 0 else cells q) ≡ suc b) ⊎ Gone b
  stays_by q b at true d true e true f = inr (
    q % head_blocks - n % head_blocks,
    index_past (n % head_blocks) row (q % head_blocks - n % head_blocks)
        ∙ ap (slice_index row) (let le = behind q e f in let back : n % head_blocks + (q % head_blocks - n % head_blocks) ≡ q % head_blocks = omega (arith, le) in back)
        ∙ sym (stands q (low_is q d) e) ∙ at,
  )
  stays_by q b at true d true e false f = inl at
  stays_by q b at true d false e z f = inl at
  stays_by q b at false d y e z f = inl at

  left_by : (b k : ℕ) → slice_index (drop (n % head_blocks) row) k ≡ suc b → (r : ℕ) × (cells r ≡ suc b) × (at_cell new r ≡ 0)
  left_by b k e =
      let i = n % head_blocks + k in
      let at : slice_index row i ≡ suc b = sym (index_past (n % head_blocks) row k) ∙ e in
      let below : i < head_blocks = let lt = there_below row i b at in omega (arith, lt, long) in
      let j_low = range_below n high low in
      let r = head_blocks * (range_of n + 1) + i in
      let ge = at_high (range_of n) i j_low below in
      let lt = at_low (range_of n) i j_low below in
      let its : is_in_range (range_of n) r ≡ true = its_range r ge (at_range (range_of n) i j_low below) in
      let late : n ≤ r = let two = block_at n high in omega (arith, two) in
      (r, stands r lt its ∙ ap (slice_index row) (at_entry (range_of n) i j_low below) ∙ at, is r ∙ gone r lt its late)
    where
      its_range : (r : ℕ) → head_blocks ≤ r → range_of r ≡ range_of n → is_in_range (range_of n) r ≡ true
      its_range r ge e = subst (λ (j : ℕ). is_in_range j r ≡ true) e (in_its_range r ge)

      gone : (r : ℕ) → r < most_blocks → is_in_range (range_of n) r ≡ true → n ≤ r → cut_inside n (range_of n) cells r ≡ 0
      gone r lt its late = let x : nat_lt r most_blocks ≡ true = grind (arith, nat_tests, lt) in let z : nat_le n r ≡ true = grind (arith, nat_tests, late) in
          ap (λ (b : Bool). if b && (is_in_range (range_of n) r && nat_le n r) then 0 else cells r) x ∙ ap (λ (b : Bool). if b && nat_le n r then 0 else cells r) its ∙ ap (λ (b : Bool). if b then 0 else cells r) z

  pub moves_cut_row : Moves layouts slot new Nothing Gone
  moves_cut_row = record {
    origin = λ q b e. inr (inside-was cells n (range_of n) b q (sym (is q) ∙ e));
    here = λ q b c. absurd c;
    elsewhere = λ q b c. absurd c;
    alone = λ q r b c. absurd c;
    stays = λ q b at. ⊎_elim (λ e. inl (is q ∙ e)) (λ g. inr g) (stays_by q b at (nat_lt q most_blocks) refl (is_in_range (range_of n) q) refl (nat_le n q) refl);
    left = λ b g. let l = left_by b g.0 g.1 in (l.0, l.1, λ e. let zero_is = l.2 in omega (arith, zero_is, e));
  }

-- ---- a head without blocks from n on

abbrev pub HeadGoes : List (List ℕ) → ℕ → Head → ℕ → Type 0
HeadGoes rows n Free a = ⊥
HeadGoes rows n (Used f xs maps) a = LeadsFrom rows n xs maps a

pub clears_head : (rows : List (List ℕ)) (n : ℕ) (h : Head) (flags : List Bool) → Clears (HeadGoes rows n h) flags (unnamed_head rows n h flags)
clears_head rows n Free flags = clears_nothing (HeadGoes rows n Free) flags (λ a no_way. no_way)
clears_head rows n (Used f xs maps) flags = clears_from rows n xs maps flags

-- no row has more entries
pub rows_short : (leaves : ℕ) (rows : List (List ℕ)) → AreRows leaves rows → (d k a : ℕ) → kept_entry rows d k ≡ suc a → k < head_blocks
rows_short leaves rows are d k a e = elim (cases_lt d leaves) [
  | inl lt ↦ let below = there_below (row_at rows d) k a e in let long = (are.each d lt).count in omega (arith, below, long)
  | inr past ↦ absurd (let none : row_at rows d ≡ [] = get_or_past rows d [] (let n = are.count in omega (arith, n, past)) in
      let gone : slice_index [] k ≡ suc a = ap (λ (l : List ℕ). slice_index l k) (sym none) ∙ e in omega (arith, gone))
]

module _ (leaves : ℕ) (rows : List (List ℕ)) (n : ℕ) (are : AreRows leaves rows) where
  head_stays : (h : Head) → IsHeadOf leaves h → (q a : ℕ) → at_cell (layout_by (kept_entry rows) h) q ≡ suc a → (cells_kept n (at_cell (layout_by (kept_entry rows) h)) q ≡ suc a) ⊎ HeadGoes rows n h a
  head_stays Free is q a at = absurd (omega (arith, at))
  head_stays (Used f xs maps) is q a at = kept_or_goes rows n xs maps (whole_length f xs maps is.is_head.whole) (maps_length f xs maps is.is_head.whole) (rows_short leaves rows are) q a at

  head_left : (h : Head) → IsHeadOf leaves h → (a : ℕ) → HeadGoes rows n h a → (r : ℕ) × (at_cell (layout_by (kept_entry rows) h) r ≡ suc a) × (cells_kept n (at_cell (layout_by (kept_entry rows) h)) r ≡ 0)
  head_left Free is a g = absurd g
  head_left (Used f xs maps) is a g = goes_from rows n xs maps (whole_length f xs maps is.is_head.whole) (maps_length f xs maps is.is_head.whole) (rows_short leaves rows are) a g

  pub moves_head : (layouts : List Layout) (slot : ℕ) (new : Layout) (h : Head) → IsHeadOf leaves h → layout_at layouts slot ≡ layout_by (kept_entry rows) h
      → ((q : ℕ) → at_cell new q ≡ cells_kept n (at_cell (layout_at layouts slot)) q) → Moves layouts slot new Nothing (HeadGoes rows n h)
  moves_head layouts slot new h head was is = record {
    origin = λ q a e. inr (kept_was n (at_cell (layout_at layouts slot)) q a (sym (is q) ∙ e));
    here = λ q b c. absurd c;
    elsewhere = λ q b c. absurd c;
    alone = λ q r b c. absurd c;
    stays = λ q a at. ⊎_elim (λ e. inl (is q ∙ ap (λ (l : Layout). cells_kept n (at_cell l) q) was ∙ e)) (λ g. inr g) (head_stays h head q a (ap (λ (l : Layout). at_cell l q) (sym was) ∙ at));
    left = λ a g. let l = head_left h head a g in
        (l.0, ap (λ (x : Layout). at_cell x l.0) was ∙ l.1, λ e. let none : at_cell new l.0 ≡ 0 = is l.0 ∙ ap (λ (x : Layout). cells_kept n (at_cell x) l.0) was ∙ l.2 in omega (arith, none, e));
  }
