-- What a put of one page makes of layouts, and which addresses they have.
use Rattle.jn_records.proofs.Common.{◌≡◌, ◌≢◌, ◌<◌, ◌≤◌, ◌-◌, ◌/◌, ◌%◌, ℕ, zero, suc, Bool, true, false, ◌&&◌, ◌||◌, if◌then◌else◌, List, [], ◌∷◌, map, slice_index, slice_index_or, slice_set, refl, sym, ◌∙◌, ap, arith, fun_ext, true≢false, nat_eq, nat_lt, nat_le, nat_tests, Head, Free, Used, head_blocks, most_maps, most_blocks, most_cells, is_in_range, Layout, Of, map_cell, at_cell, through, laid, layout_by, layouts_by, layout_at, has_address, with_entries, with_row, cut_inside, head_map, IsMapIn, IsNoMap, IsRowChanged, FileNo, is_layout_of, is_of, head_in}
unfoldable use Rattle.jn_records.specs.Layouts.{any_below}
pub use Rattle.std.proofs.lemmas.List.{map-set as set-map}
pub use Rattle.std.proofs.Math.ListN.{get_or-map as get-map}

-- ---- lists

pub same-map : {A B : Type 0} (f g : A → B) (xs : List A) (d : A) → ((k : ℕ) → g (slice_index_or xs k d) ≡ f (slice_index_or xs k d)) → map g xs ≡ map f xs
same-map f g [] d h = refl
same-map f g (x ∷ xs) d h = ap (λ y. y ∷ map g xs) (h 0) ∙ ap (λ l. f x ∷ l) (same-map f g xs d (λ k. h (suc k)))

pub changed-map : {A B : Type 0} (f g : A → B) (xs : List A) (i : ℕ) (d : A) (v : B) → ((k : ℕ) → k ≢ i → g (slice_index_or xs k d) ≡ f (slice_index_or xs k d)) → g (slice_index_or xs i d) ≡ v → map g xs ≡ slice_set (map f xs) i v
changed-map f g [] zero d v h e = refl
changed-map f g [] (suc i) d v h e = refl
changed-map f g (x ∷ xs) zero d v h e = ap (λ y. y ∷ map g xs) e ∙ ap (λ l. v ∷ l) (same-map f g xs d (λ k. h (suc k) (λ q. omega (arith, q))))
changed-map f g (x ∷ xs) (suc i) d v h e = ap (λ y. y ∷ map g xs) (h 0 (λ q. omega (arith, q))) ∙ ap (λ l. f x ∷ l) (changed-map f g xs i d v (λ k ne. h (suc k) (λ q. ne (omega (arith, q)))) e)

-- ---- whose a layout is

pub own-file : (maps : ℕ → ℕ → ℕ) (f : FileNo) (h : Head) → is_layout_of f (layout_by maps h) ≡ is_of f h
own-file maps f Free = refl
own-file maps f (Used g addresses head_maps) = refl

pub file-at : (maps : ℕ → ℕ → ℕ) (f : FileNo) (heads : List Head) (i : ℕ) → is_layout_of f (layout_at (layouts_by maps heads) i) ≡ is_of f (head_in heads i)
file-at maps f heads i = ap (is_layout_of f) (get-map (layout_by maps) heads i Free) ∙ own-file maps f (head_in heads i)

-- ---- the cells of a head

module _ (maps : ℕ → ℕ → ℕ) (b m : ℕ → ℕ) where
  pub laid-block : (p : ℕ) → p < head_blocks → laid maps b m p ≡ b p
  laid-block p h = let low : nat_lt p head_blocks ≡ true = grind (arith, nat_tests, h) in rw low refl

  pub laid-entry : (p : ℕ) → head_blocks ≤ p → p < most_blocks → laid maps b m p ≡ through maps (m (p / head_blocks - 1)) (p % head_blocks)
  laid-entry p h k =
      let high : nat_lt p head_blocks ≡ false = grind (arith, nat_tests, h) in
      let below : nat_lt p most_blocks ≡ true = grind (arith, nat_tests, k) in
      rw (high, below) refl

  pub laid-map : (j : ℕ) → j < most_maps → laid maps b m (map_cell j) ≡ m j
  laid-map j h =
      let high : nat_lt (map_cell j) head_blocks ≡ false = grind (arith, nat_tests) in
      let past : nat_lt (map_cell j) most_blocks ≡ false = grind (arith, nat_tests) in
      let below : nat_lt (map_cell j) most_cells ≡ true = grind (arith, nat_tests, h) in
      let back : map_cell j - most_blocks ≡ j = omega arith in
      rw (high, past, below) (ap m back)

  pub laid-past : (q : ℕ) → most_cells ≤ q → laid maps b m q ≡ 0
  laid-past q h =
      let high : nat_lt q head_blocks ≡ false = grind (arith, nat_tests, h) in
      let past : nat_lt q most_blocks ≡ false = grind (arith, nat_tests, h) in
      let none : nat_lt q most_cells ≡ false = grind (arith, nat_tests, h) in
      rw (high, past, none) refl

  -- where a map page isn't there, none of its blocks is
  pub laid-none : (j q : ℕ) → m j ≡ 0 → q < most_blocks → is_in_range j q ≡ true → laid maps b m q ≡ 0
  laid-none j q e k r =
      let high : head_blocks ≤ q = grind (arith, nat_tests, r) in
      let its : q / head_blocks - 1 ≡ j = grind (arith, nat_tests, r) in
      laid-entry q high k ∙ ap (λ (a : ℕ). through maps a (q % head_blocks)) (ap m its ∙ e)

pub map-cell-is : (maps : ℕ → ℕ → ℕ) (h : Head) (j : ℕ) → j < most_maps → at_cell (layout_by maps h) (map_cell j) ≡ head_map h j
map-cell-is maps Free j below = refl
map-cell-is maps (Used f xs ms) j below = laid-map maps (λ p. slice_index xs p) (λ k. slice_index ms k) j below

-- ---- other entries in one data page

module _ (old new : ℕ → ℕ → ℕ) (d : ℕ) (entries : ℕ → ℕ) (is : IsRowChanged d entries old new) where
  through-other : (a k : ℕ) → a ≢ suc d → through new a k ≡ through old a k
  through-other zero k ne = refl
  through-other (suc e) k ne = is.others e k (λ q. ne (ap suc q))

  through-here : (a k : ℕ) → a ≡ suc d → through new a k ≡ entries k
  through-here a k e = ap (λ (z : ℕ). through new z k) e ∙ is.here k

  range-below : (q : ℕ) → nat_lt q most_blocks ≡ true → nat_lt q head_blocks ≡ false → q / 120 - 1 < 20
  range-below q h g = grind (arith, nat_tests, h, g)

  laid-other : (b m : ℕ → ℕ) → ((k : ℕ) → k < most_maps → m k ≢ suc d) → (q : ℕ) → laid new b m q ≡ laid old b m q
  laid-other b m none q = by (nat_lt q head_blocks) refl (nat_lt q most_blocks) refl
    where
      by : (x : Bool) → nat_lt q head_blocks ≡ x → (y : Bool) → nat_lt q most_blocks ≡ y
          → (if x then b q else if y then through new (m (q / head_blocks - 1)) (q % head_blocks) else (if nat_lt q most_cells then m (q - most_blocks) else 0))
          ≡ (if x then b q else if y then through old (m (q / head_blocks - 1)) (q % head_blocks) else (if nat_lt q most_cells then m (q - most_blocks) else 0))
      by true e y f = refl
      by false e true f = through-other (m (q / 120 - 1)) (q % 120) (none (q / 120 - 1) (range-below q f e))
      by false e false f = refl

  laid-here : (b m : ℕ → ℕ) (j : ℕ) → j < most_maps → m j ≡ suc d → ((k : ℕ) → k < most_maps → m k ≡ suc d → k ≡ j) → (q : ℕ) → laid new b m q ≡ with_entries j entries (laid old b m) q
  laid-here b m j below here alone q = by (nat_lt q head_blocks) refl (nat_lt q most_blocks) refl (is_in_range j q) refl
    where
      low : nat_lt q head_blocks ≡ true → is_in_range j q ≡ false
      low e = grind (arith, nat_tests, e)

      its : is_in_range j q ≡ true → q / 120 - 1 ≡ j
      its e = grind (arith, nat_tests, e)

      back : nat_lt q head_blocks ≡ false → q / 120 - 1 ≡ j → is_in_range j q ≡ true
      back e f = grind (arith, nat_tests, e, f)

      by : (x : Bool) → nat_lt q head_blocks ≡ x → (y : Bool) → nat_lt q most_blocks ≡ y → (z : Bool) → is_in_range j q ≡ z
          → (if x then b q else if y then through new (m (q / head_blocks - 1)) (q % head_blocks) else (if nat_lt q most_cells then m (q - most_blocks) else 0))
          ≡ (if y && z then entries (q % head_blocks) else (if x then b q else if y then through old (m (q / head_blocks - 1)) (q % head_blocks) else (if nat_lt q most_cells then m (q - most_blocks) else 0)))
      by true e true f true g = absurd (true≢false (sym g ∙ low e))
      by true e true f false g = refl
      by true e false f z g = refl
      by false e true f true g = through-here (m (q / 120 - 1)) (q % 120) (ap m (its g) ∙ here)
      by false e true f false g = through-other (m (q / 120 - 1)) (q % 120) (λ h. true≢false (sym (back e (alone (q / 120 - 1) (range-below q f e) h)) ∙ g))
      by false e false f z g = refl

  other-head : (h : Head) → ((k : ℕ) → k < most_maps → head_map h k ≢ suc d) → layout_by new h ≡ layout_by old h
  other-head Free none = refl
  other-head (Used f xs ms) none = ap (λ n. Of f n) (fun_ext (λ q. laid-other (λ p. slice_index xs p) (λ j. slice_index ms j) none q))

  this-head : (h : Head) (j : ℕ) → j < most_maps → head_map h j ≡ suc d → ((k : ℕ) → k < most_maps → head_map h k ≡ suc d → k ≡ j) → layout_by new h ≡ with_row j entries (layout_by old h)
  this-head Free j below here alone = refl
  this-head (Used f xs ms) j below here alone = ap (λ n. Of f n) (fun_ext (λ q. laid-here (λ p. slice_index xs p) (λ k. slice_index ms k) j below here alone q))

-- where a head names the data page as its map page
pub map-put : (old new : ℕ → ℕ → ℕ) (heads : List Head) (d place j : ℕ) (entries : ℕ → ℕ) → IsRowChanged d entries old new → IsMapIn heads d place j
    → layouts_by new heads ≡ slice_set (layouts_by old heads) place (with_row j entries (layout_at (layouts_by old heads) place))
map-put old new heads d place j entries changed is = changed-map (layout_by old) (layout_by new) heads place Free (with_row j entries (layout_at (layouts_by old heads) place))
    (λ k ne. other-head old new d entries changed (slice_index_or heads k Free) (λ m below e. ne (is.alone k m below e).0))
    (this-head old new d entries changed (slice_index_or heads place Free) j is.below is.here (λ k below e. (is.alone place k below e).1)
    ∙ ap (λ h. with_row j entries h) (sym (get-map (layout_by old) heads place Free)))

-- where none does
pub block-put : (old new : ℕ → ℕ → ℕ) (heads : List Head) (d : ℕ) (entries : ℕ → ℕ) → IsRowChanged d entries old new → IsNoMap heads d → layouts_by new heads ≡ layouts_by old heads
block-put old new heads d entries changed none = same-map (layout_by old) (layout_by new) heads Free
    (λ k. other-head old new d entries changed (slice_index_or heads k Free) (λ m below. none k m below))

-- ---- which addresses a layout has

equal : (m n : ℕ) → nat_eq m n ≡ true → m ≡ n
equal m n e = grind (arith, nat_tests, e)

same : (m n : ℕ) → m ≡ n → nat_eq m n ≡ true
same m n e = grind (arith, nat_tests, e)

pub any-at : (n q : ℕ) (test : ℕ → Bool) → q < n → test q ≡ true → any_below n test ≡ true
unfolding any_below
any-at zero q test below t = absurd (omega (arith, below))
any-at (suc n) q test below t = by (nat_eq q n) refl (λ h. any-at n q test h t)
  where
    less : nat_eq q n ≡ false → q < n
    less e = grind (arith, nat_tests, e, below)

    left : (a b : Bool) → a ≡ true → (a || b) ≡ true
    left a b e = grind (arith, e)

    right : (a b : Bool) → b ≡ true → (a || b) ≡ true
    right a b e = grind (arith, e)

    by : (b : Bool) → nat_eq q n ≡ b → (q < n → any_below n test ≡ true) → (test n || any_below n test) ≡ true
    by true e rest = left (test n) (any_below n test) (ap test (sym (equal q n e)) ∙ t)
    by false e rest = right (test n) (any_below n test) (rest (less e))

pub any-found : (n : ℕ) (test : ℕ → Bool) → any_below n test ≡ true → (q : ℕ) × (q < n) × (test q ≡ true)
unfolding any_below
any-found zero test h = absurd (true≢false (sym h))
any-found (suc n) test h = by (test n) refl (λ k. any-found n test k)
  where
    by : (b : Bool) → test n ≡ b → (any_below n test ≡ true → (q : ℕ) × (q < n) × (test q ≡ true)) → (q : ℕ) × (q < suc n) × (test q ≡ true)
    by true e rest = (n, omega arith, e)
    by false e rest = let r = rest (sym (ap (λ (b : Bool). b || any_below n test) e) ∙ h) in (r.0, omega (arith, r.1), r.2)

pub has-at : (h : Layout) (n a q : ℕ) → q < n → at_cell h q ≡ a → has_address n a h ≡ true
has-at h n a q below e = any-at n q (λ p. nat_eq (at_cell h p) a) below (same (at_cell h q) a e)

pub has-found : (h : Layout) (n a : ℕ) → has_address n a h ≡ true → (q : ℕ) × (q < n) × (at_cell h q ≡ a)
has-found h n a k = let r = any-found n (λ p. nat_eq (at_cell h p) a) k in (r.0, r.1, equal (at_cell h r.0) a r.2)

-- ---- each page once

pub inside-was : (cells : ℕ → ℕ) (n j a p : ℕ) → cut_inside n j cells p ≡ suc a → cells p ≡ suc a
inside-was cells n j a p h = by (nat_lt p most_blocks && (is_in_range j p && nat_le n p)) h
  where
    by : (x : Bool) → (if x then 0 else cells p) ≡ suc a → cells p ≡ suc a
    by x e = grind (arith, e)
