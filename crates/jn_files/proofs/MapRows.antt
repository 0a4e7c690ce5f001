-- Rows of entries that are made at their first use.
use Rattle.jn_files.proofs.Common.{◌≡◌, ◌≢◌, ◌<◌, ◌≤◌, ◌+◌, ◌-◌, ◌⊎◌, inl, inr, ⊎_elim, ℕ, zero, suc, Bool, true, false, List, [], ◌∷◌, ◌++◌, length, map, get_or, refl, sym, ◌∙◌, ap, subst, arith, length-append, slice_index, slice_index_or, slice_set, nat_eq, if◌then◌else◌, length-map, get_or_read, get_or-map, get_or-set_same, get_or-set_other, get_or_push, get_or_append_left, length-set, ext_get_or, nat_tests, head_blocks, IsMapRow, row_at, kept_entry, through, rows_by, rows_made, AreRowsMade}
use Rattle.std.specs.Prelude.{replicate}
use Rattle.jn_files.proofs.Cutting.{zeros_within}

pub row-by : (slots : List ℕ) (rows : List (List ℕ)) (d : ℕ) → d < length slots → row_at (rows_by slots rows) d ≡ slice_index_or rows (slice_index slots d) []
row-by slots rows d lt = get_or-map (λ s. slice_index_or rows s []) slots d 0 [] lt

less : (d : ℕ) → suc d - 1 ≡ d
less d = omega arith

pub entry-by : (slots : List ℕ) (rows : List (List ℕ)) (a k : ℕ) (row : List ℕ) → a ≢ 0 → a ≤ length (rows_by slots rows) → row ≡ slice_index_or rows (slice_index slots (a - 1)) [] → slice_index_or row k 0 ≡ through (kept_entry (rows_by slots rows)) a k
entry-by slots rows zero k row ne le e = absurd (ne refl)
entry-by slots rows (suc d) k row ne le e = ap (λ (r : List ℕ). slice_index_or r k 0) (e ∙ ap (λ i. slice_index_or rows (slice_index slots i) []) (less d) ∙ sym (row-by slots rows d (let n = length-map slots (λ s. slice_index_or rows s []) in omega (arith, le, n))))

none-is-row : (leaves : ℕ) → IsMapRow leaves (replicate head_blocks 0)
none-is-row leaves = record { count = refl; within_leaves = zeros_within head_blocks leaves }

pub new-rows : (leaves : ℕ) (slots : List ℕ) (rows : List (List ℕ)) → slice_index_or rows 0 [] ≡ replicate head_blocks 0 → length slots ≡ leaves → ((d : ℕ) → d < leaves → slice_index slots d ≡ 0)
    → (d : ℕ) → d < leaves → IsMapRow leaves (row_at (rows_by slots rows) d)
new-rows leaves slots rows none count each d lt =
    subst (λ (row : List ℕ). IsMapRow leaves row)
    (sym (row-by slots rows d (subst (λ n. d < n) (sym count) lt) ∙ ap (λ s. slice_index_or rows s []) (each d lt) ∙ none))
    (none-is-row leaves)

-- ---- how many rows there are

made-most : (slots : List ℕ) → rows_made slots ≤ length slots
made-most [] = omega arith
made-most (s ∷ slots) = by (nat_eq s 0) (made-most slots)
  where
    by : (b : Bool) → rows_made slots ≤ length slots → (if b then 0 else 1) + rows_made slots ≤ suc (length slots)
    by true rest = omega (arith, rest)
    by false rest = omega (arith, rest)

pub made-fewer : (slots : List ℕ) (d : ℕ) → d < length slots → slice_index slots d ≡ 0 → rows_made slots < length slots
made-fewer [] d lt e = absurd (omega (arith, lt))
made-fewer (s ∷ slots) zero lt e = let m = made-most slots in rw e (omega (arith, m))
made-fewer (s ∷ slots) (suc d) lt e = by (nat_eq s 0) (made-fewer slots d (omega (arith, lt)) e)
  where
    by : (b : Bool) → rows_made slots < length slots → (if b then 0 else 1) + rows_made slots < suc (length slots)
    by true rest = omega (arith, rest)
    by false rest = omega (arith, rest)

is-not : (n : ℕ) → n ≢ 0 → nat_eq n 0 ≡ false
is-not n ne = grind (arith, nat_tests, ne)

made-set : (slots : List ℕ) (d n : ℕ) → d < length slots → slice_index slots d ≡ 0 → n ≢ 0 → rows_made (slice_set slots d n) ≡ suc (rows_made slots)
made-set [] d n lt e ne = absurd (omega (arith, lt))
made-set (s ∷ slots) zero n lt e ne = rw e (ap (λ b. (if b then 0 else 1) + rows_made slots) (is-not n ne) ∙ omega arith)
made-set (s ∷ slots) (suc d) n lt e ne =
    let rest = made-set slots d n (omega (arith, lt)) e ne in
    ap (λ m. (if nat_eq s 0 then 0 else 1) + m) rest ∙ omega arith

-- ---- a row is given

module _ (slots : List ℕ) (rows : List (List ℕ)) (room : ℕ) (are : AreRowsMade slots rows room) (d : ℕ) (lt : d < length slots) where
  same-or : (e : ℕ) → (e ≡ d) ⊎ (e ≢ d)
  same-or e = by (nat_eq e d) refl
    where
      by : (b : Bool) → nat_eq e d ≡ b → (e ≡ d) ⊎ (e ≢ d)
      by true q = inl (grind (arith, nat_tests, q))
      by false q = inr (λ p. grind (arith, nat_tests, p, q))

  count-by : (ss : List ℕ) (rs : List (List ℕ)) → length (rows_by ss rs) ≡ length ss
  count-by ss rs = length-map ss (λ s. slice_index_or rs s [])

  pub given-row : (row : List ℕ) → slice_index slots d ≢ 0 → rows_by slots (slice_set rows (slice_index slots d) row) ≡ slice_set (rows_by slots rows) d row
  given-row row ne = ext_get_or [] _ _ (count-by slots (slice_set rows (slice_index slots d) row) ∙ sym (count-by slots rows) ∙ sym (length-set (rows_by slots rows) d row))
      (λ e below. at e (subst (λ n. e < n) (count-by slots (slice_set rows (slice_index slots d) row)) below) (same-or e))
    where
      at : (e : ℕ) → e < length slots → ((e ≡ d) ⊎ (e ≢ d)) → get_or (rows_by slots (slice_set rows (slice_index slots d) row)) e [] ≡ get_or (slice_set (rows_by slots rows) d row) e []
      at e el (inl q) = rw q (row-by slots (slice_set rows (slice_index slots d) row) d lt ∙ get_or-set_same rows (slice_index slots d) row [] (are.below d lt)
          ∙ sym (get_or-set_same (rows_by slots rows) d row [] (subst (λ n. d < n) (sym (count-by slots rows)) lt)))
      at e el (inr q) = row-by slots (slice_set rows (slice_index slots d) row) e el
          ∙ get_or-set_other rows (slice_index slots d) (slice_index slots e) row [] (λ p. elim (are.apart d e lt el (sym p)) [ inl z ↦ ne z | inr s ↦ q (sym s) ])
          ∙ sym (row-by slots rows e el) ∙ sym (get_or-set_other (rows_by slots rows) d e row [] q)

  module _ (row : List ℕ) (none : slice_index slots d ≡ 0) where
    pub fits : length rows ≤ 65535
    fits = let m = made-fewer slots d lt none in let c = are.count in let f = are.few in omega (arith, m, c, f)

    pub has-room : length rows < room
    has-room = let m = made-fewer slots d lt none in let c = are.count in let f = are.room_is in omega (arith, m, c, f)

    is-some : length rows ≢ 0
    is-some p = let c = are.count in absurd (omega (arith, c, p))

    pub made-row : rows_by (slice_set slots d (length rows)) (rows ++ row ∷ []) ≡ slice_set (rows_by slots rows) d row
    made-row = ext_get_or [] _ _ (count-by (slice_set slots d (length rows)) (rows ++ row ∷ []) ∙ length-set slots d (length rows) ∙ sym (count-by slots rows) ∙ sym (length-set (rows_by slots rows) d row))
        (λ e below. at e (subst (λ n. e < n) (count-by (slice_set slots d (length rows)) (rows ++ row ∷ []) ∙ length-set slots d (length rows)) below) (same-or e))
      where
        at : (e : ℕ) → e < length slots → ((e ≡ d) ⊎ (e ≢ d)) → get_or (rows_by (slice_set slots d (length rows)) (rows ++ row ∷ [])) e [] ≡ get_or (slice_set (rows_by slots rows) d row) e []
        at e el (inl q) = rw q (row-by (slice_set slots d (length rows)) (rows ++ row ∷ []) d (subst (λ n. d < n) (sym (length-set slots d (length rows))) lt)
            ∙ ap (λ s. slice_index_or (rows ++ row ∷ []) s []) (get_or-set_same slots d (length rows) 0 lt) ∙ get_or_push rows row [] (length rows) refl
            ∙ sym (get_or-set_same (rows_by slots rows) d row [] (subst (λ n. d < n) (sym (count-by slots rows)) lt)))
        at e el (inr q) = row-by (slice_set slots d (length rows)) (rows ++ row ∷ []) e (subst (λ n. e < n) (sym (length-set slots d (length rows))) el)
            ∙ ap (λ s. slice_index_or (rows ++ row ∷ []) s []) (get_or-set_other slots d e (length rows) 0 q)
            ∙ get_or_append_left rows (row ∷ []) [] (slice_index slots e) (are.below e el)
            ∙ sym (row-by slots rows e el) ∙ sym (get_or-set_other (rows_by slots rows) d e row [] q)

    pub still-rows : AreRowsMade (slice_set slots d (length rows)) (rows ++ row ∷ []) room
    still-rows = record {
      few = subst (λ n. n ≤ 65535) (sym (length-set slots d (length rows))) are.few;
      below = λ e el. below e (subst (λ n. e < n) (length-set slots d (length rows)) el) (same-or e);
      apart = λ e f el fl p. apart e f (subst (λ n. e < n) (length-set slots d (length rows)) el) (subst (λ n. f < n) (length-set slots d (length rows)) fl) (same-or e) (same-or f) p;
      none = get_or_append_left rows (row ∷ []) [] 0 (let c = are.count in omega (arith, c)) ∙ are.none;
      count = let m = more in let c = are.count in let s = made-set slots d (length rows) lt none is-some in omega (arith, m, c, s);
      room_is = subst (λ n. n + 1 ≤ room) (sym (length-set slots d (length rows))) are.room_is;
    }
      where
        more : length (rows ++ row ∷ []) ≡ length rows + 1
        more = length-append rows (row ∷ [])

        own : slice_index (slice_set slots d (length rows)) d ≡ length rows
        own = get_or-set_same slots d (length rows) 0 lt

        other : (e : ℕ) → e ≢ d → slice_index (slice_set slots d (length rows)) e ≡ slice_index slots e
        other e q = get_or-set_other slots d e (length rows) 0 q

        below : (e : ℕ) → e < length slots → ((e ≡ d) ⊎ (e ≢ d)) → slice_index (slice_set slots d (length rows)) e < length (rows ++ row ∷ [])
        below e el (inl q) = rw q (let o = own in let m = more in omega (arith, o, m))
        below e el (inr q) = let o = other e q in let b = are.below e el in let m = more in omega (arith, o, b, m)

        apart : (e f : ℕ) → e < length slots → f < length slots → ((e ≡ d) ⊎ (e ≢ d)) → ((f ≡ d) ⊎ (f ≢ d))
            → slice_index (slice_set slots d (length rows)) e ≡ slice_index (slice_set slots d (length rows)) f → (slice_index (slice_set slots d (length rows)) e ≡ 0) ⊎ (e ≡ f)
        apart e f el fl (inl q) (inl r) p = inr (q ∙ sym r)
        apart e f el fl (inl q) (inr r) p = absurd (let a = ap (slice_index (slice_set slots d (length rows))) q in let o = own in let b = are.below f fl in let n = other f r in omega (arith, p, a, o, b, n))
        apart e f el fl (inr q) (inl r) p = absurd (let a = ap (slice_index (slice_set slots d (length rows))) r in let o = own in let b = are.below e el in let n = other e q in omega (arith, p, a, o, b, n))
        apart e f el fl (inr q) (inr r) p = elim (are.apart e f el fl (sym (other e q) ∙ p ∙ other f r)) [ inl z ↦ inl (other e q ∙ z) | inr s ↦ inr s ]

is-below : (slots : List ℕ) (rows : List (List ℕ)) (a : ℕ) → a ≢ 0 → (a ≤ length (rows_by slots rows)) × (length (rows_by slots rows) ≡ length slots) → a - 1 < length slots
is-below slots rows zero ne h = absurd (ne refl)
is-below slots rows (suc d) ne h = let few = h.0 in let n = h.1 in omega (arith, few, n)

-- as it is read: the slot, and then the row
pub entry-at : (slots : List ℕ) (rows : List (List ℕ)) (room : ℕ) → AreRowsMade slots rows room → (a k s : ℕ) (row : List ℕ) → a ≢ 0 → a ≤ length (rows_by slots rows)
    → s ≡ slice_index_or slots (a - 1) s → row ≡ slice_index_or rows s row → slice_index_or row k 0 ≡ through (kept_entry (rows_by slots rows)) a k
entry-at slots rows room are a k s row ne few es er =
    let n = length-map slots (λ i. slice_index_or rows i []) in
    let at : a - 1 < length slots = is-below slots rows a ne (few, n) in
    let slot : s ≡ slice_index slots (a - 1) = get_or_read slots (a - 1) s at es 0 in
    entry-by slots rows a k row ne few (get_or_read rows s row (subst (λ i. i < length rows) (sym slot) (are.below (a - 1) at)) er [] ∙ ap (λ i. slice_index_or rows i []) slot)

-- a data page without a row of its own, as it is read
pub no-row : (slots : List ℕ) (rows : List (List ℕ)) (d s : ℕ) → d < length (rows_by slots rows) → s ≡ slice_index_or slots d s → s ≡ 0 → (d < length slots) × (slice_index slots d ≡ 0)
no-row slots rows d s lt e z =
    let n = length-map slots (λ i. slice_index_or rows i []) in
    let at : d < length slots = omega (arith, lt, n) in
    (at, sym (get_or_read slots d s at e 0) ∙ z)

none-made : (slots : List ℕ) → ((d : ℕ) → d < length slots → slice_index slots d ≡ 0) → rows_made slots ≡ 0
none-made [] each = refl
none-made (s ∷ slots) each = let rest = none-made slots (λ d lt. each (suc d) (omega (arith, lt))) in rw (each zero (omega arith)) (omega (arith, rest))

-- at the start
pub first-rows : (slots : List ℕ) (rows : List (List ℕ)) (room n : ℕ) → length slots ≡ n → n ≤ 65535 → ((d : ℕ) → d < n → slice_index slots d ≡ 0) → rows ≡ replicate head_blocks 0 ∷ [] → n + 1 ≤ room → AreRowsMade slots rows room
first-rows slots rows room n count few each first enough = record {
  few = omega (arith, count, few);
  below = λ d lt. let z = each d (subst (λ m. d < m) count lt) in let m = ap length first in omega (arith, z, m);
  apart = λ d e dl el p. inl (each d (subst (λ m. d < m) count dl));
  none = ap (λ (rs : List (List ℕ)). slice_index_or rs 0 []) first;
  count = let m = ap length first in let z = none-made slots (λ d lt. each d (subst (λ m. d < m) count lt)) in omega (arith, m, z);
  room_is = omega (arith, count, enough);
}

-- a data page with a row of its own, as it is read
pub own-row : (slots : List ℕ) (rows : List (List ℕ)) (room : ℕ) → AreRowsMade slots rows room → (d s : ℕ) (row : List ℕ) → d < length (rows_by slots rows) → s ≡ slice_index_or slots d s → s ≢ 0
    → rows_by slots (slice_set rows s row) ≡ slice_set (rows_by slots rows) d row
own-row slots rows room are d s row lt e ne =
    let n = length-map slots (λ i. slice_index_or rows i []) in
    let at : d < length slots = omega (arith, lt, n) in
    let slot : s ≡ slice_index slots d = get_or_read slots d s at e 0 in
    ap (λ i. rows_by slots (slice_set rows i row)) slot ∙ given-row slots rows room are d at row (λ z. ne (slot ∙ z))
