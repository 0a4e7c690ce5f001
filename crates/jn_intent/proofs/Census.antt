-- Each data page is free, or named by a head or a map page, or held alone.
use Rattle.jn_intent.proofs.Common.{◌≡◌, ⊎_elim, ◌<◌, ◌+◌, ℕ, zero, suc, Bool, true, false, not, ◌&&◌, List, refl, sym, ◌∙◌, ap, true≢false, arith, cases_lt, free_numbers, is_free_number, TableView, IsTable, is_held, head_in, layouts_in, heads_name, Head, FreeHead, Used, at_cell, layout_at, layout_by, layouts_by, kept_entry, get-map, most_cells, one, slice_index, laid-past}
unfoldable use Rattle.jn_recovery.proofs.Totals.{below}
use Rattle.jn_intent.proofs.Naming.{found_cell, cell_named}
use Rattle.jn_intent.proofs.Numbers.{how_many, flags_count, one_kind}

-- a sum of what passes below a number is how many pass
pub below_counts : (p : ℕ → Bool) (n : ℕ) → below (λ a. one (p a)) n ≡ how_many p n
unfolding below
below_counts p zero = refl
below_counts p (suc n) = ap (λ k. k + one (p n)) (below_counts p n)

-- no cell past the last one has an address
pub cell_below : (maps : ℕ → ℕ → ℕ) (heads : List Head) (i q a : ℕ) → at_cell (layout_at (layouts_by maps heads) i) q ≡ suc a → q < most_cells
cell_below maps heads i q a e = by (head_in heads i) (ap (λ l. at_cell l q) (sym (get-map (layout_by maps) heads i FreeHead)) ∙ e)
  where
    by : (h : Head) → at_cell (layout_by maps h) q ≡ suc a → q < most_cells
    by FreeHead e = absurd (omega (arith, e))
    by (Used f xs ms) e = ⊎_elim
        (λ lt. lt)
        (λ ge. absurd (let none = laid-past maps (λ p. slice_index xs p) (λ j. slice_index ms j) q ge in omega (arith, none, e)))
        (cases_lt q most_cells)

-- a data page is free, or a head or a map page names it, or it is held alone
one_of : (t : TableView) → IsTable t → (a : ℕ) → a < t.counts.leaves → (free named held : Bool) → is_free_number t.free_leaves a ≡ free → heads_name most_cells (layouts_in t) (suc a) ≡ named → is_held t a ≡ held → one free + one named + one (held && not named) ≡ 1
one_of t is a lt true true held f n h = let at = found_cell most_cells (layouts_in t) (suc a) n in absurd (((is.free_leaves a).0 f).unnamed at.0 at.1 at.3)
one_of t is a lt false true true f n h = refl
one_of t is a lt false true false f n h = refl
one_of t is a lt true false true f n h = absurd (true≢false (sym h ∙ ((is.free_leaves a).0 f).loose))
one_of t is a lt true false false f n h = refl
one_of t is a lt false false true f n h = refl
one_of t is a lt false false false f n h = absurd (true≢false (sym ((is.free_leaves a).1 (record {
  below = lt;
  loose = h;
  unnamed = λ slot q e. true≢false (sym (cell_named most_cells (layouts_in t) a slot q (cell_below (kept_entry t.maps) t.heads slot q a e) e) ∙ n);
})) ∙ f))

pub pages_counted : (t : TableView) → IsTable t
    → free_numbers t.free_leaves + how_many (λ a. heads_name most_cells (layouts_in t) (suc a)) t.counts.leaves + how_many (λ a. is_held t a && not (heads_name most_cells (layouts_in t) (suc a))) t.counts.leaves ≡ t.counts.leaves
pages_counted t is =
    let kinds = one_kind (λ a. is_free_number t.free_leaves a) (λ a. heads_name most_cells (layouts_in t) (suc a)) (λ a. is_held t a && not (heads_name most_cells (layouts_in t) (suc a))) t.counts.leaves
    (λ a lt. one_of t is a lt (is_free_number t.free_leaves a) (heads_name most_cells (layouts_in t) (suc a)) (is_held t a) refl refl refl) in
    let free = flags_count t.free_leaves.flags in let long = ap (how_many (λ a. is_free_number t.free_leaves a)) is.leaf_count in omega (arith, kinds, free, long)
