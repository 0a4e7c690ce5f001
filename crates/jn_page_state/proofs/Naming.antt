-- Which data pages layouts and prepared works name, cell by cell.
use Rattle.jn_page_state.proofs.Common.{◌≡◌, ◌⊎◌, inl, inr, ℕ, suc, ◌<◌, ◌≤◌, ◌-◌, ◌/◌, Bool, true, false, ◌&&◌, ◌||◌, List, refl, sym, ◌∙◌, ap, true≢false, and_parts, arith, nat_tests, nat_eq, slice_index, slice_index_or, list_any, StoredIntention, Record, Free, Intention, Ready, Going, FlagRecord, record_in, is_prepared, head_blocks, most_cells, Head, FreeHead, Used, Layout, Unused, map_cell, at_cell, layout_by, layouts_by, layout_at, has_address, names_address, heads_name, holds_intention, works_have, Intends, Addresses, Gives, or_left, or_right, has-at, has-found, laid-past, get-map}
use Rattle.jn_page_state.proofs.Slots.{passes_at, passes_any}

pub either : (a b : Bool) → (a || b) ≡ true → (a ≡ true) ⊎ (b ≡ true)
either true b h = inl refl
either false b h = inr h

same : (m n : ℕ) → m ≡ n → nat_eq m n ≡ true
same m n h = grind (arith, nat_tests, h)

-- ---- intentions of prepared works

-- some such intention passes the test
pub held_intends : (test : StoredIntention → Bool) (pool : List Record) → works_have test pool ≡ true → (i : ℕ) × (s : StoredIntention) × Intends pool i s × (test s ≡ true)
held_intends test pool held = let at = passes_at (holds_intention test pool) Free pool held in by at.0 (record_in pool at.0) refl at.1
  where
    by : (i : ℕ) (r : Record) → record_in pool i ≡ r → holds_intention test pool r ≡ true → (i : ℕ) × (s : StoredIntention) × Intends pool i s × (test s ≡ true)
    by i Free e t = absurd (true≢false (sym t))
    by i (Ready head n reads) e t = absurd (true≢false (sym t))
    by i (Going head n reads) e t = absurd (true≢false (sym t))
    by i (FlagRecord f) e t = absurd (true≢false (sym t))
    by i (Intention w u k s) e t = let h = and_parts (test s) (list_any (is_prepared w) pool) t in (i, s, record { work = w; tid = u; order = k; stands = e; prepared = h.1 }, h.0)

pub intends_held : (test : StoredIntention → Bool) (pool : List Record) (i : ℕ) (s : StoredIntention) → Intends pool i s → test s ≡ true → works_have test pool ≡ true
intends_held test pool i s h t = passes_any (holds_intention test pool) Free pool i refl (ap (holds_intention test pool) h.stands ∙ ap (λ b. b && list_any (is_prepared h.work) pool) t ∙ h.prepared)

-- what it gives is what it names
pub gives_address : (s : StoredIntention) (d q : ℕ) → Gives s d q → names_address (suc d) s ≡ true
gives_address s d q (inl h) = or_left (nat_eq s.address (suc d)) (nat_eq s.map (suc d)) (same s.address (suc d) h.0)
gives_address s d q (inr h) = or_right (nat_eq s.address (suc d)) (nat_eq s.map (suc d)) (same s.map (suc d) h.0)

-- ---- layouts

none_unused : (n d : ℕ) → has_address n (suc d) Unused ≡ false
none_unused n d = by (has_address n (suc d) Unused) refl
  where
    by : (b : Bool) → has_address n (suc d) Unused ≡ b → b ≡ false
    by true e = let h = has-found Unused n (suc d) e in absurd (omega (arith, h.2))
    by false e = refl

-- a cell that has a data page
pub cell_named : (n : ℕ) (layouts : List Layout) (i q d : ℕ) → q < n → Addresses layouts i q d → heads_name n layouts (suc d) ≡ true
cell_named n layouts i q d below h = passes_any (has_address n (suc d)) Unused layouts i (none_unused n d) (has-at (layout_at layouts i) n (suc d) q below h)

pub named_cell : (n : ℕ) (layouts : List Layout) (d : ℕ) → heads_name n layouts (suc d) ≡ true → (i : ℕ) × (q : ℕ) × (q < n) × Addresses layouts i q d
named_cell n layouts d named = let at = passes_at (has_address n (suc d)) Unused layouts named in let h = has-found (layout_at layouts at.0) n (suc d) at.1 in (at.0, h.0, h.1, h.2)

-- each stands below the last one
pub cell_within : (maps : ℕ → ℕ → ℕ) (heads : List Head) (i q d : ℕ) → Addresses (layouts_by maps heads) i q d → q < most_cells
cell_within maps heads i q d h = by (slice_index_or heads i FreeHead) (ap (λ l. at_cell l q) (sym (get-map (layout_by maps) heads i FreeHead)) ∙ h)
  where
    past : (q : ℕ) → (most_cells ≤ q → ⊥) → q < most_cells
    past q no_more = omega (arith, no_more)

    by : (head : Head) → at_cell (layout_by maps head) q ≡ suc d → q < most_cells
    by FreeHead e = absurd (omega (arith, e))
    by (Used f xs ms) e = past q (λ le. let none = laid-past maps (λ p. slice_index xs p) (λ j. slice_index ms j) q le in omega (arith, none, e))
