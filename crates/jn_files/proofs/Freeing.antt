-- Which flags of data pages are cleared as addresses go.
use Rattle.jn_files.proofs.Common.{◌≡◌, ◌⊎◌, inl, inr, ⊎_elim, ◌≤◌, ◌+◌, ◌-◌, ℕ, zero, suc, Bool, true, false, List, [], ◌∷◌, length, drop, refl, sym, ap, subst, ◌∙◌, arith, true≢false, cases_eq, cases_lt, cases_Bool, nat_tests, get_or-set_same, get_or-set_other, get_or_past, length-set, get_or-drop, slice_index, slice_index_or, slice_set, nat_eq, if◌then◌else◌, through, kept_entry, row_at, kept_maps, unnamed_one, unnamed_all, unnamed_map, unnamed_maps}

-- flags that were set and aren't are those of data pages that are gone, and no flag is set anew
pub record Clears (gone : ℕ → Type 0) (flags less : List Bool) : Type 0 where
  pub count : length less ≡ length flags
  pub still : (a : ℕ) → slice_index_or less a false ≡ true → slice_index_or flags a false ≡ true
  pub kept : (a : ℕ) → slice_index_or less a false ≡ true → gone a → ⊥
  pub cleared : (a : ℕ) → slice_index_or flags a false ≡ true → slice_index_or less a false ≡ false → gone a

pub clears_as : (P Q : ℕ → Type 0) (flags less : List Bool) → ((a : ℕ) → P a → Q a) → ((a : ℕ) → Q a → P a) → Clears P flags less → Clears Q flags less
clears_as P Q flags less to from is = record {
  count = is.count;
  still = is.still;
  kept = λ a e q. is.kept a e (from a q);
  cleared = λ a e d. to a (is.cleared a e d);
}

pub clears_then : (P Q : ℕ → Type 0) (flags some less : List Bool) → Clears P flags some → Clears Q some less → Clears (λ a. P a ⊎ Q a) flags less
clears_then P Q flags some less one two = record {
  count = two.count ∙ one.count;
  still = λ a e. one.still a (two.still a e);
  kept = λ a e. ⊎_elim (λ p. one.kept a (two.still a e) p) (λ q. two.kept a e q);
  cleared = λ a e d. elim (cases_Bool (slice_index_or some a false)) [
    | inl set ↦ inr (two.cleared a set d)
    | inr clear ↦ inl (one.cleared a e clear)
  ];
}

pub clears_nothing : (P : ℕ → Type 0) (flags : List Bool) → ((a : ℕ) → P a → ⊥) → Clears P flags flags
clears_nothing P flags none = record {
  count = refl;
  still = λ a e. e;
  kept = λ a e p. none a p;
  cleared = λ a e d. absurd (true≢false (sym e ∙ d));
}

-- a flag that is cleared, wherever it stands
cleared_at : (flags : List Bool) (b : ℕ) → slice_index_or (slice_set flags b false) b false ≡ false
cleared_at flags b = elim (cases_lt b (length flags)) [
  | inl lt ↦ get_or-set_same flags b false false lt
  | inr ge ↦ get_or_past (slice_set flags b false) b false (subst (λ (n : ℕ). n ≤ b) (sym (length-set flags b false)) ge)
]

less_one : (b : ℕ) → suc b - 1 ≡ b
less_one b = omega arith

clears_page : (b : ℕ) (flags : List Bool) → Clears (λ a. suc b ≡ suc a) flags (slice_set flags b false)
clears_page b flags = record {
  count = length-set flags b false;
  still = λ a e. elim (cases_eq a b) [
    | inl same ↦ absurd (true≢false (sym e ∙ at a same))
    | inr ne ↦ sym (get_or-set_other flags b a false false ne) ∙ e
  ];
  kept = λ a e same. true≢false (sym e ∙ at a (let back : a ≡ b = omega arith in back));
  cleared = λ a e d. elim (cases_eq a b) [
    | inl same ↦ ap suc (sym same)
    | inr ne ↦ absurd (true≢false (sym e ∙ sym (get_or-set_other flags b a false false ne) ∙ d))
  ];
}
  where
    at : (a : ℕ) → a ≡ b → slice_index_or (slice_set flags b false) a false ≡ false
    at a same = ap (λ (k : ℕ). slice_index_or (slice_set flags b false) k false) same ∙ cleared_at flags b

pub clears_one : (x : ℕ) (flags : List Bool) → Clears (λ a. x ≡ suc a) flags (unnamed_one x flags)
clears_one zero flags = clears_nothing (λ a. zero ≡ suc a) flags (λ a e. omega (arith, e))
clears_one (suc b) flags = subst (λ (l : List Bool). Clears (λ a. suc b ≡ suc a) flags l) (sym one_is) (clears_page b flags)
  where
    one_is : unnamed_one (suc b) flags ≡ slice_set flags b false
    one_is = let t : nat_eq (suc b) 0 ≡ false = grind (arith, nat_tests) in ap (λ (c : Bool). if c then flags else slice_set flags (suc b - 1) false) t ∙ ap (λ (k : ℕ). slice_set flags k false) (less_one b)

pub clears_all : (xs : List ℕ) (flags : List Bool) → Clears (λ a. (k : ℕ) × (slice_index xs k ≡ suc a)) flags (unnamed_all xs flags)
clears_all [] flags = clears_nothing (λ a. (k : ℕ) × (slice_index [] k ≡ suc a)) flags (λ a h. let e = h.1 in omega (arith, e))
clears_all (x ∷ xs) flags = clears_as (λ a. (x ≡ suc a) ⊎ ((k : ℕ) × (slice_index xs k ≡ suc a))) (λ a. (k : ℕ) × (slice_index (x ∷ xs) k ≡ suc a)) flags (unnamed_all (x ∷ xs) flags)
    to from (clears_then (λ a. x ≡ suc a) (λ a. (k : ℕ) × (slice_index xs k ≡ suc a)) flags (unnamed_one x flags) (unnamed_all (x ∷ xs) flags) (clears_one x flags) (clears_all xs (unnamed_one x flags)))
  where
    to : (a : ℕ) → (x ≡ suc a) ⊎ ((k : ℕ) × (slice_index xs k ≡ suc a)) → (k : ℕ) × (slice_index (x ∷ xs) k ≡ suc a)
    to a (inl e) = (0, e)
    to a (inr h) = (suc h.0, h.1)

    from : (a : ℕ) → (k : ℕ) × (slice_index (x ∷ xs) k ≡ suc a) → (x ≡ suc a) ⊎ ((k : ℕ) × (slice_index xs k ≡ suc a))
    from a h = by h.0 h.1
      where
        by : (k : ℕ) → slice_index (x ∷ xs) k ≡ suc a → (x ≡ suc a) ⊎ ((k : ℕ) × (slice_index xs k ≡ suc a))
        by zero e = inl e
        by (suc k) e = inr (k, e)

-- a map page's address leads to it, and to what it has
abbrev pub LeadsTo : List (List ℕ) → ℕ → ℕ → Type 0
LeadsTo rows m a = ((k : ℕ) × (through (kept_entry rows) m k ≡ suc a)) ⊎ (m ≡ suc a)

pub clears_map : (rows : List (List ℕ)) (m : ℕ) (flags : List Bool) → Clears (λ a. LeadsTo rows m a) flags (unnamed_map rows m flags)
clears_map rows zero flags = clears_nothing (λ a. LeadsTo rows zero a) flags none
  where
    none : (a : ℕ) → LeadsTo rows zero a → ⊥
    none a (inl h) = let e = h.1 in omega (arith, e)
    none a (inr e) = omega (arith, e)
clears_map rows (suc d) flags = clears_then (λ a. (k : ℕ) × (slice_index (row_at rows d) k ≡ suc a)) (λ a. suc d ≡ suc a) flags (unnamed_all (row_at rows d) flags) (unnamed_map rows (suc d) flags)
    (clears_all (row_at rows d) flags) (clears_one (suc d) (unnamed_all (row_at rows d) flags))

pub clears_maps : (rows : List (List ℕ)) (ms : List ℕ) (flags : List Bool) → Clears (λ a. (j : ℕ) × LeadsTo rows (slice_index ms j) a) flags (unnamed_maps rows ms flags)
clears_maps rows [] flags = clears_nothing (λ a. (j : ℕ) × LeadsTo rows (slice_index [] j) a) flags (λ a h. none a h.1)
  where
    none : (a : ℕ) → LeadsTo rows zero a → ⊥
    none a (inl h) = let e = h.1 in omega (arith, e)
    none a (inr e) = omega (arith, e)
clears_maps rows (m ∷ ms) flags = clears_as (λ a. LeadsTo rows m a ⊎ ((j : ℕ) × LeadsTo rows (slice_index ms j) a)) (λ a. (j : ℕ) × LeadsTo rows (slice_index (m ∷ ms) j) a) flags (unnamed_maps rows (m ∷ ms) flags)
    to from (clears_then (λ a. LeadsTo rows m a) (λ a. (j : ℕ) × LeadsTo rows (slice_index ms j) a) flags (unnamed_map rows m flags) (unnamed_maps rows (m ∷ ms) flags) (clears_map rows m flags) (clears_maps rows ms (unnamed_map rows m flags)))
  where
    to : (a : ℕ) → LeadsTo rows m a ⊎ ((j : ℕ) × LeadsTo rows (slice_index ms j) a) → (j : ℕ) × LeadsTo rows (slice_index (m ∷ ms) j) a
    to a (inl h) = (0, h)
    to a (inr h) = (suc h.0, h.1)

    from : (a : ℕ) → (j : ℕ) × LeadsTo rows (slice_index (m ∷ ms) j) a → LeadsTo rows m a ⊎ ((j : ℕ) × LeadsTo rows (slice_index ms j) a)
    from a h = by h.0 h.1
      where
        by : (j : ℕ) → LeadsTo rows (slice_index (m ∷ ms) j) a → LeadsTo rows m a ⊎ ((j : ℕ) × LeadsTo rows (slice_index ms j) a)
        by zero e = inl e
        by (suc j) e = inr (j, e)

-- a head's blocks from n on, and the map pages that a cut at n doesn't keep, lead to it
abbrev pub LeadsFrom : List (List ℕ) → ℕ → List ℕ → List ℕ → ℕ → Type 0
LeadsFrom rows n xs maps a = ((k : ℕ) × (slice_index (drop n xs) k ≡ suc a)) ⊎ ((j : ℕ) × LeadsTo rows (slice_index (drop (kept_maps n) maps) j) a)

pub clears_from : (rows : List (List ℕ)) (n : ℕ) (xs maps : List ℕ) (flags : List Bool) → Clears (λ a. LeadsFrom rows n xs maps a) flags (unnamed_maps rows (drop (kept_maps n) maps) (unnamed_all (drop n xs) flags))
clears_from rows n xs maps flags = clears_then (λ a. (k : ℕ) × (slice_index (drop n xs) k ≡ suc a)) (λ a. (j : ℕ) × LeadsTo rows (slice_index (drop (kept_maps n) maps) j) a) flags (unnamed_all (drop n xs) flags)
    (unnamed_maps rows (drop (kept_maps n) maps) (unnamed_all (drop n xs) flags)) (clears_all (drop n xs) flags) (clears_maps rows (drop (kept_maps n) maps) (unnamed_all (drop n xs) flags))

pub index_past : (n : ℕ) (xs : List ℕ) (k : ℕ) → slice_index (drop n xs) k ≡ slice_index xs (n + k)
index_past n xs k = get_or-drop n xs k 0
