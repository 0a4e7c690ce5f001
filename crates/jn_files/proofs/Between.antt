-- One slot's layout becomes another: where data pages are named then.
use Rattle.jn_files.proofs.Common.{◌≡◌, ◌≢◌, ◌⊎◌, inl, inr, ⊎_elim, ◌<◌, ℕ, suc, Bool, true, false, List, length, refl, sym, ap, subst, ◌∙◌, arith, true≢false, slice_index_or, slice_set, cases_eq, cases_lt, cases_Bool, get_or-set_same, get_or-set_other, get_or_past, length-set, Layout, Unused, at_cell, layout_at, IsUnnamed, AreNamedOnce, IsNamedPage, AreNamed}
use Rattle.jn_files.proofs.Freeing.{Clears}

-- a flag that is set stands in the list
pub set_below : (flags : List Bool) (a : ℕ) → slice_index_or flags a false ≡ true → a < length flags
set_below flags a e = elim (cases_lt a (length flags)) [
  | inl lt ↦ lt
  | inr past ↦ absurd (true≢false (sym e ∙ get_or_past flags a false past))
]

-- ---- one slot

-- each data page that the new layout names stands nowhere else in the old ones, and once in the new
pub record NamesOnce (layouts : List Layout) (slot : ℕ) (new : Layout) : Type 0 where
  pub elsewhere : (a p j q : ℕ) → at_cell new p ≡ suc a → at_cell (layout_at layouts j) q ≡ suc a → (j ≡ slot) × (q ≡ p)
  pub once : (a p q : ℕ) → at_cell new p ≡ suc a → at_cell new q ≡ suc a → p ≡ q

module _ (layouts : List Layout) (slot : ℕ) (new : Layout) (below : slot < length layouts) where
  abbrev old : Layout
  old = layout_at layouts slot

  abbrev after : List Layout
  after = slice_set layouts slot new

  pub layout_here : (j : ℕ) → j ≡ slot → layout_at after j ≡ new
  layout_here j e = ap (layout_at after) e ∙ get_or-set_same layouts slot new Unused below

  pub layout_off : (j : ℕ) → j ≢ slot → layout_at after j ≡ layout_at layouts j
  layout_off j ne = get_or-set_other layouts slot j new Unused ne

  to_new : (j p a : ℕ) → j ≡ slot → at_cell (layout_at after j) p ≡ suc a → at_cell new p ≡ suc a
  to_new j p a e at = ap (λ (h : Layout). at_cell h p) (sym (layout_here j e)) ∙ at

  to_old : (j p a : ℕ) → j ≢ slot → at_cell (layout_at after j) p ≡ suc a → at_cell (layout_at layouts j) p ≡ suc a
  to_old j p a ne at = ap (λ (h : Layout). at_cell h p) (sym (layout_off j ne)) ∙ at

  pub named_once : AreNamedOnce layouts → NamesOnce layouts slot new → AreNamedOnce after
  named_once are names a i p j q at_i at_j = elim (cases_eq i slot) [
    | inl e ↦ elim (cases_eq j slot) [
      | inl d ↦ (e ∙ sym d, names.once a p q (to_new i p a e at_i) (to_new j q a d at_j))
      | inr nd ↦ absurd (nd (names.elsewhere a p j q (to_new i p a e at_i) (to_old j q a nd at_j)).0)
    ]
    | inr ne ↦ elim (cases_eq j slot) [
      | inl d ↦ absurd (ne (names.elsewhere a q i p (to_new j q a d at_j) (to_old i p a ne at_i)).0)
      | inr nd ↦ are a i p j q (to_old i p a ne at_i) (to_old j q a nd at_j)
    ]
  ]

  -- ---- flags

  module _ (are : AreNamedOnce layouts) (flags now : List Bool) (named : AreNamed layouts flags) (count : length now ≡ length flags)
      (set : (a : ℕ) → slice_index_or now a false ≡ true → ((slice_index_or flags a false ≡ true) × ((q : ℕ) → at_cell old q ≡ suc a → at_cell new q ≡ suc a)) ⊎ ((q : ℕ) × (at_cell new q ≡ suc a)))
      (clear : (a q : ℕ) → slice_index_or now a false ≡ false → a < length flags → at_cell new q ≢ suc a)
      (dropped : (a : ℕ) → slice_index_or flags a false ≡ true → slice_index_or now a false ≡ false → (q : ℕ) × (at_cell old q ≡ suc a)) where
    -- what has a name has its flag
    flag_set : (a j q : ℕ) → a < length flags → at_cell (layout_at layouts j) q ≡ suc a → slice_index_or flags a false ≡ true
    flag_set a j q lt at = elim (cases_Bool (slice_index_or flags a false)) [
      | inl e ↦ e
      | inr none ↦ absurd (named.clear a lt none j q at)
    ]

    at_slot : (a j q : ℕ) → ((r : ℕ) → at_cell old r ≡ suc a → at_cell new r ≡ suc a) → at_cell (layout_at layouts j) q ≡ suc a → IsNamedPage after a
    at_slot a j q kept at = elim (cases_eq j slot) [
      | inl e ↦ named_at slot q (ap (λ (h : Layout). at_cell h q) (layout_here slot refl) ∙ kept q (subst (λ (k : ℕ). at_cell (layout_at layouts k) q ≡ suc a) e at))
      | inr ne ↦ named_at j q (ap (λ (h : Layout). at_cell h q) (layout_off j ne) ∙ at)
    ]
      where
        named_at : (k r : ℕ) → at_cell (layout_at after k) r ≡ suc a → IsNamedPage after a
        named_at k r e = record { slot = k; cell = r; here = e }

    now_set : (a : ℕ) → a < length now → slice_index_or now a false ≡ true → IsNamedPage after a
    now_set a lt e = ⊎_elim
        (λ was. let page = named.set a (let c = count in omega arith) was.0 in at_slot a page.slot page.cell was.1 page.here)
        (λ is. let page : IsNamedPage after a = record { slot = slot; cell = is.0; here = ap (λ (h : Layout). at_cell h is.0) (layout_here slot refl) ∙ is.1 } in page)
        (set a e)

    now_clear : (a : ℕ) → a < length now → slice_index_or now a false ≡ false → IsUnnamed after a
    now_clear a lt e j q at =
        let below_flags : a < length flags = let c = count in omega arith in
        elim (cases_eq j slot) [
          | inl same ↦ clear a q e below_flags (to_new j q a same at)
          | inr ne ↦
              let here = to_old j q a ne at in
              let old_cell = dropped a (flag_set a j q below_flags here) e in
              ne (are a j q slot old_cell.0 here old_cell.1).0
        ]

    pub named_again : AreNamed after now
    named_again = record { set = λ a lt e. now_set a lt e; clear = λ a lt e. now_clear a lt e }

-- ---- what comes and what goes

-- The new layout has at each cell what the old one has, or a data page that comes and stood nowhere else; what goes leaves its cell.
pub record Moves (layouts : List Layout) (slot : ℕ) (new : Layout) (comes : ℕ → ℕ → Type 0) (goes : ℕ → Type 0) : Type 0 where
  pub origin : (q a : ℕ) → at_cell new q ≡ suc a → comes q a ⊎ (at_cell (layout_at layouts slot) q ≡ suc a)
  pub here : (q a : ℕ) → comes q a → at_cell new q ≡ suc a
  pub elsewhere : (q a : ℕ) → comes q a → (j r : ℕ) → at_cell (layout_at layouts j) r ≡ suc a → (j ≡ slot) × (r ≡ q)
  pub alone : (q r a : ℕ) → comes q a → comes r a → q ≡ r
  pub stays : (q a : ℕ) → at_cell (layout_at layouts slot) q ≡ suc a → (at_cell new q ≡ suc a) ⊎ goes a
  pub left : (a : ℕ) → goes a → (r : ℕ) × (at_cell (layout_at layouts slot) r ≡ suc a) × (at_cell new r ≡ suc a → comes r a)

-- the flags of what comes are set
pub record Marks (comes : ℕ → ℕ → Type 0) (flags now : List Bool) : Type 0 where
  pub count : length now ≡ length flags
  pub set : (a : ℕ) → slice_index_or now a false ≡ true → (slice_index_or flags a false ≡ true) ⊎ ((q : ℕ) × comes q a)
  pub clear : (a : ℕ) → slice_index_or now a false ≡ false → (slice_index_or flags a false ≡ false) × ((q : ℕ) → comes q a → ⊥)

module _ (layouts : List Layout) (slot : ℕ) (new : Layout) (comes : ℕ → ℕ → Type 0) (goes : ℕ → Type 0) (moves : Moves layouts slot new comes goes) (are : AreNamedOnce layouts) where
  pub moves_once : NamesOnce layouts slot new
  moves_once = record {
    elsewhere = λ a p j q here at. ⊎_elim (λ f. moves.elsewhere p a f j q at) (λ was. are a j q slot p at was) (moves.origin p a here);
    once = λ a p q at_p at_q. ⊎_elim
        (λ f. ⊎_elim (λ g. moves.alone p q a f g) (λ was. sym (moves.elsewhere p a f slot q was).1) (moves.origin q a at_q))
        (λ was. ⊎_elim (λ g. (moves.elsewhere q a g slot p was).1) (λ also. (are a slot p slot q was also).1) (moves.origin q a at_q))
        (moves.origin p a at_p);
  }

  module _ (below : slot < length layouts) (flags less now : List Bool) (clears : Clears goes flags less) (marks : Marks comes less now) (named : AreNamed layouts flags) where
    was_flag : (a q : ℕ) → a < length flags → at_cell (layout_at layouts slot) q ≡ suc a → slice_index_or flags a false ≡ true
    was_flag a q lt at = elim (cases_Bool (slice_index_or flags a false)) [
      | inl e ↦ e
      | inr none ↦ absurd (named.clear a lt none slot q at)
    ]

    not_new : (a q : ℕ) → slice_index_or now a false ≡ false → a < length flags → at_cell new q ≢ suc a
    not_new a q e lt here =
        let gone = marks.clear a e in
        ⊎_elim (λ f. gone.1 q f)
        (λ was.
        let left = moves.left a (clears.cleared a (was_flag a q lt was) gone.0) in
        let same : left.0 ≡ q = (are a slot left.0 slot q left.1 was).1 in
        gone.1 left.0 (left.2 (ap (at_cell new) same ∙ here)))
        (moves.origin q a here)

    pub moves_named : AreNamed (slice_set layouts slot new) now
    moves_named = named_again layouts slot new below are flags now named (marks.count ∙ clears.count)
        (λ a e. ⊎_elim
        (λ set. inl (clears.still a set, λ q at. ⊎_elim (λ h. h) (λ g. absurd (clears.kept a set g)) (moves.stays q a at)))
        (λ f. inr (f.0, moves.here f.0 a f.1))
        (marks.set a e))
        (λ a q e lt. not_new a q e lt)
        (λ a was e. let left = moves.left a (clears.cleared a was (marks.clear a e).0) in (left.0, left.1))

-- nothing comes
abbrev pub Nothing : ℕ → ℕ → Type 0
Nothing q a = ⊥

pub marks_nothing : (flags : List Bool) → Marks Nothing flags flags
marks_nothing flags = record { count = refl; set = λ a e. inl e; clear = λ a e. (e, λ q f. f) }

-- one data page comes to one cell
abbrev pub One : ℕ → ℕ → ℕ → ℕ → Type 0
One p b q a = (q ≡ p) × (a ≡ b)

pub marks_one : (p b : ℕ) (flags : List Bool) → b < length flags → Marks (One p b) flags (slice_set flags b true)
marks_one p b flags lt = record {
  count = length-set flags b true;
  set = λ a e. elim (cases_eq a b) [
    | inl same ↦ inr (p, (refl, same))
    | inr ne ↦ inl (sym (get_or-set_other flags b a true false ne) ∙ e)
  ];
  clear = λ a e. elim (cases_eq a b) [
    | inl same ↦ absurd (true≢false (sym (ap (λ (k : ℕ). slice_index_or (slice_set flags b true) k false) same ∙ get_or-set_same flags b true false lt) ∙ e))
    | inr ne ↦ (sym (get_or-set_other flags b a true false ne) ∙ e, λ q f. ne f.1)
  ];
}

-- and another to another
abbrev pub Two : ℕ → ℕ → ℕ → ℕ → ℕ → ℕ → Type 0
Two p b r d q a = One p b q a ⊎ One r d q a

pub marks_two : (p b r d : ℕ) (flags some now : List Bool) → Marks (One p b) flags some → Marks (One r d) some now → Marks (Two p b r d) flags now
marks_two p b r d flags some now one two = record {
  count = two.count ∙ one.count;
  set = λ a e. ⊎_elim (λ set. ⊎_elim (λ was. inl was) (λ f. inr (f.0, inl f.1)) (one.set a set)) (λ f. inr (f.0, inr f.1)) (two.set a e);
  clear = λ a e. let second = two.clear a e in let first_part = one.clear a second.0 in (first_part.0, λ q. ⊎_elim (λ f. first_part.1 q f) (λ f. second.1 q f));
}
