-- A table in memory stands by its heads, the rows of its map pages, and the flags of what is named.
use Rattle.jn_files.proofs.Common.{◌≡◌, ◌≢◌, inl, inr, ◌<◌, ◌^◌, ℕ, Bool, true, false, List, length, Result, Ok, Err, refl, sym, ap, ◌∙◌, arith, slice_set, slice_index_or, not, ◌&&◌, OnOk, OnErr, cases_eq, cases_lt, false_from_ne_true, get_or-set_same, get_or-set_other, length-set, get_or_past, FreeNumbers, count_of, is_free_number, with_promised, Head, Free, PageCounts, IsTable, AreHeads, IsFreeLeaf, IsUnnamed, head_in, is_free, layouts_of, IsChanged, AreNamed, AreFree, IsKeptTable, table_view}
use Rattle.std.proofs.lemmas.Bool.{true≢false}
use Rattle.jn_files.specs.Inside.{Counts}

pub head_at_slot : (heads : List Head) (slot : ℕ) (h : Head) (j : ℕ) → slot < length heads → j ≡ slot → head_in (slice_set heads slot h) j ≡ h
head_at_slot heads slot h j below e = rw e (get_or-set_same heads slot h Free below)

pub head_off_slot : (heads : List Head) (slot : ℕ) (h : Head) (j : ℕ) → j ≢ slot → head_in (slice_set heads slot h) j ≡ head_in heads j
head_off_slot heads slot h j ne = get_or-set_other heads slot j h Free ne

-- ---- what is free, by flags of what is held and named

neither : (x y : Bool) → (not x && not y) ≡ true → (x ≡ false) × (y ≡ false)
neither false false e = (refl, refl)
neither false true e = absurd (true≢false (sym e))
neither true y e = absurd (true≢false (sym e))

pub unnamed_clear : (rows : List (List ℕ)) (heads : List Head) (named : List Bool) → AreNamed (layouts_of rows heads) named → (a : ℕ) → a < length named → IsUnnamed (layouts_of rows heads) a → slice_index_or named a false ≡ false
unnamed_clear rows heads named names a lt unnamed = false_from_ne_true (slice_index_or named a false) (λ e. let at = names.set a lt e in unnamed at.slot at.cell at.here)

-- what is free in a table
pub free_by : (pool : ℕ) (heads : List Head) (rows : List (List ℕ)) (held touched named : List Bool) (fh fl : FreeNumbers) → IsKeptTable pool heads rows held touched named fh fl → AreFree held named fl
free_by pool heads rows held touched named fh fl kept = record { names = kept.pages; count = kept.table.leaf_count; each = each }
  where
    below : (a : ℕ) → a < length held → a < length named
    below a lt = let e = kept.pages in omega (arith, lt, e)

    used : (a : ℕ) → (IsFreeLeaf (table_view pool heads rows held touched fh fl) a → ⊥) → is_free_number fl a ≡ false
    used a not_so = false_from_ne_true (is_free_number fl a) (λ free. not_so ((kept.table.free_leaves a).0 free))

    by : (a : ℕ) → a < length held → (x y : Bool) → slice_index_or held a false ≡ x → slice_index_or named a false ≡ y → is_free_number fl a ≡ (not x && not y)
    by a lt true y h n = used a (λ leaf. true≢false (sym h ∙ leaf.loose))
    by a lt false true h n = used a (λ leaf. let at = kept.names.set a (below a lt) n in leaf.unnamed at.slot at.cell at.here)
    by a lt false false h n = (kept.table.free_leaves a).1 (record { below = lt; loose = h; unnamed = kept.names.clear a (below a lt) n })

    each : (a : ℕ) → a < length held → is_free_number fl a ≡ (not (slice_index_or held a false) && not (slice_index_or named a false))
    each a lt = by a lt (slice_index_or held a false) (slice_index_or named a false) refl refl

-- so it stands
pub kept_by : (pool : ℕ) (heads : List Head) (rows : List (List ℕ)) (held touched named : List Bool) (fh fl : FreeNumbers) → AreHeads (length held) rows heads → length heads < 2 ^ 16 → length held < 2 ^ 16 → length touched ≡ length held
    → count_of fh ≡ length heads → ((slot : ℕ) → slot < length heads → is_free_number fh slot ≡ is_free (head_in heads slot)) → AreNamed (layouts_of rows heads) named → AreFree held named fl
    → IsKeptTable pool heads rows held touched named fh fl
kept_by pool heads rows held touched named fh fl are few_heads few_leaves touches head_count head_free names frees = record {
  table = record {
    heads = are;
    slots = refl;
    leaves = refl;
    touches = touches;
    few_heads = few_heads;
    few_leaves = few_leaves;
    head_count = head_count;
    free_heads = head_free;
    leaf_count = frees.count;
    free_leaves = λ a. (to a, from a);
  };
  pages = frees.names;
  names = names;
}
  where
    wide : (a : ℕ) → a < length held → a < length named
    wide a lt = let e = frees.names in omega (arith, lt, e)

    to : (a : ℕ) → is_free_number fl a ≡ true → IsFreeLeaf (table_view pool heads rows held touched fh fl) a
    to a free = elim (cases_lt a (length held)) [
      | inl lt ↦ let both = neither (slice_index_or held a false) (slice_index_or named a false) (sym (frees.each a lt) ∙ free) in record { below = lt; loose = both.0; unnamed = names.clear a (wide a lt) both.1 }
      | inr past ↦ absurd (let none : is_free_number fl a ≡ false = get_or_past fl.flags a false (let long = frees.count in omega (arith, long, past)) in true≢false (sym free ∙ none))
    ]

    from : (a : ℕ) → IsFreeLeaf (table_view pool heads rows held touched fh fl) a → is_free_number fl a ≡ true
    from a leaf =
        let loose = leaf.loose in
        let clear : slice_index_or named a false ≡ false = unnamed_clear rows heads named names a (wide a leaf.below) leaf.unnamed in
        frees.each a leaf.below ∙ ap (λ (x : Bool). not x && not (slice_index_or named a false)) loose ∙ ap (λ (x : Bool). not x) clear

-- what is promised is no part of it
pub kept_flags : (pool : ℕ) (heads : List Head) (rows : List (List ℕ)) (held touched named : List Bool) (fh fl fh2 fl2 : FreeNumbers) → fh2.flags ≡ fh.flags → fl2.flags ≡ fl.flags → IsKeptTable pool heads rows held touched named fh fl
    → IsKeptTable pool heads rows held touched named fh2 fl2
kept_flags pool heads rows held touched named fh fl fh2 fl2 same_heads same_leaves kept =
    let frees = free_by pool heads rows held touched named fh fl kept in
    let table = kept.table in
    kept_by pool heads rows held touched named fh2 fl2 table.heads table.few_heads table.few_leaves table.touches (ap length same_heads ∙ table.head_count)
    (λ slot lt. ap (λ (l : List Bool). slice_index_or l slot false) same_heads ∙ table.free_heads slot lt) kept.names (record {
      names = frees.names;
      count = ap length same_leaves ∙ frees.count;
      each = λ a lt. ap (λ (l : List Bool). slice_index_or l a false) same_leaves ∙ frees.each a lt;
    })

-- a promise that is given or isn't
pub promise_flags : {A E : Type 0} (r : Result A E) (old new : FreeNumbers) (n : ℕ) → OnOk r (new ≡ with_promised old n) → OnErr r (new ≡ old) → new.flags ≡ old.flags
promise_flags (Ok x) old new n ok err = ap (λ (v : FreeNumbers). v.flags) ok
promise_flags (Err x) old new n ok err = ap (λ (v : FreeNumbers). v.flags) err

-- ---- one table becomes another

pub changed_to : (pool : ℕ) (heads new_heads : List Head) (rows new_rows : List (List ℕ)) (held touched : List Bool) (fh fl fh2 fl2 : FreeNumbers) → length new_heads ≡ length heads → fh2.promised ≡ fh.promised → fl2.promised ≡ fl.promised
    → IsTable (table_view pool new_heads new_rows held touched fh2 fl2)
    → IsChanged (table_view pool heads rows held touched fh fl) new_heads new_rows (table_view pool new_heads new_rows held touched fh2 fl2)
changed_to pool heads new_heads rows new_rows held touched fh fl fh2 fl2 long promised_heads promised_leaves table = record {
  counts = ap (λ (n : ℕ). let g : PageCounts = record { pool = pool; heads = n; leaves = length held } in g) long;
  heads = refl;
  maps = refl;
  held = refl;
  touched = refl;
  promised_heads = promised_heads;
  promised_leaves = promised_leaves;
  table = table;
}

-- the free heads, once one slot's is free or isn't
pub heads_counted : (heads : List Head) (slot : ℕ) (h : Head) (fh fh2 : FreeNumbers) → slot < length heads → count_of fh ≡ length heads → ((j : ℕ) → j < length heads → is_free_number fh j ≡ is_free (head_in heads j)) → Counts fh slot (is_free h) fh2
    → (count_of fh2 ≡ length (slice_set heads slot h)) × ((j : ℕ) → j < length (slice_set heads slot h) → is_free_number fh2 j ≡ is_free (head_in (slice_set heads slot h) j))
heads_counted heads slot h fh fh2 below count each counts = (
  ap length counts.flags ∙ length-set fh.flags slot (is_free h) ∙ count ∙ sym (length-set heads slot h),
  λ j lt. ap (λ (l : List Bool). slice_index_or l j false) counts.flags ∙ elim (cases_eq j slot) [
    | inl e ↦ at j e ∙ ap is_free (sym (head_at_slot heads slot h j below e))
    | inr ne ↦ get_or-set_other fh.flags slot j (is_free h) false ne ∙ each j (let same = length-set heads slot h in omega (arith, lt, same)) ∙ ap is_free (sym (head_off_slot heads slot h j ne))
  ],
)
  where
    at : (j : ℕ) → j ≡ slot → slice_index_or (slice_set fh.flags slot (is_free h)) j false ≡ is_free h
    at j e = rw e (get_or-set_same fh.flags slot (is_free h) false (omega (arith, count, below)))
