-- What is held and free once the pages of some intentions were let go.
use Rattle.jn_intent.proofs.Common.{◌≡◌, ◌≢◌, ⊎_elim, ◌<◌, ◌+◌, ℕ, zero, suc, Bool, true, false, not, ◌&&◌, ◌||◌, if◌then◌else◌, List, [], ◌∷◌, length, refl, sym, ◌∙◌, ap, subst, true≢false, arith, cases_eq, nat_tests, get_or-set_same, get_or-set_other, length-set, sum_by-cons, sum_by-set, nat_eq, nat_lt, slice_set, slice_index_or, count_by, list_any, total, count_of, with_free, TableView, IsTable, is_held, layouts_in, kept_entry, LetsGo, heads_name, StoredIntention, holds_page, held_of, one, page_let_go, both_let_go, pages_let_go, IsHeldAt, MayLetGo, is_at, ArePagesApart, most_cells}
use Rattle.jn_intent.proofs.Census.{cell_below}
use Rattle.jn_intent.proofs.ListPages.{pages_of, leads, held_pages, any_page, AreApartAll, apart_all}
use Rattle.jn_intent.proofs.Naming.{found_cell, cell_named}
use Rattle.jn_alloc.specs.Free.{is_free, free_count}

-- what is held is there, and isn't free
pub record HeldAreTaken (t : TableView) : Type 0 where
  pub there : (a : ℕ) → is_held t a ≡ true → a < count_of t.free_leaves
  pub taken : (a : ℕ) → is_held t a ≡ true → is_free t.free_leaves a ≡ false

-- what stays
pub record IsOnlyLess (t u : TableView) : Type 0 where
  pub counts : u.counts ≡ t.counts
  pub heads : u.heads ≡ t.heads
  pub maps : u.maps ≡ t.maps
  pub free_heads : u.free_heads ≡ t.free_heads
  pub promised : u.free_leaves.promised ≡ t.free_leaves.promised

held_within : (held : List Bool) (a : ℕ) → slice_index_or held a false ≡ true → a < length held
held_within [] a h = absurd (true≢false (sym h))
held_within (x ∷ held) zero h = omega arith
held_within (x ∷ held) (suc a) h = let again = held_within held a h in omega (arith, again)

module _ (t : TableView) (b : ℕ) where
  held_other : (a : ℕ) → a ≢ b → slice_index_or (slice_set t.held b false) a false ≡ slice_index_or t.held a false
  held_other a ne = get_or-set_other t.held b a false false ne

  held_here : is_held t b ≡ true → slice_index_or (slice_set t.held b false) b false ≡ false
  held_here h = get_or-set_same t.held b false false (held_within t.held b h)

  held_after : (a : ℕ) → is_held t b ≡ true → is_held (page_let_go t (suc b)) a ≡ (is_held t a && not (nat_eq (suc b) (suc a)))
  held_after a h = ⊎_elim
      (λ e. subst (λ k. slice_index_or (slice_set t.held b false) k false ≡ false) (sym e) (held_here h) ∙ none (is_held t a) (nat_eq (suc b) (suc a)) (grind (arith, nat_tests, e)))
      (λ ne. held_other a ne ∙ stays (is_held t a) (nat_eq (suc b) (suc a)) (grind (arith, nat_tests, ne)))
      (cases_eq a b)
    where
      none : (c d : Bool) → d ≡ true → false ≡ (c && not d)
      none true d h = grind (arith, h)
      none false d h = refl

      stays : (c d : Bool) → d ≡ false → c ≡ (c && not d)
      stays true d h = grind (arith, h)
      stays false d h = refl

  free_other : (named : Bool) (a : ℕ) → a ≢ b → is_free (if named then t.free_leaves else with_free t.free_leaves b true) a ≡ is_free t.free_leaves a
  free_other true a ne = refl
  free_other false a ne = get_or-set_other t.free_leaves.flags b a true false ne

  count_same : (named : Bool) → count_of (if named then t.free_leaves else with_free t.free_leaves b true) ≡ count_of t.free_leaves
  count_same true = refl
  count_same false = length-set t.free_leaves.flags b true

  taken_after : HeldAreTaken t → is_held t b ≡ true → HeldAreTaken (page_let_go t (suc b))
  taken_after is h = record {
    there = λ a held. let before = was a held in let lt = is.there a before.0 in let same = count_same (heads_name most_cells (layouts_in t) (suc b)) in omega (arith, lt, same);
    taken = λ a held. let before = was a held in free_other (heads_name most_cells (layouts_in t) (suc b)) a before.1 ∙ is.taken a before.0;
  }
    where
      was : (a : ℕ) → is_held (page_let_go t (suc b)) a ≡ true → (is_held t a ≡ true) × (a ≢ b)
      was a held = ⊎_elim
          (λ e. absurd (true≢false (sym held ∙ subst (λ k. slice_index_or (slice_set t.held b false) k false ≡ false) (sym e) (held_here h))))
          (λ ne. (sym (held_other a ne) ∙ held, ne))
          (cases_eq a b)

  count_after : HeldAreTaken t → is_held t b ≡ true → free_count (page_let_go t (suc b)).free_leaves ≡ free_count t.free_leaves + one (not (heads_name most_cells (layouts_in t) (suc b)))
  count_after is h = by (heads_name most_cells (layouts_in t) (suc b))
    where
      by : (named : Bool) → free_count (if named then t.free_leaves else with_free t.free_leaves b true) ≡ free_count t.free_leaves + one (not named)
      by true = omega arith
      by false = let e = sum_by-set (λ (free : Bool). if free then 1 else 0) t.free_leaves.flags b true false (is.there b h) in let old = is.taken b h in grind (arith, e, old)

-- each is held when its turn comes
abbrev MayAll : List ℕ → TableView → Type 0
MayAll [] t = Unit {0}
MayAll (k ∷ ks) t = IsHeldAt t k × MayAll ks (page_let_go t k)

abbrev let_all : List ℕ → TableView → TableView
let_all [] t = t
let_all (k ∷ ks) t = let_all ks (page_let_go t k)

record AreGone (t : TableView) (ks : List ℕ) (u : TableView) : Type 0 where
  pub only : IsOnlyLess t u
  pub held : (a : ℕ) → is_held u a ≡ (is_held t a && not (list_any (leads a) ks))
  pub free : free_count u.free_leaves ≡ free_count t.free_leaves + count_by (holds_page (layouts_in t)) ks
  pub may : MayAll ks t

then_all : (c p q : Bool) → ((c && not p) && not q) ≡ (c && not (p || q))
then_all true true q = refl
then_all true false q = refl
then_all false p q = refl

zero_at : (a : ℕ) → nat_eq 0 (suc a) ≡ false
zero_at a = grind (arith, nat_tests)

gone_all : (ks : List ℕ) (t : TableView) → AreApartAll ks → HeldAreTaken t → ((a : ℕ) → list_any (leads a) ks ≡ true → is_held t a ≡ true) → AreGone t ks (let_all ks t)
gone_all [] t apart taken held = record {
  only = record { counts = refl; heads = refl; maps = refl; free_heads = refl; promised = refl };
  held = λ a. by (is_held t a);
  free = omega arith;
  may = tt;
}
  where
    by : (b : Bool) → b ≡ (b && true)
    by true = refl
    by false = refl
gone_all (k ∷ ks) t apart taken held = by k refl (λ u tk hd. gone_all ks u apart.1 tk hd)
  where
    more : count_by (holds_page (layouts_in t)) (k ∷ ks) ≡ (if holds_page (layouts_in t) k then 1 else 0) + count_by (holds_page (layouts_in t)) ks
    more = sum_by-cons (λ j. if holds_page (layouts_in t) j then 1 else 0) k ks

    by : (j : ℕ) → k ≡ j → ((u : TableView) → HeldAreTaken u → ((a : ℕ) → list_any (leads a) ks ≡ true → is_held u a ≡ true) → AreGone u ks (let_all ks u)) → AreGone t (k ∷ ks) (let_all ks (page_let_go t k))
    by zero e again = subst (λ j. AreGone t (k ∷ ks) (let_all ks (page_let_go t j))) (sym e) none
      where
        rest : AreGone t ks (let_all ks t)
        rest = again t taken (λ a h. held a (or_true (leads a k) (list_any (leads a) ks) h))
          where
            or_true : (b c : Bool) → c ≡ true → (b || c) ≡ true
            or_true b c h = grind (arith, h)

        holds_none : holds_page (layouts_in t) k ≡ false
        holds_none = ap (λ j. nat_lt 0 j && not (heads_name most_cells (layouts_in t) j)) e

        none : AreGone t (k ∷ ks) (let_all ks t)
        none = record {
          only = rest.only;
          held = λ a. rest.held a ∙ ap (λ b. is_held t a && not (b || list_any (leads a) ks)) (sym (ap (λ j. nat_eq j (suc a)) e ∙ zero_at a));
          free = let f = rest.free in let m = more in let h = ap {B = ℕ} (λ b. if b then 1 else 0) holds_none in omega (arith, f, m, h);
          may = subst (λ j. IsHeldAt t j × MayAll ks (page_let_go t j)) (sym e) (tt, rest.may);
        }
    by (suc b) e again = subst (λ j. AreGone t (k ∷ ks) (let_all ks (page_let_go t j))) (sym e) all
      where
        here : leads b k ≡ true
        here = grind (arith, nat_tests, e)

        held_now : is_held t b ≡ true
        held_now = held b (or_true (leads b k) (list_any (leads b) ks) here)
          where
            or_true : (p c : Bool) → p ≡ true → (p || c) ≡ true
            or_true p c h = grind (arith, h)

        still : (a : ℕ) → list_any (leads a) ks ≡ true → is_held (page_let_go t (suc b)) a ≡ true
        still a h = held_after t b a held_now ∙ both (is_held t a) (nat_eq (suc b) (suc a)) (held a (or_true (leads a k) (list_any (leads a) ks) h)) (other (nat_eq (suc b) (suc a)) refl)
          where
            or_true : (p c : Bool) → c ≡ true → (p || c) ≡ true
            or_true p c h = grind (arith, h)

            same : nat_eq (suc b) (suc a) ≡ true → k ≡ suc a
            same q = let s : suc b ≡ suc a = grind (arith, nat_tests, q) in e ∙ s

            other : (c : Bool) → nat_eq (suc b) (suc a) ≡ c → c ≡ false
            other true q = absurd (true≢false (sym h ∙ apart.0 a (same q)))
            other false q = refl

            both : (p q : Bool) → p ≡ true → q ≡ false → (p && not q) ≡ true
            both p q x y = grind (arith, x, y)

        rest : AreGone (page_let_go t (suc b)) ks (let_all ks (page_let_go t (suc b)))
        rest = again (page_let_go t (suc b)) (taken_after t b taken held_now) still

        promised_same : (named : Bool) → (if named then t.free_leaves else with_free t.free_leaves b true).promised ≡ t.free_leaves.promised
        promised_same true = refl
        promised_same false = refl

        holds_it : one (holds_page (layouts_in t) k) ≡ one (not (heads_name most_cells (layouts_in t) (suc b)))
        holds_it = ap {B = ℕ} (λ j. one (nat_lt 0 j && not (heads_name most_cells (layouts_in t) j))) e ∙ flips (nat_lt 0 (suc b)) (heads_name most_cells (layouts_in t) (suc b)) (grind (arith, nat_tests))
          where
            flips : (p c : Bool) → p ≡ true → one (p && not c) ≡ one (not c)
            flips p true h = grind (arith, h)
            flips p false h = grind (arith, h)

        all : AreGone t (k ∷ ks) (let_all ks (page_let_go t (suc b)))
        all = record {
          only = record { counts = rest.only.counts; heads = rest.only.heads; maps = rest.only.maps; free_heads = rest.only.free_heads; promised = rest.only.promised ∙ promised_same (heads_name most_cells (layouts_in t) (suc b)) };
          held = λ a. rest.held a ∙ ap (λ p. p && not (list_any (leads a) ks)) (held_after t b a held_now) ∙ ap (λ j. (is_held t a && not (nat_eq j (suc a))) && not (list_any (leads a) ks)) (sym e)
              ∙ then_all (is_held t a) (leads a k) (list_any (leads a) ks);
          free = let f = rest.free in let m = more in let c = count_after t b taken held_now in let h = holds_it in omega (arith, f, m, c, h);
          may = subst (λ j. IsHeldAt t j × MayAll ks (page_let_go t j)) (sym e) (held_now, rest.may);
        }

-- ---- the pages of intentions

pub record AreLetGo (t : TableView) (list : List StoredIntention) (u : TableView) : Type 0 where
  pub only : IsOnlyLess t u
  pub held : (a : ℕ) → is_held u a ≡ (is_held t a && not (list_any (is_at a) list))
  pub free : free_count u.free_leaves ≡ free_count t.free_leaves + total (held_of (layouts_in t)) list
  pub may : MayLetGo list t

same_tables : (list : List StoredIntention) (t : TableView) → pages_let_go list t ≡ let_all (pages_of list) t
same_tables [] t = refl
same_tables (i ∷ list) t = same_tables list (both_let_go t i)

may_each : (list : List StoredIntention) (t : TableView) → MayAll (pages_of list) t → MayLetGo list t
may_each [] t may = tt
may_each (i ∷ list) t may = (may.0, may.1.0, may_each list (both_let_go t i) may.1.1)

pub let_go : (list : List StoredIntention) (t : TableView) → ArePagesApart list → HeldAreTaken t → ((a : ℕ) → list_any (is_at a) list ≡ true → is_held t a ≡ true) → AreLetGo t list (pages_let_go list t)
let_go list t apart taken held =
    let gone = gone_all (pages_of list) t (apart_all list apart) taken (λ a h. held a (any_page a list ∙ h)) in
    subst (AreLetGo t list) (sym (same_tables list t)) (record {
      only = gone.only;
      held = λ a. gone.held a ∙ ap (λ b. is_held t a && not b) (sym (any_page a list));
      free = gone.free ∙ ap (λ n. free_count t.free_leaves + n) (sym (held_pages (layouts_in t) list));
      may = may_each list t gone.may;
    })

-- ---- the call of the table

pub let_one : (t u : TableView) (x a : ℕ) → x ≡ suc a → LetsGo t a u → u ≡ page_let_go t x
let_one t u x a e goes = subst (λ k. u ≡ page_let_go t k) (sym e) (by (heads_name most_cells (layouts_in t) (suc a)) refl)
  where
    by : (b : Bool) → heads_name most_cells (layouts_in t) (suc a) ≡ b → u ≡ page_let_go t (suc a)
    by true named =
        let at = found_cell most_cells (layouts_in t) (suc a) named in
        goes.named at.0 at.1 at.3
        ∙ ap (λ b. record t { held = slice_set t.held a false; free_leaves = if b then t.free_leaves else with_free t.free_leaves a true }) (sym named)
    by false unnamed = goes.unnamed (λ slot q here. true≢false (sym (cell_named most_cells (layouts_in t) a slot q (cell_below (kept_entry t.maps) t.heads slot q a here) here) ∙ unnamed))
        ∙ ap (λ b. record t { held = slice_set t.held a false; free_leaves = if b then t.free_leaves else with_free t.free_leaves a true }) (sym unnamed)

pub table_taken : (t : TableView) → IsTable t → HeldAreTaken t
table_taken t is = record {
  there = λ a h. let lt = held_within t.held a h in omega (arith, lt, is.leaves, is.leaf_count);
  taken = λ a h. by a h (is_free t.free_leaves a) refl;
}
  where
    by : (a : ℕ) → is_held t a ≡ true → (b : Bool) → is_free t.free_leaves a ≡ b → b ≡ false
    by a h true e = absurd (true≢false (sym h ∙ ((is.free_leaves a).0 e).loose))
    by a h false e = refl
