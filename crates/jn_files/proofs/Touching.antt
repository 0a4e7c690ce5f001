-- Data pages are touched: cleaned before their first get, or put.
use Rattle.jn_files.proofs.Common.{◌≡◌, ◌≢◌, ⊎_elim, ◌<◌, ◌≤◌, ◌+◌, ◌-◌, ℕ, suc, Bool, true, false, List, length, Option, Some, Result, Ok, refl, sym, ap, subst, ◌∙◌, arith, slice_set, slice_index_or, is_ok, cases_eq, get_or-set_same, get_or-set_other, FreeNumbers, Stopped, FileNo, BlockNo, Block, most_blocks, Files, Head, at_cell, kept_entry, behind, Counts, data_place, StoreView, StoreLater, StoreGot, StoreCleaned, Candidate, IsSamePage, IsStop, IsCalm, IsWholePage, IsOnly, later_refl, later_trans, same_refl, same_trans, shrinks_only, stop_since, TableView, IsTable, address_for, layouts_in, layout_in, is_touched, IsLeaf, HoldsTable, leaves_in, files_in, HasPagesOfTable, Touches, BlockGot, IsKeptTable, table_view}
use Rattle.std.specs.Prelude.{take}
use Rattle.std.proofs.lemmas.Bool.{true≢false}
use Rattle.jn_files.proofs.Lookup.{named_by}
use Rattle.jn_files.proofs.Said.{files_first, named_below, block_behind_is}

-- another list of what is touched
pub touched_table : (t : TableView) (xs : List Bool) → IsTable t → length xs ≡ t.counts.leaves → IsTable (record t { touched = xs })
touched_table t xs is long = record {
  heads = is.heads;
  slots = is.slots;
  leaves = is.leaves;
  touches = long;
  few_heads = is.few_heads;
  few_leaves = is.few_leaves;
  head_count = is.head_count;
  free_heads = is.free_heads;
  leaf_count = is.leaf_count;
  free_leaves = λ a. (
    λ free. let leaf = (is.free_leaves a).0 free in record { below = leaf.below; loose = leaf.loose; unnamed = leaf.unnamed },
    λ leaf. (is.free_leaves a).1 (record { below = leaf.below; loose = leaf.loose; unnamed = leaf.unnamed }),
  );
}

pub touched_kept : (pool : ℕ) (heads : List Head) (rows : List (List ℕ)) (held touched named xs : List Bool) (fh fl : FreeNumbers) → IsKeptTable pool heads rows held touched named fh fl → length xs ≡ length touched → IsKeptTable pool heads rows held xs named fh fl
touched_kept pool heads rows held touched named xs fh fl kept long = record {
  table = touched_table (table_view pool heads rows held touched fh fl) xs kept.table (long ∙ kept.table.touches);
  pages = kept.pages;
  names = kept.names;
}

-- one flag more is set
pub set_more : (flags : List Bool) (i : ℕ) → i < length flags → ((a : ℕ) → a < i → slice_index_or flags a false ≡ true) → (a : ℕ) → a < i + 1 → slice_index_or (slice_set flags i true) a false ≡ true
set_more flags i below before a lt = ⊎_elim
    (λ e. subst (λ k. slice_index_or (slice_set flags i true) k false ≡ true) (sym e) (get_or-set_same flags i true false below))
    (λ ne. get_or-set_other flags i a true false ne ∙ before a (omega (arith, lt, ne)))
    (cases_eq a i)

-- ---- what a touch leaves, whether it cleans or not

record Touched (v : StoreView) (i : ℕ) (before ok : Bool) (w : StoreView) : Type 0 where
  later : StoreLater v w
  calls : w.calls ≤ v.calls + 16
  same : (j : ℕ) → j < v.count → IsSamePage v w j
  stops : ok ≡ true → w.stops ≡ v.stops
  stop : ok ≡ false → IsStop v w
  calm : IsCalm v → ok ≡ true
  whole : IsCalm v → before ≡ false → IsWholePage w i

nothing_done : (v : StoreView) (i : ℕ) (ok : Bool) (w : StoreView) → ok ≡ true → w ≡ v → Touched v i true ok w
nothing_done v i ok w done e = subst (λ x. Touched v i true ok x) (sym e) (record {
  later = later_refl v;
  calls = omega arith;
  same = λ j lt. same_refl v j;
  stops = λ _. refl;
  stop = λ no_ok. absurd (true≢false (sym done ∙ no_ok));
  calm = λ _. done;
  whole = λ _ not. absurd (true≢false not);
})

-- the cleanup of a page with one candidate keeps it
cleaned_once : (v : StoreView) (i : ℕ) (answer : Result Bool Stopped) (ok : Bool) (w : StoreView) → IsLeaf v i → is_ok answer ≡ ok → StoreCleaned v i answer w → Touched v i false ok w
cleaned_once v i answer ok w leaf is step = record {
  later = step.later;
  calls = step.calls;
  same = λ j lt. ⊎_elim (λ e. subst (λ k. IsSamePage v w k) (sym e) here) (λ ne. step.others j lt ne) (cases_eq j i);
  stops = λ e. (step.served (is ∙ e)).stops;
  stop = λ e. step.stop (is ∙ e);
  calm = λ calm. sym is ∙ (step.calm calm).0;
  whole = λ calm _. (step.calm calm).1;
}
  where
    only : IsOnly w i (v.first i)
    only = shrinks_only v w i (v.first i) (record { first = refl; second = sym leaf.clean }) step.kept

    here : IsSamePage v w i
    here = record { first = only.first; second = only.second ∙ leaf.clean }

touched : (t : TableView) (v : StoreView) (a : ℕ) (ok : Bool) (u : TableView) (w : StoreView) → Touches t v a ok u w → IsLeaf v (data_place t.counts a) → Touched v (data_place t.counts a) (is_touched t a) ok w
touched t v a ok u w is leaf = by (is_touched t a) refl
  where
    by : (b : Bool) → is_touched t a ≡ b → Touched v (data_place t.counts a) b ok w
    by true e = let none = is.again e in nothing_done v (data_place t.counts a) ok w none.0 none.2
    by false e = let one = is.first e in cleaned_once v (data_place t.counts a) one.answer ok w leaf one.is one.cleaned

-- ---- a block is read

module _ (t : TableView) (v : StoreView) (is : IsTable t) (fits : HasPagesOfTable t v) (holds : HoldsTable t v) (f : FileNo) (p : BlockNo) (low : p.0 < most_blocks) (a : ℕ) (at : address_for (layouts_in t) f p.0 ≡ suc a) where
  named : (slot : ℕ) × (at_cell (layout_in t slot) p.0 ≡ suc a)
  named = named_by f (kept_entry t.maps) t.heads p.0 a at

  leaf : IsLeaf v (data_place t.counts a)
  leaf = holds.leaves named.0 p.0 a low named.1

  pub leaf_below : a < t.counts.leaves
  leaf_below = named_below t.counts t.maps t.heads is.heads named.0 p.0 a named.1

  place_below : data_place t.counts a < v.count
  place_below = let lt = leaf_below in omega (arith, lt, fits)

  stored : files_in t.counts v (Block f p) ≡ Some (take 448 (v.first (data_place t.counts a)))
  stored = ap (λ (files : Files). files (Block f p)) (files_first t.counts t.maps t.heads v is.slots is.few_leaves is.heads fits holds)
      ∙ block_behind_is t.maps t.heads (leaves_in t.counts v.first) f p low ∙ ap (behind (λ k. take 448 (leaves_in t.counts v.first k))) at

  -- the page that is found is the one that stood there
  page_is : (u : StoreView) → IsSamePage v u (data_place t.counts a) → (x : List ℕ) → Candidate u (data_place t.counts a) x → x ≡ v.first (data_place t.counts a)
  page_is u same x here = ⊎_elim (λ e. e ∙ same.first) (λ e. e ∙ same.second ∙ sym leaf.clean) here

  -- the touch was stopped
  pub not_ready : (u : TableView) (between : StoreView) (page : Result (List ℕ) Stopped) (answer : Result (Option (List ℕ)) Stopped) → Touches t v a false u between → is_ok answer ≡ false → BlockGot t v f p a answer u between
  not_ready u between page answer touches no_ok =
      let left = touched t v a false u between touches leaf in
      record {
        between = between;
        ready = false;
        touches = touches;
        page = page;
        got = λ e. absurd (true≢false (sym e));
        unready = λ _. (no_ok, refl);
        found = λ block e. absurd (true≢false (sym (ap is_ok e) ∙ no_ok));
        later = left.later;
        calls = let n = left.calls in omega (arith, n);
        same = left.same;
        whole = left.whole;
        served = λ e. absurd (true≢false (sym e ∙ no_ok));
        stop = λ _. left.stop refl;
        calm = λ calm. absurd (true≢false (sym (left.calm calm)));
      }

  pub ready_got : (u : TableView) (between : StoreView) (page : Result (List ℕ) Stopped) (answer : Result (Option (List ℕ)) Stopped) (w : StoreView) → Touches t v a true u between → StoreGot between (data_place t.counts a) page w
      → is_ok answer ≡ is_ok page → ((block : Option (List ℕ)) → answer ≡ Ok block → (x : List ℕ) × (page ≡ Ok x) × (block ≡ Some (take 448 x))) → BlockGot t v f p a answer u w
  ready_got u between page answer w touches got as_page block_of =
      let left = touched t v a true u between touches leaf in
      record {
        between = between;
        ready = true;
        touches = touches;
        page = page;
        got = λ _. (got, as_page);
        unready = λ e. absurd (true≢false e);
        found = λ block e. let b = block_of block e in
            b.2 ∙ ap (λ x. Some (take 448 x)) (page_is between (left.same (data_place t.counts a) place_below) b.0 (got.found b.0 b.1)) ∙ sym stored;
        later = later_trans v between w left.later got.later;
        calls = let n = left.calls in let m = got.calls in omega (arith, n, m);
        same = λ j lt. same_trans v between w j (left.same j lt) (got.same j);
        whole = λ calm not. got.later.whole (left.later.calm calm) (data_place t.counts a) (subst (λ n. data_place t.counts a < n) (sym left.later.count) place_below) (left.whole calm not);
        served = λ e. let s = got.served (sym as_page ∙ e) in record { power = s.power; stops = s.stops ∙ left.stops refl };
        stop = λ e. stop_since v between w left.later got.later (got.stop (sym as_page ∙ e));
        calm = λ calm. as_page ∙ got.calm (left.later.calm calm);
      }

-- the same of what the code has: x is the address in the head
module _ (t : TableView) (v : StoreView) (is : IsTable t) (fits : HasPagesOfTable t v) (holds : HoldsTable t v) (f : FileNo) (p : BlockNo) (low : p.0 < most_blocks) (x : ℕ) (found : x ≡ address_for (layouts_in t) f p.0) where
  less : (a : ℕ) → address_for (layouts_in t) f p.0 ≡ suc a → x - 1 ≡ a
  less a at = omega (arith, found, at)

  at_less : x ≢ 0 → address_for (layouts_in t) f p.0 ≡ suc (x - 1)
  at_less some = sym found ∙ (let e : x ≡ suc (x - 1) = omega (arith, some) in e)

  pub code_below : x ≢ 0 → x - 1 < t.counts.leaves
  code_below some = leaf_below t v is fits holds f p low (x - 1) (at_less some)

  counts_kept : (u : TableView) (w : StoreView) → Touches t v (x - 1) true u w → u.counts ≡ t.counts
  counts_kept u w touches = by (is_touched t (x - 1)) refl
    where
      by : (b : Bool) → is_touched t (x - 1) ≡ b → u.counts ≡ t.counts
      by true e = ap (λ (k : TableView). k.counts) (touches.again e).1
      by false e = ap (λ (k : TableView). k.counts) ((touches.first e).done refl)

  module _ (u : TableView) (between : StoreView) (touches : Touches t v (x - 1) true u between) (i : ℕ) (place : i ≡ data_place u.counts (x - 1)) where
    place_is : i ≡ data_place t.counts (x - 1)
    place_is = place ∙ ap (λ (g : Counts). data_place g (x - 1)) (counts_kept u between touches)

    pub code_place : x ≢ 0 → i < between.count
    code_place some =
        let at = at_less some in
        let lt = place_below t v is fits holds f p low (x - 1) at in
        let same = (touched t v (x - 1) true u between touches (leaf t v is fits holds f p low (x - 1) at)).later.count in
        let e = place_is in
        omega (arith, lt, same, e)

    pub code_got : (page : Result (List ℕ) Stopped) (answer : Result (Option (List ℕ)) Stopped) (w : StoreView) → StoreGot between i page w → is_ok answer ≡ is_ok page
        → ((block : Option (List ℕ)) → answer ≡ Ok block → (y : List ℕ) × (page ≡ Ok y) × (block ≡ Some (take 448 y))) → (a : ℕ) → address_for (layouts_in t) f p.0 ≡ suc a → BlockGot t v f p a answer u w
    code_got page answer w got as_page block_of a at = subst (λ k. BlockGot t v f p k answer u w) (less a at)
        (ready_got t v is fits holds f p low (x - 1) (subst (λ k. address_for (layouts_in t) f p.0 ≡ suc k) (sym (less a at)) at) u between page answer w touches (subst (λ k. StoreGot between k page w) place_is got) as_page block_of)

  pub code_stopped : (u : TableView) (between : StoreView) (ok : Bool) (page : Result (List ℕ) Stopped) (answer : Result (Option (List ℕ)) Stopped) → Touches t v (x - 1) ok u between → ok ≡ false → is_ok answer ≡ false
      → (a : ℕ) → address_for (layouts_in t) f p.0 ≡ suc a → BlockGot t v f p a answer u between
  code_stopped u between ok page answer touches bad no_ok a at =
      let stopped = subst (λ b. Touches t v (x - 1) b u between) bad touches in
      subst (λ k. BlockGot t v f p k answer u between) (less a at) (not_ready t v is fits holds f p low (x - 1) (subst (λ k. address_for (layouts_in t) f p.0 ≡ suc k) (sym (less a at)) at) u between page answer stopped no_ok)

pub no_block : {A E : Type 0} (answer : Result A E) (P : A → Type 0) → is_ok answer ≡ false → (block : A) → answer ≡ Ok block → P block
no_block answer P no_ok block e = absurd (true≢false (sym (ap is_ok e) ∙ no_ok))

pub the_block : (page block : List ℕ) → block ≡ take 448 page → (b : Option (List ℕ)) → ◌≡◌ {A = Result (Option (List ℕ)) Stopped} (Ok (Some block)) (Ok b) → (y : List ℕ) × (◌≡◌ {A = Result (List ℕ) Stopped} (Ok page) (Ok y)) × (b ≡ Some (take 448 y))
the_block page block is b e = let same : Some block ≡ b = cc e in (page, refl, sym same ∙ ap (λ l. Some l) is)
