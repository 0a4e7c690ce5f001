-- How many pages a preparation changes: as many as it has blocks and records.
use Rattle.jn_intent.proofs.Common.{◌≡◌, ◌≢◌, ◌<◌, ◌≤◌, ◌+◌, ◌||◌, ℕ, suc, Bool, true, false, if◌then◌else◌, List, [], ◌∷◌, ◌++◌, length, take, count_by, nat_eq, slice_get, Some, Result, Stopped, refl, sym, ◌∙◌, ap, subst, true≢false, arith, nat_tests, length-append, sum_by-append, sum_by-cons, sum_by-take-le, list_any, StoreView, IsSamePage, same_refl, data_place, is_put, is_put_intention, FullIntention, StoredIntention, TableView, BlockStored, same_trans, PutsFew}
use Rattle.jn_intent.proofs.StoringPages.{take_more}

pub puts_none : (n : ℕ) (v : StoreView) → PutsFew n v v
puts_none n v = record { pages = []; few = omega arith; others = λ j lt none. same_refl v j }

pub puts_within : (n k : ℕ) (v w : StoreView) → n ≤ k → PutsFew n v w → PutsFew k v w
puts_within n k v w le before = record { pages = before.pages; few = let few = before.few in omega (arith, few, le); others = before.others }

pub puts_suc : (n : ℕ) (v w : StoreView) → PutsFew n v w → PutsFew (suc n) v w
puts_suc n v w before = puts_within n (suc n) v w (omega arith) before

pub puts_and_one : (n : ℕ) (v w : StoreView) → PutsFew n v w → PutsFew (n + 1) v w
puts_and_one n v w before = puts_within n (n + 1) v w (omega arith) before

-- one page more is put
pub puts_more : (n : ℕ) (v w x : StoreView) (p : ℕ) → w.count ≡ v.count → PutsFew n v w → ((j : ℕ) → j < w.count → j ≢ p → IsSamePage w x j) → PutsFew (suc n) v x
puts_more n v w x p count before others = record {
  pages = p ∷ before.pages;
  few = let few = before.few in omega (arith, few);
  others = λ j lt none. same_trans v w x j (before.others j lt (later (nat_eq j p) (list_any (nat_eq j) before.pages) none)) (others j (omega (arith, lt, count)) (apart j p (first (nat_eq j p) (list_any (nat_eq j) before.pages) none)));
}
  where
    first : (b c : Bool) → (b || c) ≡ false → b ≡ false
    first b c h = grind (arith, h)

    later : (b c : Bool) → (b || c) ≡ false → c ≡ false
    later b c h = grind (arith, h)

    apart : (j p : ℕ) → nat_eq j p ≡ false → j ≢ p
    apart j p h e = true≢false (sym (same j p e) ∙ h)
      where
        same : (j p : ℕ) → j ≡ p → nat_eq j p ≡ true
        same j p e = grind (arith, nat_tests, e)

-- a put's block
pub block_puts : (n : ℕ) (t : TableView) (v w : StoreView) (i : FullIntention) (answer : Result ℕ Stopped) (u : TableView) (x : StoreView) → w.count ≡ v.count → PutsFew n v w → BlockStored t w i answer u x
    → PutsFew (n + (if is_put i.what then 1 else 0)) v x × (x.count ≡ v.count)
block_puts n t v w i answer u x count before block = by (is_put i.what) refl
  where
    by : (b : Bool) → is_put i.what ≡ b → PutsFew (n + (if b then 1 else 0)) v x × (x.count ≡ v.count)
    by false e = subst (λ y. PutsFew (n + 0) v y × (y.count ≡ v.count)) (sym (block.none e).2) (puts_within n (n + 0) v w (omega arith) before, count)
    by true e = let fills = block.put e in (
      puts_within (suc n) (n + 1) v x (omega arith) (puts_more n v w x _ count before fills.fills.put.others),
      fills.fills.put.later.count ∙ count,
    )

-- of one intention more
pub next_puts : (list : List FullIntention) (k : ℕ) (i : FullIntention) → slice_get list k ≡ Some i
    → suc (count_by is_put_intention (take k list) + k + (if is_put i.what then 1 else 0)) ≡ count_by is_put_intention (take (suc k) list) + suc k
next_puts list k i at =
    let puts = ap (count_by is_put_intention) (take_more list k i at) in
    let split = sum_by-append (λ (x : FullIntention). if is_put_intention x then 1 else 0) (take k list) (i ∷ []) in
    let last = sum_by-cons (λ (x : FullIntention). if is_put_intention x then 1 else 0) i [] in
    omega (arith, puts, split, last)

pub stored_puts : (list : List FullIntention) (stored : List StoredIntention) (s : StoredIntention) (i : FullIntention) → slice_get list (length stored) ≡ Some i
    → suc (count_by is_put_intention (take (length stored) list) + length stored + (if is_put i.what then 1 else 0)) ≤ count_by is_put_intention (take (length (stored ++ s ∷ [])) list) + length (stored ++ s ∷ [])
stored_puts list stored s i at =
    let size : length (stored ++ s ∷ []) ≡ suc (length stored) = (let all = length-append stored (s ∷ []) in omega (arith, all)) in
    let same = ap (λ k. count_by is_put_intention (take k list)) size in
    let next = next_puts list (length stored) i at in
    omega (arith, size, same, next)

-- a list that is stored so far, and all of it
pub all_puts : (list : List FullIntention) (k : ℕ) → k ≤ length list → count_by is_put_intention (take k list) + k ≤ count_by is_put_intention list + length list
all_puts list k le = let most = sum_by-take-le (λ (x : FullIntention). if is_put_intention x then 1 else 0) list k in omega (arith, most, le)

pub all_puts_and_one : (list : List FullIntention) (k : ℕ) → k ≤ length list → suc (count_by is_put_intention (take k list) + k) ≤ count_by is_put_intention list + length list + 1
all_puts_and_one list k le = let all = all_puts list k le in omega (arith, all)
