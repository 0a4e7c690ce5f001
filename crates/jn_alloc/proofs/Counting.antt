-- Flags that are clear count for nothing.
use Rattle.std.proofs.Common.{◌≡◌, ◌≤◌, ◌<◌, ◌+◌, ℕ, zero, suc, Bool, false, List, length, take, refl, sym, ap, ◌∙◌, arith}
use Rattle.std.proofs.lemmas.List.Sums.{count_by_more_no}
use Rattle.std.proofs.lemmas.List.{take_all}
use Rattle.std.specs.Prelude.{count_by, slice_index_or}
use Rattle.jn_alloc.specs.Free.{IsBelowAll}

pub none_counted : (flags : List Bool) (n : ℕ) → n ≤ length flags → ((a : ℕ) → a < n → slice_index_or flags a false ≡ false) → count_by (λ free. free) (take n flags) ≡ 0
none_counted flags zero within none = refl
none_counted flags (suc n) within none =
    ap (λ (k : ℕ). count_by (λ free. free) (take k flags)) (let e : suc n ≡ n + 1 = omega arith in e)
    ∙ count_by_more_no (λ free. free) flags n false (omega arith) (none n (omega arith)) ∙ none_counted flags n (omega arith) (λ a lt. none a (omega arith))

pub all_clear : (flags : List Bool) (n : ℕ) → length flags ≤ n → IsBelowAll flags n → count_by (λ free. free) flags ≡ 0
all_clear flags n end below = ap (λ (l : List Bool). count_by (λ free. free) l) (sym (take_all n flags end)) ∙ none_counted flags n below.within below.none
