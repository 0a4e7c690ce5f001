-- A store among those of a world.
use Rattle.std.specs.Prelude.{◌≡◌, ◌+◌, ℕ, zero, suc, List, [], ◌∷◌, slice_get, Option, Some, None}
use Rattle.std.proofs.Common.{arith, subst, sym, ap, ◌∙◌}
use Rattle.jn_recovery.specs.declared.counts.PageCounts.{PageCounts}
use Rattle.jn_store.specs.Store.{StoreView}
use Rattle.jn_page_state.specs.Recoverable.{IsRecoverable}
use Rattle.jn_recovery.specs.Counts.{counts_by}
use Rattle.jn_events.specs.Stores.{AreStores}
use Rattle.jn_run.specs.Running.{IsStore}

some-is : {A : Type 0} (a b : A) → Some a ≡ Some b → a ≡ b
some-is a b h = cc

none-is-none : {A : Type 0} (a : A) → None ≡ Some a → ⊥
none-is-none a h = cc

at-place : {S : Type 0} (see : S → StoreView) (x : S × PageCounts) (k m : ℕ) → k ≡ m → IsStore see k x → IsStore see m x
at-place see x k m same is = subst (λ (j : ℕ). IsStore see j x) same is

pub store-at : {S : Type 0} (see : S → StoreView) (n : ℕ) (xs : List (S × PageCounts)) (k : ℕ) (x : S × PageCounts) → AreStores see n xs → slice_get xs k ≡ Some x → IsStore see (n + k) x
store-at see n [] k x are at = absurd (none-is-none x at)
store-at {S} see n (y ∷ xs) zero x are at = at-place see x n (n + 0) (omega arith) (subst (λ (z : S × PageCounts). IsStore see n z) (some-is y x at) (are.0, are.1))
store-at see n (y ∷ xs) (suc k) x are at = at-place see x (n + 1 + k) (n + suc k) (omega arith) (store-at see (n + 1) xs k x are.2 at)

-- a store that is watched looks as it did
pub watched-store : {S : Type 0} {W : Type 0} (see : S → StoreView) (seen : W → StoreView) (k m : ℕ) (x : S × PageCounts) (w : W × PageCounts) → k ≡ m → seen w.0 ≡ see x.0 → w.1 ≡ x.1 → IsStore see k x → IsStore seen m w
watched-store see seen k m x w same view counts is = at-place seen w k m same (by (see x.0) (seen w.0) x.1 w.1 view counts is.0, ap (λ (v : StoreView). v.told) view ∙ is.1)
  where
    by : (a b : StoreView) (g h : PageCounts) → b ≡ a → h ≡ g → IsRecoverable (record { 0 = k }) (counts_by g) a → IsRecoverable (record { 0 = k }) (counts_by h) b
    by a b g h same_view same_counts r = subst (λ (v : StoreView). IsRecoverable (record { 0 = k }) (counts_by h) v) (sym same_view) (subst (λ (c : PageCounts). IsRecoverable (record { 0 = k }) (counts_by c) a) (sym same_counts) r)
