-- What cleaning a store's pages does.
use Rattle.std.specs.Prelude.{◌≡◌, ◌⊎◌, ℕ, ◌+◌, ◌-◌, ◌*◌, ◌≤◌, ◌<◌, true}
use Rattle.jn_page_state.specs.Puts.{IsFewer}
use Rattle.jn_store.specs.Store.{StoreView, StoreLater, IsCalm, IsClean, IsSamePage, IsWholePage}

-- so many pages of a store are cleaned, from one on
pub record Cleans (v : StoreView) (from to : ℕ) (w : StoreView) : Type 0 where
  pub order : from ≤ to
  pub later : StoreLater v w
  pub calls : w.calls ≤ v.calls + 16 * (to - from)
  pub fewer : IsFewer v w
  pub clean : (i : ℕ) → from ≤ i → i < to → IsClean w i
  pub whole : IsCalm v → (i : ℕ) → from ≤ i → i < to → IsWholePage w i
  pub others : (i : ℕ) → i < v.count → (i < from) ⊎ (to ≤ i) → IsSamePage v w i
  pub stops : w.stops ≡ v.stops
  pub power : v.power ≡ true → w.power ≡ true
  -- the first cleanup is done only under power
  pub powered : from < to → w.power ≡ true
