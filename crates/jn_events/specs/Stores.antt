-- Stores
use Rattle.jn_page_state.specs.Recoverable.{IsRecoverable}
use Rattle.jn_records.specs.StablePages.{Counts}
use Rattle.jn_recovery.specs.Counts.{counts_by}
use Rattle.jn_recovery.specs.declared.counts.PageCounts.{PageCounts}
use Rattle.jn_store.specs.Store.{StoreView}
use Rattle.std.specs.Prelude.{◌≡◌, ◌+◌, ℕ, List, [], ◌∷◌}

-- the stores of the servers from this number on: from each a restart may begin, and no fault that was outside is reported
abbrev pub AreStores : {S : Type 0} → (S → StoreView) → ℕ → List (S × PageCounts) → Type 0
AreStores look n [] = Unit {0}
AreStores look n (x ∷ xs) = IsRecoverable (record { 0 = n }) (counts_by x.1) (look x.0) × ((look x.0).told ≡ []) × AreStores look (n + 1) xs

-- and so again at the end
abbrev pub AreClosed : {S : Type 0} → (S → StoreView) → ℕ → List S → Type 0
AreClosed look n [] = Unit {0}
AreClosed look n (s ∷ ss) = ((g : Counts) × IsRecoverable (record { 0 = n }) g (look s)) × AreClosed look (n + 1) ss
