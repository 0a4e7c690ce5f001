-- What a store may turn out to hold: a choice takes one candidate for each page.
use Rattle.std.specs.Prelude.{◌≡◌, ℕ, ◌<◌, List, nat_eq, if◌then◌else◌}
use Rattle.jn_store.specs.Store.{StoreView, Candidate}

-- one candidate for each page
abbrev pub IsChoice : StoreView → (ℕ → List ℕ) → Type 0
IsChoice v c = (i : ℕ) → i < v.count → Candidate v i (c i)

-- two contents agree on the first pages
abbrev pub Agree : ℕ → (ℕ → List ℕ) → (ℕ → List ℕ) → Type 0
Agree count c d = (i : ℕ) → i < count → c i ≡ d i

abbrev pub with_page : (ℕ → List ℕ) → ℕ → List ℕ → ℕ → List ℕ
with_page c i page j = if nat_eq i j then page else c j
