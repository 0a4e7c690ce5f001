-- The data pages of a work's intentions, and what lets them go.
use Rattle.std.specs.Prelude.{◌≡◌, ℕ, zero, suc, Bool, true, false, not, ◌&&◌, if◌then◌else◌, List, [], ◌∷◌, slice_set, count_by, Option, Some}
use Rattle.std.specs.List.{find, list_any}
use Rattle.jn_alloc.specs.Free.{with_free}
use Rattle.jn_base.specs.declared.names.WorkId.{WorkId}
use Rattle.jn_base.specs.Limits.{most_cells}
use Rattle.jn_files.specs.Table.{TableView, is_held, exists, layouts_in}
use Rattle.jn_page_state.specs.Contents.{heads_name, stored_list}
use Rattle.jn_records.specs.declared.head.Head.{Head}
use Rattle.jn_records.specs.declared.record.Record.{Record}
use Rattle.jn_records.specs.declared.record.Record.TheVariants.{Ready, Going}
use Rattle.jn_records.specs.Intentions.{names_address}
use Rattle.jn_records.specs.MapPlaces.{names_maps}
use Rattle.jn_records.specs.NetLists.{is_fresh}
use Rattle.jn_records.specs.declared.intention.StoredIntention.{StoredIntention}
use Rattle.jn_sets.specs.Pool.{is_prepared}

-- an intention has the page, for its block or as a map page
abbrev pub is_at : ℕ → StoredIntention → Bool
is_at a i = names_address (suc a) i

-- no page stands twice
abbrev pub ArePagesApart : List StoredIntention → Type 0
ArePagesApart [] = Unit {0}
ArePagesApart (i ∷ list) = ((a : ℕ) → i.address ≡ suc a → i.map ≡ suc a → ⊥) × ((a : ℕ) → is_at a i ≡ true → list_any (is_at a) list ≡ false) × ArePagesApart list

-- data page a is let go: it is free where no head and no map page names it
abbrev pub page_let_go : TableView → ℕ → TableView
page_let_go t zero = t
page_let_go t (suc a) = record t { held = slice_set t.held a false; free_leaves = if heads_name most_cells (layouts_in t) (suc a) then t.free_leaves else with_free t.free_leaves a true }

-- an intention's two pages
abbrev pub both_let_go : TableView → StoredIntention → TableView
both_let_go t i = page_let_go (page_let_go t i.address) i.map

abbrev pub pages_let_go : List StoredIntention → TableView → TableView
pages_let_go [] t = t
pages_let_go (i ∷ list) t = pages_let_go list (both_let_go t i)

abbrev pub IsHeldAt : TableView → ℕ → Type 0
IsHeldAt t zero = Unit {0}
IsHeldAt t (suc a) = is_held t a ≡ true

-- each page is held when its turn comes
abbrev pub MayLetGo : List StoredIntention → TableView → Type 0
MayLetGo [] t = Unit {0}
MayLetGo (i ∷ list) t = IsHeldAt t i.address × IsHeldAt (page_let_go t i.address) i.map × MayLetGo list (both_let_go t i)

-- how many fresh files of a list have no head
abbrev pub heads_needed : List Head → List StoredIntention → ℕ
heads_needed heads list = count_by (λ i. is_fresh i.what && not (exists heads i.file)) list

-- which intentions of a prepared work name a map page, by its records
abbrev pub supplied_by : List Record → WorkId → Option Record → List Bool
supplied_by pool w (Some (Ready head n reads)) = names_maps (stored_list pool w n)
supplied_by pool w (Some (Going head n reads)) = names_maps (stored_list pool w n)
supplied_by pool w r = []

abbrev pub supplied_on : List Record → WorkId → List Bool
supplied_on pool w = supplied_by pool w (find (is_prepared w) pool)
