-- The pages of heads, map pages and blocks, and what they say in each choice of a store's candidates.
use Rattle.std.specs.Prelude.{◌≡◌, ℕ, suc, ◌<◌, ◌++◌, List, length, drop, replicate}
use Rattle.jn_base.specs.Limits.{most_blocks, most_maps}
use Rattle.jn_order.specs.Files.{Files}
use Rattle.jn_records.specs.declared.head.Head.{Head}
use Rattle.jn_records.specs.Heads.{head_page, map_page, IsMapPage, head_in, HaveOneHead}
use Rattle.jn_records.specs.Layouts.{Layout, at_cell, head_map, layout_at, layouts_by, row_at, AreNamedOnce}
use Rattle.jn_records.specs.StablePages.{Counts, Pages, head_place, data_place, entry_in, files_of_pages}
use Rattle.jn_store.specs.Choices.{IsChoice}
use Rattle.jn_store.specs.Store.{StoreView, IsClean, IsOnly}
use Rattle.jn_files.specs.Table.{TableView, layouts_of, IsHeadOf}

-- the pages have these heads, and these entries where the heads name map pages
pub record Says (g : Counts) (pages : Pages) (rows : List (List ℕ)) (heads : List Head) : Type 0 where
  pub of_heads : (slot : ℕ) → slot < length heads → pages (head_place g slot) ≡ head_page (head_in heads slot)
  pub of_maps : (slot j d : ℕ) → j < most_maps → head_map (head_in heads slot) j ≡ suc d → pages (data_place g d) ≡ map_page (row_at rows d)

abbrev pub leaves_in : Counts → Pages → ℕ → List ℕ
leaves_in g pages a = pages (data_place g a)

-- the page of a block has zeros behind it
abbrev pub leaf_page : List ℕ → List ℕ
leaf_page block = block ++ replicate 64 0

-- a page has one candidate, with zeros behind its block
pub record IsLeaf (v : StoreView) (i : ℕ) : Type 0 where
  pub clean : IsClean v i
  pub tail : drop 448 (v.first i) ≡ replicate 64 0

-- each block's page has one candidate, by these layouts
abbrev pub HoldsLeaves : Counts → List Layout → StoreView → Type 0
HoldsLeaves g layouts v = (slot p a : ℕ) → p < most_blocks → at_cell (layout_at layouts slot) p ≡ suc a → IsLeaf v (data_place g a)

-- each head's page has one candidate, the page of that head
abbrev pub StoresHeads : Counts → List Head → StoreView → Type 0
StoresHeads g heads v = (slot : ℕ) → slot < length heads → IsOnly v (head_place g slot) (head_page (head_in heads slot))

-- The store holds these heads and map pages: each of their pages has one candidate, and so has each data page of a block.
pub record HoldsHeads (g : Counts) (rows : List (List ℕ)) (heads : List Head) (v : StoreView) : Type 0 where
  pub stored : StoresHeads g heads v
  pub maps : (slot j d : ℕ) → j < most_maps → head_map (head_in heads slot) j ≡ suc d → IsOnly v (data_place g d) (map_page (row_at rows d))
  pub leaves : HoldsLeaves g (layouts_of rows heads) v

abbrev pub HoldsTable : TableView → StoreView → Type 0
HoldsTable t v = HoldsHeads t.counts t.maps t.heads v

-- what heads say together with the map pages of a choice
abbrev pub layouts_on : Counts → List Head → Pages → List Layout
layouts_on g heads pages = layouts_by (λ d. entry_in (pages (data_place g d))) heads

-- By a choice of the store's candidates the map pages that the heads name are map pages, no data page is named twice, and each that is
-- named for a block has one candidate.
pub record IsMapChoice (g : Counts) (heads : List Head) (v : StoreView) (pages : Pages) : Type 0 where
  pub whole : (slot j d : ℕ) → j < most_maps → head_map (head_in heads slot) j ≡ suc d → IsMapPage g.leaves (pages (data_place g d))
  pub once : AreNamedOnce (layouts_on g heads pages)
  pub leaves : HoldsLeaves g (layouts_on g heads pages) v

-- a store's heads can be loaded: it holds these, and each choice may be read
pub record MapsLoadable (g : Counts) (heads : List Head) (v : StoreView) : Type 0 where
  pub slots : length heads ≡ g.heads
  pub each : (slot : ℕ) → IsHeadOf g.leaves (head_in heads slot)
  pub files : HaveOneHead heads
  pub stored : StoresHeads g heads v
  pub choices : (pages : Pages) → IsChoice v pages → IsMapChoice g heads v pages

-- the files of a store that holds them: any choice has those of the first candidates
abbrev pub files_in : Counts → StoreView → Files
files_in g v = files_of_pages g v.first
