-- What a recovery asks of a server's pages, whichever halves it will read.
use Rattle.std.specs.Prelude.{◌≡◌, ◌⊎◌, ℕ, suc, ◌<◌, Bool, true, false, ◌||◌, List, length, is_some}
use Rattle.std.specs.List.{list_any}
use Rattle.jn_base.specs.declared.names.ServerNo.{ServerNo}
use Rattle.jn_base.specs.declared.names.Tid.{Tid}
use Rattle.jn_base.specs.declared.names.WorkId.{WorkId}
use Rattle.jn_base.specs.Limits.{most_blocks, most_cells}
use Rattle.jn_records.specs.declared.head.Head.{Head}
use Rattle.jn_records.specs.Heads.{HaveOneHead}
use Rattle.jn_records.specs.declared.intention.StoredIntention.{StoredIntention}
use Rattle.jn_records.specs.declared.record.Record.{Record}
use Rattle.jn_records.specs.declared.record.Record.TheVariants.{Intention as IntentionRecord, Ready, Going}
use Rattle.jn_records.specs.Intentions.{names_address}
use Rattle.jn_records.specs.Layouts.{Layout, map_cell, at_cell, layout_at, is_layout_of, AreNamedOnce}
use Rattle.jn_records.specs.MapPlaces.{maps_in, IsSuppliedBy, range_of}
use Rattle.jn_records.specs.StablePages.{Counts, Pages, page_count, data_place, NamesMap}
use Rattle.jn_rows.specs.Stable.{Pick}
use Rattle.jn_sets.specs.Pool.{record_in, is_prepared, is_intention, is_flag}
use Rattle.jn_storage.specs.Orderly.{IsLoadable}
use Rattle.jn_store.specs.Store.{StoreView, IsClean, IsWholePage}
use Rattle.jn_page_state.specs.Contents.{Contents, layouts_in, intention_of, heads_name, works_have, names_for_block, stored_list}
use Rattle.jn_page_state.specs.Pages.{contents_of, pages_by, state_of, IsOfFormat}

-- ---- what stands once

-- the test passes at one number at most
abbrev pub PassesOnce : (ℕ → Bool) → Type 0
PassesOnce test = (i j : ℕ) → test i ≡ true → test j ≡ true → i ≡ j

-- no work and no flag has two records, and no file two heads
pub record IsDistinct (c : Contents) : Type 0 where
  pub works : (w : WorkId) → PassesOnce (λ i. is_prepared w (record_in c.pool i))
  pub flags : (t : Tid) → PassesOnce (λ i. is_flag t (record_in c.pool i))
  pub files : HaveOneHead c.heads

-- ---- the intentions of prepared works

-- a prepared work has so many intentions: each of them once, and no more
pub record HasIntentions (pool : List Record) (work : WorkId) (n : ℕ) : Type 0 where
  pub all : (order : ℕ) → order < n → is_some (intention_of pool work order) ≡ true
  pub once : (order : ℕ) → PassesOnce (λ i. is_intention work order (record_in pool i))
  pub no_more : (order i : ℕ) → is_intention work order (record_in pool i) ≡ true → order < n

abbrev pub IsCompleteBy : List Record → Record → Type 0
IsCompleteBy pool (Ready head n reads) = HasIntentions pool head.work n
IsCompleteBy pool (Going head n reads) = HasIntentions pool head.work n
IsCompleteBy pool _ = Unit {0}

-- each put of a prepared work that lacks its map page in its turn names one
abbrev pub IsSuppliedIn : List Head → List Record → Record → Type 0
IsSuppliedIn heads pool (Ready head n reads) = IsSuppliedBy (maps_in heads) (stored_list pool head.work n)
IsSuppliedIn heads pool (Going head n reads) = IsSuppliedBy (maps_in heads) (stored_list pool head.work n)
IsSuppliedIn heads pool _ = Unit {0}

-- ---- addresses

-- slot i has this intention of a prepared work
pub record Intends (pool : List Record) (i : ℕ) (s : StoredIntention) : Type 0 where
  pub work : WorkId
  pub tid : Tid
  pub order : ℕ
  pub stands : record_in pool i ≡ IntentionRecord work tid order s
  pub prepared : list_any (is_prepared work) pool ≡ true

-- layout i has data page d at cell q
abbrev pub Addresses : List Layout → ℕ → ℕ → ℕ → Type 0
Addresses layouts i q d = at_cell (layout_at layouts i) q ≡ suc d

-- an intention names data page d for cell q: that of its block, or that of its block's map page
abbrev pub Gives : StoredIntention → ℕ → ℕ → Type 0
Gives s d q = ((s.address ≡ suc d) × (q ≡ s.block.0)) ⊎ ((s.map ≡ suc d) × (q ≡ map_cell (range_of s.block.0)))

pub record AddressesDiffer (leaves : ℕ) (c : Contents) : Type 0 where
  pub heads : AreNamedOnce (layouts_in c)
  -- nor is a data page named twice by the intentions of prepared works, and each that they name is there
  pub works : (d i j p q : ℕ) (s t : StoredIntention) → Intends c.pool i s → Intends c.pool j t → Gives s d p → Gives t d q → (i ≡ j) × (p ≡ q)
  pub works_fit : (d i p : ℕ) (s : StoredIntention) → Intends c.pool i s → Gives s d p → d < leaves
  -- a layout has the data page of such an intention in its file and at its cell alone
  pub carried : (d i j p q : ℕ) (s : StoredIntention) → Intends c.pool i s → Gives s d p → Addresses (layouts_in c) j q d → (is_layout_of s.file (layout_at (layouts_in c) j) ≡ true) × (q ≡ p)

-- ---- one choice

-- what a recovery asks of what pages say
pub record IsConsistent (g : Counts) (c : Contents) : Type 0 where
  pub distinct : IsDistinct c
  pub complete : (i : ℕ) → IsCompleteBy c.pool (record_in c.pool i)
  pub supplied : (i : ℕ) → IsSuppliedIn c.heads c.pool (record_in c.pool i)
  pub addresses : AddressesDiffer g.leaves c

-- the pages of one choice
pub record IsFound (server : ServerNo) (g : Counts) (pages : Pages) : Type 0 where
  pub of_format : IsOfFormat server g pages
  pub consistent : IsConsistent g (contents_of g pages)
  pub loadable : IsLoadable server g.heads (state_of g pages)

-- ---- the store

-- a head names data page d at one of its first n cells, or an intention of a prepared work names it by this test
abbrev pub names_page : ℕ → (ℕ → StoredIntention → Bool) → List Layout → List Record → ℕ → Bool
names_page n test layouts pool d = heads_name n layouts (suc d) || works_have (test (suc d)) pool

-- they name it, for a block or as a map page
abbrev pub is_named : Contents → ℕ → Bool
is_named c d = names_page most_cells names_address (layouts_in c) c.pool d

-- they name it for a block
abbrev pub names_block : Contents → ℕ → Bool
names_block c d = names_page most_blocks names_for_block (layouts_in c) c.pool d

-- the stable state follows from it: a head names it, or a prepared work for a block
abbrev pub reads_page : List Layout → List Record → ℕ → Bool
reads_page layouts pool d = names_page most_cells names_for_block layouts pool d

abbrev pub is_read : Contents → ℕ → Bool
is_read c d = reads_page (layouts_in c) c.pool d

-- Each data page that is named for a block in some choice has one candidate. A map page may have two, after a stop
-- in its put, or where a stop tore the put of the block that the page had before.
abbrev pub NamedAreClean : Counts → StoreView → Type 0
NamedAreClean g v = (c : Pick) (d : ℕ) → d < g.leaves → names_block (contents_of g (pages_by v c)) d ≡ true → IsClean v (data_place g d)

-- each map page that a head names in some choice has one candidate
abbrev pub MapsAreClean : Counts → StoreView → Type 0
MapsAreClean g v = (c : Pick) (d : ℕ) → d < g.leaves → NamesMap g (pages_by v c) d → IsClean v (data_place g d)

-- and both halves of each are good
abbrev pub MapsAreWhole : Counts → StoreView → Type 0
MapsAreWhole g v = (c : Pick) (d : ℕ) → d < g.leaves → NamesMap g (pages_by v c) d → IsWholePage v (data_place g d)

-- a store from which a recovery may begin: so it is at every moment, whatever was stopped
pub record IsRecoverable (server : ServerNo) (g : Counts) (v : StoreView) : Type 0 where
  pub count : page_count g ≡ v.count
  pub each : (c : Pick) → IsFound server g (pages_by v c)
  pub clean : NamedAreClean g v

-- ---- the data pages of a work that isn't prepared yet

-- slot i has this intention of the work
pub record HasAt (pool : List Record) (work : WorkId) (i : ℕ) (s : StoredIntention) : Type 0 where
  pub tid : Tid
  pub order : ℕ
  pub stands : record_in pool i ≡ IntentionRecord work tid order s

-- those that its intentions name are there, each is named once, and by nothing else
pub record AreFresh (leaves : ℕ) (c : Contents) (work : WorkId) : Type 0 where
  pub fit : (d i p : ℕ) (s : StoredIntention) → HasAt c.pool work i s → Gives s d p → d < leaves
  pub unnamed : (d i p : ℕ) (s : StoredIntention) → HasAt c.pool work i s → Gives s d p → is_named c d ≡ false
  pub differ : (d i j p q : ℕ) (s t : StoredIntention) → HasAt c.pool work i s → HasAt c.pool work j t → Gives s d p → Gives t d q → (i ≡ j) × (p ≡ q)

-- a work that may become prepared: all its intentions stand, with data pages of their own, and each put has its map page
pub record IsWholeWork (leaves : ℕ) (c : Contents) (work : WorkId) (n : ℕ) : Type 0 where
  pub intentions : HasIntentions c.pool work n
  pub fresh : AreFresh leaves c work
  pub supplied : IsSuppliedBy (maps_in c.heads) (stored_list c.pool work n)

-- ---- a work whose intentions are put one after another

-- the first intentions of a work stand in the pool, and no others of it
pub record HasFirst (pool : List Record) (work : WorkId) (stored : List StoredIntention) : Type 0 where
  pub list_stands : stored_list pool work (length stored) ≡ stored
  pub intentions : HasIntentions pool work (length stored)

-- no record is an intention of the work
abbrev pub HasNone : List Record → WorkId → Type 0
HasNone pool work = (order i : ℕ) → is_intention work order (record_in pool i) ≡ false
