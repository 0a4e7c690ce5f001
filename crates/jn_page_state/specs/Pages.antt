-- What is found on pages: by each pick of halves what they say, and the stable state.
use Rattle.std.specs.Prelude.{◌≡◌, ℕ, zero, suc, ◌<◌, nat_lt, if◌then◌else◌, List, [], ◌∷◌, take, drop, replicate, Option, Some, None}
use Rattle.jn_base.specs.declared.names.ServerNo.{ServerNo}
use Rattle.jn_records.specs.declared.head.Head.{Head}
use Rattle.jn_records.specs.declared.head.Head.TheVariants.{Free as FreeHead}
use Rattle.jn_records.specs.declared.record.Record.{Record}
use Rattle.jn_records.specs.declared.record.Record.TheVariants.{Free}
use Rattle.jn_records.specs.declared.root.Root.{Root}
use Rattle.jn_records.specs.Heads.{head_page, head_at, IsHead, FileFits}
use Rattle.jn_records.specs.Pages.{root_page, root_at, IsRoot}
use Rattle.jn_records.specs.Records.{record_at}
use Rattle.jn_records.specs.StablePages.{Counts, Pages, slot_place, head_place, data_place, files_of_pages, root_by, IsWholeMap}
use Rattle.jn_rows.specs.Stable.{StableState, Pick}
use Rattle.jn_sets.specs.Pool.{IsRecordPage}
use Rattle.jn_store.specs.Store.{StoreView}
use Rattle.jn_page_state.specs.Contents.{Contents, works_in, flags_in}

-- ---- what pages say

abbrev pub epoch_by : Option (Root × List ℕ) → ℕ
epoch_by None = 0
epoch_by (Some r) = r.0.epoch

abbrev pub epoch_in : Pages → ℕ
epoch_in pages = epoch_by (root_at (pages 0))

-- a page that isn't of the format counts as free
abbrev pub record_or_free : Option Record → Record
record_or_free None = Free
record_or_free (Some r) = r

abbrev pub head_or_free : Option Head → Head
head_or_free None = FreeHead
head_or_free (Some h) = h

abbrev pub record_on : Counts → Pages → ℕ → Record
record_on g pages i = record_or_free (record_at (pages (slot_place g i)))

abbrev pub head_on : Counts → Pages → ℕ → Head
head_on g pages i = head_or_free (head_at (pages (head_place g i)))

-- the block of a data page: its first 448 bytes
abbrev pub block_on : Counts → Pages → ℕ → List ℕ
block_on g pages d = take 448 (pages (data_place g d))

-- so many values from a number on
abbrev pub listed : {A : Type 0} → (ℕ → A) → ℕ → ℕ → List A
listed f i zero = []
listed f i (suc n) = f i ∷ listed f (suc i) n

abbrev pub pool_on : Counts → Pages → List Record
pool_on g pages = listed (record_on g pages) 0 g.pool

abbrev pub heads_on : Counts → Pages → List Head
heads_on g pages = listed (head_on g pages) 0 g.heads

abbrev pub contents_of : Counts → Pages → Contents
contents_of g pages = record { epoch = epoch_in pages; pool = pool_on g pages; heads = heads_on g pages; blocks = block_on g pages }

-- The stable state that the pages hold: the epoch of the root, the files by the heads, a work for each ready or
-- going record with its intentions, and the flags.
abbrev pub state_of : Counts → Pages → StableState
state_of g pages = record {
  epoch = epoch_in pages;
  files = files_of_pages g pages;
  works = works_in (pool_on g pages) (block_on g pages);
  flags = flags_in (pool_on g pages);
}

-- ---- picks

abbrev pub half_of : StoreView → ℕ → Pick → List ℕ
half_of v k c = if c k then v.second k else v.first k

-- each page of the store by the half that is picked; there is nothing past the last
abbrev pub pages_by : StoreView → Pick → Pages
pages_by v c k = if nat_lt k v.count then half_of v k c else []

-- the state that each pick finds
abbrev pub found_on : Counts → StoreView → Pick → StableState
found_on g v c = state_of g (pages_by v c)

-- ---- pages of the format

-- a root of either version
abbrev pub IsRootPage : ServerNo → Counts → List ℕ → Type 0
IsRootPage server g page = (version : ℕ) × (epoch : ℕ) × IsRoot (record (root_by server g epoch) { version = version }) × (page ≡ root_page (record (root_by server g epoch) { version = version }))

abbrev pub IsHeadPage : ℕ → List ℕ → Type 0
IsHeadPage leaves page = (h : Head) × IsHead leaves h × FileFits h × (page ≡ head_page h)

-- a data page has zeros behind its block
abbrev pub IsDataPage : List ℕ → Type 0
IsDataPage page = drop 448 page ≡ replicate 64 0

-- Every page is of the format at its place, the root has the server and the counts, and a data page that a head names as a
-- map page is one.
pub record IsOfFormat (server : ServerNo) (g : Counts) (pages : Pages) : Type 0 where
  pub root : IsRootPage server g (pages 0)
  pub pool : (i : ℕ) → i < g.pool → IsRecordPage (pages (slot_place g i))
  pub heads : (i : ℕ) → i < g.heads → IsHeadPage g.leaves (pages (head_place g i))
  pub data_pages : (d : ℕ) → d < g.leaves → IsDataPage (pages (data_place g d))
  pub maps : (d : ℕ) → IsWholeMap g pages d
