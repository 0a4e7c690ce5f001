-- Where the stable pages of each kind stand, and the files that they hold.
use Rattle.std.specs.Prelude.{◌≡◌, ◌<◌, ℕ, zero, suc, ◌+◌, ◌*◌, Bool, true, ◌&&◌, nat_eq, nat_lt, if◌then◌else◌, List, length, take, drop, Option, Some, None, option_map, option_and_then, slice_index}
use Rattle.byteorder.specs.Endian.{big_number}
use Rattle.jn_base.specs.declared.names.ServerNo.{ServerNo}
use Rattle.jn_base.specs.declared.names.FileNo.{FileNo}
use Rattle.jn_base.specs.declared.names.BlockNo.{BlockNo}
use Rattle.jn_base.specs.declared.names.LockUnit.TheVariants.{File, Block}
use Rattle.jn_base.specs.Limits.{head_blocks, most_blocks, most_maps}
use Rattle.jn_order.specs.Files.{Files, there}
use Rattle.jn_records.specs.declared.root.Root.{Root}
use Rattle.jn_records.specs.Heads.{IsMapPage}
use Rattle.jn_records.specs.Layouts.{laid}
use Rattle.jn_records.specs.Pages.{format_version}

-- how many stable pages there are of each kind, behind the root at 0: the pool, the heads, the data pages
pub record Counts : Type 0 where
  pub pool : ℕ
  pub heads : ℕ
  pub leaves : ℕ

-- those that a root names
abbrev pub counts_of : Root → Counts
counts_of root = record { pool = root.pool; heads = root.heads; leaves = root.leaves }

-- the root of a server with so many, at an epoch, of the version that is written
abbrev pub root_by : ServerNo → Counts → ℕ → Root
root_by server g epoch = record { version = format_version; server = server; pool = g.pool; heads = g.heads; leaves = g.leaves; epoch = epoch }

abbrev pub Pages : Type 0
Pages = ℕ → List ℕ

abbrev pub page_count : Counts → ℕ
page_count g = 1 + g.pool + g.heads + g.leaves

abbrev pub slot_place : Counts → ℕ → ℕ
slot_place g i = 1 + i

abbrev pub head_place : Counts → ℕ → ℕ
head_place g i = 1 + g.pool + i

abbrev pub data_place : Counts → ℕ → ℕ
data_place g i = 1 + g.pool + g.heads + i

-- a used head begins with 1 and has its file's number in the next four bytes
abbrev pub is_used : List ℕ → Bool
is_used page = nat_eq (slice_index page 0) 1

abbrev pub file_in : List ℕ → ℕ
file_in page = big_number 4 (drop 1 page)

-- and then an address of two bytes for each of its first blocks: 0 for none, else 1 more than the data page's index
abbrev pub address_in : List ℕ → ℕ → ℕ
address_in page k = big_number 2 (drop (5 + 2 * k) page)

-- and then one for each map page
abbrev pub map_in : List ℕ → ℕ → ℕ
map_in page j = big_number 2 (drop (245 + 2 * j) page)

-- a map page has an address for each of its blocks
abbrev pub entry_in : List ℕ → ℕ → ℕ
entry_in page k = big_number 2 (drop (2 * k) page)

abbrev pub is_head_of : FileNo → List ℕ → Bool
is_head_of f page = is_used page && nat_eq (file_in page) f.0

-- the head of a file, among n heads from i on
abbrev pub head_from : Counts → Pages → FileNo → ℕ → ℕ → Option (List ℕ)
head_from g pages f i zero = None
head_from g pages f i (suc n) = if is_head_of f (pages (head_place g i)) then Some (pages (head_place g i)) else head_from g pages f (i + 1) n

abbrev pub head_of : Counts → Pages → FileNo → Option (List ℕ)
head_of g pages f = head_from g pages f 0 g.heads

-- what an address leads to: the first 448 bytes of the data page
abbrev pub block_behind : Counts → Pages → ℕ → Option (List ℕ)
block_behind g pages zero = None
block_behind g pages (suc a) = Some (take 448 (pages (data_place g a)))

-- the address of a block by a head: in the head itself, or in one of its map pages
abbrev pub address_by : Counts → Pages → List ℕ → ℕ → ℕ
address_by g pages head p = laid (λ d. entry_in (pages (data_place g d))) (address_in head) (map_in head) p

abbrev pub block_in : Counts → Pages → BlockNo → List ℕ → Option (List ℕ)
block_in g pages p head = if nat_lt p.0 most_blocks then block_behind g pages (address_by g pages head p.0) else None

-- each used head's file, with the blocks that have an address
abbrev pub files_of_pages : Counts → Pages → Files
files_of_pages g pages (File f) = option_map (λ head. there) (head_of g pages f)
files_of_pages g pages (Block f p) = option_and_then (block_in g pages p) (head_of g pages f)

-- these are the numbers that stand there
pub record HasEntries (page entries : List ℕ) : Type 0 where
  pub count : length entries ≡ head_blocks
  pub each : (k : ℕ) → k < head_blocks → slice_index entries k ≡ entry_in page k

-- a used head names data page d as a map page
pub record NamesMap (g : Counts) (pages : Pages) (d : ℕ) : Type 0 where
  pub head : ℕ
  pub at : ℕ
  pub is_head : head < g.heads
  pub used : is_used (pages (head_place g head)) ≡ true
  pub below : at < most_maps
  pub names : map_in (pages (head_place g head)) at ≡ suc d

-- data page d is a map page where a head names it as one
abbrev pub IsWholeMap : Counts → Pages → ℕ → Type 0
IsWholeMap g pages d = d < g.leaves → NamesMap g pages d → IsMapPage g.leaves (pages (data_place g d))
