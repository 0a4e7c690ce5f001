-- Sound images: the pages of a server that was closed, each pair good and equal, with nothing under way.
use Rattle.std.specs.Prelude.{◌≡◌, ◌<◌, ◌^◌, ◌+◌, ◌*◌, ℕ, Bool, true, List, drop, replicate}
use Rattle.jn_base.specs.declared.names.ServerNo.{ServerNo}
use Rattle.jn_base.specs.Limits.{head_blocks, most_maps}
use Rattle.jn_records.specs.declared.head.Head.{Head}
use Rattle.jn_records.specs.declared.record.Record.TheVariants.{Free}
use Rattle.jn_records.specs.Pages.{root_page, IsVersion}
use Rattle.jn_records.specs.Heads.{head_page, IsHead, FileFits, fits_version}
use Rattle.jn_records.specs.Records.{record_page}
use Rattle.jn_records.specs.StablePages.{Counts, Pages, root_by, page_count, slot_place, head_place, data_place, is_used, file_in, address_in, map_in, entry_in, NamesMap, IsWholeMap}

-- What an image says: its version, whose it is, how many pages there are of each kind, and of each physical page
-- whether it is good and its bytes. The halves of stable page i are the physical pages i and i + page_count.
pub record Image : Type 0 where
  pub version : ℕ
  pub server : ServerNo
  pub counts : Counts
  pub good : ℕ → Bool
  pub bytes : Pages

-- stable page 0 is the root of this version, server and counts, at some epoch, and the version is one that is read
abbrev pub HasRoot : Image → Type 0
HasRoot m = (epoch : ℕ) × (epoch < 2 ^ 32) × (m.bytes 0 ≡ root_page (record (root_by m.server m.counts epoch) { version = m.version })) × IsVersion m.version

abbrev pub All : (ℕ → Type 0) → Type 0
All P = (n : ℕ) → P n

-- physical page p is good
abbrev pub PagesGood : Image → ℕ → Type 0
PagesGood m p = p < 2 * page_count m.counts → m.good p ≡ true

-- both halves of stable page i have the same bytes
abbrev pub PairsAgree : Image → ℕ → Type 0
PairsAgree m i = i < page_count m.counts → m.bytes i ≡ m.bytes (i + page_count m.counts)

-- slot i of the pool is free
abbrev pub SlotsFree : Image → ℕ → Type 0
SlotsFree m i = i < m.counts.pool → m.bytes (slot_place m.counts i) ≡ record_page Free

abbrev pub head_bytes_of : Image → ℕ → List ℕ
head_bytes_of m i = m.bytes (head_place m.counts i)

-- head i is the page of a head of the image's version, with no address past the data pages
abbrev pub IsWholeHead : Image → ℕ → Type 0
IsWholeHead m i = (h : Head) × IsHead m.counts.leaves h × FileFits h × (fits_version m.version h ≡ true) × (head_bytes_of m i ≡ head_page h)

abbrev pub HeadsWhole : Image → ℕ → Type 0
HeadsWhole m i = i < m.counts.heads → IsWholeHead m i

-- one head at most is used for file f: a page that is no head counts for none
abbrev pub HasOneHead : Image → ℕ → Type 0
HasOneHead m f =
    (i j : ℕ) → i < m.counts.heads → j < m.counts.heads → IsWholeHead m i → IsWholeHead m j
    → is_used (head_bytes_of m i) ≡ true → file_in (head_bytes_of m i) ≡ f
    → is_used (head_bytes_of m j) ≡ true → file_in (head_bytes_of m j) ≡ f → i ≡ j

-- data page d is a map page where a head names it as one
abbrev pub MapsWhole : Image → ℕ → Type 0
MapsWhole m d = IsWholeMap m.counts m.bytes d

-- Where an address may be written: in a head as that of a block or of a map page, and in a data page that a head names as a
-- map page. A map page that is named twice is looked at once.
pub data Spot : Type 0 where
  InHead : ℕ → ℕ → Spot
  AsMap : ℕ → ℕ → Spot
  InMap : ℕ → ℕ → Spot

-- head i is used, and k is below n
pub record IsUsedAt (m : Image) (i k n : ℕ) : Type 0 where
  pub head : i < m.counts.heads
  pub used : is_used (head_bytes_of m i) ≡ true
  pub below : k < n

abbrev pub IsWrittenAt : Image → ℕ → Spot → Type 0
IsWrittenAt m a (InHead i k) = IsUsedAt m i k head_blocks × (address_in (head_bytes_of m i) k ≡ a)
IsWrittenAt m a (AsMap i j) = IsUsedAt m i j most_maps × (map_in (head_bytes_of m i) j ≡ a)
IsWrittenAt m a (InMap d k) = (d < m.counts.leaves) × NamesMap m.counts m.bytes d × (k < head_blocks) × (entry_in (m.bytes (data_place m.counts d)) k ≡ a)

-- address a is written once at most
abbrev pub AddressesOnce : Image → ℕ → Type 0
AddressesOnce m a = 0 < a → (x y : Spot) → IsWrittenAt m a x → IsWrittenAt m a y → x ≡ y

-- data page i has zeros behind its block
abbrev pub TailsZeros : Image → ℕ → Type 0
TailsZeros m i = i < m.counts.leaves → drop 448 (m.bytes (data_place m.counts i)) ≡ replicate 64 0

-- The image of server s is sound. Each field is one way in which it may not be.
pub record IsSound (s : ServerNo) (m : Image) : Type 0 where
  pub server : m.server ≡ s
  pub root : HasRoot m
  pub good : All (PagesGood m)
  pub pairs : All (PairsAgree m)
  pub pool : All (SlotsFree m)
  pub files : All (HasOneHead m)
  pub heads : All (HeadsWhole m)
  pub maps : All (MapsWhole m)
  pub addresses : All (AddressesOnce m)
  pub tails : All (TailsZeros m)
