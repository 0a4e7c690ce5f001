-- How often each address is written: in heads as that of a block or of a map page, and in the map pages that they name.
use Rattle.std.specs.Prelude.{◌<◌, ◌+◌, ◌&&◌, ℕ, zero, suc, nat_lt, List, [], ◌∷◌, length, replicate, slice_index, slice_set, Option, Some, None, if◌then◌else◌}
use Rattle.jn_records.specs.declared.head.Head.{Head}
use Rattle.jn_records.specs.declared.head.Head.TheVariants.{Free, Used}
use Rattle.jn_records.specs.Heads.{IsMapPage}
use Rattle.jn_records.specs.Sound as sound
use Rattle.jn_records.specs.StablePages.{HasEntries, data_place}

-- an address is written once more, where it isn't 0 nor past the last one: a second time is the last that counts
abbrev pub noted : List ℕ → ℕ → List ℕ
noted times a = if nat_lt 0 a && (nat_lt a (length times) && nat_lt (slice_index times a) 2) then slice_set times a (slice_index times a + 1) else times

abbrev pub noted_all : List ℕ → List ℕ → List ℕ
noted_all times [] = times
noted_all times (a ∷ addresses) = noted_all (noted times a) addresses

-- no address is written: there is one for each data page, behind 0
abbrev pub no_times : ℕ → List ℕ
no_times leaves = replicate (leaves + 1) 0

-- ---- in heads

-- as that of a map page
abbrev pub maps_noted : List ℕ → Option Head → List ℕ
maps_noted times (Some (Used file addresses maps)) = noted_all times maps
maps_noted times (Some Free) = times
maps_noted times None = times

abbrev pub all_maps_noted : List ℕ → List (Option Head) → List ℕ
all_maps_noted times [] = times
all_maps_noted times (h ∷ heads) = all_maps_noted (maps_noted times h) heads

abbrev pub head_noted : List ℕ → Option Head → List ℕ
head_noted times (Some (Used file addresses maps)) = noted_all (noted_all times addresses) maps
head_noted times (Some Free) = times
head_noted times None = times

abbrev pub heads_noted : List ℕ → List (Option Head) → List ℕ
heads_noted times [] = times
heads_noted times (h ∷ heads) = heads_noted (head_noted times h) heads

-- ---- in map pages

-- the entries of each data page, as a map page
abbrev pub AreEntries : sound.Image → (ℕ → List ℕ) → Type 0
AreEntries m entries = (d : ℕ) → d < m.counts.leaves → HasEntries (m.bytes (data_place m.counts d)) (entries d)

-- those of one that is named as one count
abbrev pub page_noted : ℕ → List ℕ → List ℕ → List ℕ
page_noted named entries times = if nat_lt 0 named then noted_all times entries else times

-- so many data pages from one on
abbrev pub pages_noted : List ℕ → (ℕ → List ℕ) → List ℕ → ℕ → ℕ → List ℕ
pages_noted named entries times d zero = times
pages_noted named entries times d (suc n) = pages_noted named entries (page_noted (slice_index named (d + 1)) (entries d) times) (d + 1) n

-- how often each address is written in all
abbrev pub all_noted : ℕ → List (Option Head) → List ℕ → (ℕ → List ℕ) → List ℕ
all_noted leaves heads named entries = pages_noted named entries (heads_noted (no_times leaves) heads) 0 leaves

-- ---- the rules

-- a data page that is named as a map page is one
abbrev pub IsMapWhereNamed : sound.Image → List ℕ → ℕ → Type 0
IsMapWhereNamed m named d = d < m.counts.leaves → 0 < slice_index named (d + 1) → IsMapPage m.counts.leaves (m.bytes (data_place m.counts d))

abbrev pub IsTwice : List ℕ → ℕ → Type 0
IsTwice times a = (a < length times) × (1 < slice_index times a)

abbrev pub IsNotTwice : ℕ → List ℕ → ℕ → Type 0
IsNotTwice leaves times a = a < leaves + 1 → IsTwice times a → ⊥
