-- The rules that are looked at place by place, and the heads as they are read.
use Rattle.std.specs.Prelude.{◌≡◌, ◌<◌, ◌+◌, ◌*◌, ◌^◌, ℕ, is_some, true, List, length, drop, replicate, get_or, Option, Some, None}
use Rattle.jn_records.specs.declared.head.Head.{Head}
use Rattle.jn_records.specs.declared.head.Head.TheVariants.{Free, Used}
use Rattle.jn_records.specs.declared.record.Record.TheVariants.{Free as FreeRecord}
use Rattle.jn_records.specs.declared.root.Root.{Root}
use Rattle.jn_records.specs.Heads.{head_page, IsHead, FileFits, fits_version}
use Rattle.jn_records.specs.Sound as sound
use Rattle.jn_records.specs.Sound.{IsWholeHead, head_bytes_of}
use Rattle.jn_records.specs.Records.{record_page}
use Rattle.jn_records.specs.StablePages.{page_count, slot_place, data_place}
use Rattle.jn_image.specs.declared.soundness.Rule.{Rule}
use Rattle.jn_image.specs.declared.soundness.Rule.TheVariants.{Good, Pair, Slot, Tail}

-- how many places a rule has
abbrev pub places : sound.Image → Rule → ℕ
places m Good = 2 * page_count m.counts
places m Pair = page_count m.counts
places m Slot = m.counts.pool
places m Tail = m.counts.leaves

abbrev pub RuleHolds : sound.Image → Rule → ℕ → Type 0
RuleHolds m Good p = m.good p ≡ true
RuleHolds m Pair i = m.bytes i ≡ m.bytes (i + page_count m.counts)
RuleHolds m Slot i = m.bytes (slot_place m.counts i) ≡ record_page FreeRecord
RuleHolds m Tail i = drop 448 (m.bytes (data_place m.counts i)) ≡ replicate 64 0

abbrev pub HoldsWithin : sound.Image → Rule → ℕ → Type 0
HoldsWithin m rule i = i < places m rule → RuleHolds m rule i

-- a root at another epoch
abbrev pub at_epoch : Root → ℕ → Root
at_epoch r epoch = record { version = r.version; server = r.server; pool = r.pool; heads = r.heads; leaves = r.leaves; epoch = epoch }

-- what was read of a head's page
abbrev pub IsHeadAt : sound.Image → ℕ → Option Head → Type 0
IsHeadAt m i None = IsWholeHead m i → ⊥
IsHeadAt m i (Some h) = IsHead m.counts.leaves h × FileFits h × (fits_version m.version h ≡ true) × (head_bytes_of m i ≡ head_page h)

-- these are the image's heads, and none where a page is no head
pub record AreHeads (m : sound.Image) (heads : List (Option Head)) : Type 0 where
  pub few_heads : m.counts.heads < 2 ^ 16
  pub few : m.counts.leaves < 2 ^ 16
  pub count : length heads ≡ m.counts.heads
  pub each : (i : ℕ) → i < m.counts.heads → IsHeadAt m i (get_or heads i None)

-- a head's file, where it is used
abbrev pub head_file_number : Option Head → Option ℕ
head_file_number (Some (Used file addresses maps)) = Some file.0
head_file_number (Some Free) = None
head_file_number None = None

-- head i was read as one
abbrev pub IsRead : List (Option Head) → ℕ → Type 0
IsRead heads i = i < length heads → is_some (get_or heads i None) ≡ true
