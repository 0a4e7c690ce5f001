-- What a source that has a schedule gave.
use Rattle.std.specs.Prelude.{◌≡◌, ◌≤◌, ℕ, ◌+◌, List, drop, option_map}
use Rattle.jn_base.specs.Counts.{Rose}
use Rattle.jn_serving.specs.Input.{most_bytes}
use Rattle.jn_writing.specs.Outside.{SourceState}

-- the source gave its first bytes, so many, and no call failed
pub record Gives (count : ℕ) (before after : SourceState) : Type 0 where
  pub left : after.left ≡ option_map (λ (bytes : List ℕ). drop count bytes) before.left
  pub faults : after.faults ≡ before.faults

-- it gave so many, at most one more than the longest schedule has
abbrev pub GivesSome : SourceState → SourceState → Type 0
GivesSome before after = (count : ℕ) × (count ≤ most_bytes + 1) × Gives count before after

-- it gave at most as many as the longest schedule has, and then a call failed
pub record FailsToGive (before after : SourceState) : Type 0 where
  pub count : ℕ
  pub few : count ≤ most_bytes
  pub left : after.left ≡ option_map (λ (bytes : List ℕ). drop count bytes) before.left
  pub rose : Rose before.faults after.faults
