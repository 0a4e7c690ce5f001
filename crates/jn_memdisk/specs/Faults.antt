-- The faults of a disk in memory.
use Rattle.std.specs.Prelude.{ℕ, ◌<◌, Bool, true, ◌&&◌, List, [], ◌∷◌, Option, Some, None}
use Rattle.jn_base.specs.declared.device.FaultKind.{FaultKind}
use Rattle.jn_base.specs.declared.device.FaultKind.TheVariants.{Decay, Revive}
use Rattle.jn_device.specs.declared.Armed.{Armed}
use Rattle.jn_device.specs.Events.{is_within}

-- each fault that waits names a page that there is
abbrev pub all_within : ℕ → List Armed → Bool
all_within count [] = true
all_within count (w ∷ ws) = is_within count w.kind && all_within count ws

-- and so does the one that strikes
abbrev pub Within : ℕ → Option FaultKind → Type 0
Within count (Some (Decay d)) = d < count
Within count (Some (Revive d)) = d < count
Within count _ = Unit {0}

abbrev pub list_of : {A : Type 0} → Option A → List A
list_of None = []
list_of (Some x) = x ∷ []
