-- A text that refuses what a program was given.
use Rattle.std.specs.Prelude.{◌≡◌, List, ℕ}
use Rattle.jn_status.specs.declared.status.Status.{Status}
use Rattle.jn_status.specs.declared.status.Status.TheVariants as statuses
use Rattle.jn_writing.specs.Outside.{SinkState, Writes, FailsToWrite}

-- a text refuses words, a schedule or an image, with this status
abbrev pub Refuses : List ℕ → Status → SinkState → Status → SinkState → Type 0
Refuses text refused before statuses.Write after = FailsToWrite text before after
Refuses text refused before statuses.Memory after = after ≡ before
Refuses text refused before status after = (status ≡ refused) × Writes text before after
