-- What the code answers of the first record, as private contracts name it.
use Rattle.std.specs.Prelude.{◌≡◌, ◌<◌, List, ℕ, length}
use Rattle.jn_journal.specs.declared.reading.First.{First}
use Rattle.jn_journal.specs.declared.reading.First.TheVariants as first
use Rattle.jn_journal.specs.Format.{next_chain}
use Rattle.jn_journal.specs.Steps.{Step, Whole, Stops}

-- it answers this step: of a whole record its content, what stands behind it, and its digest
abbrev pub IsFirst : List ℕ → Step → First → Type 0
IsFirst chain step (first.Whole content rest digest) = (step ≡ Whole content.now rest.now) × (digest ≡ next_chain chain content.now)
IsFirst chain step (first.Stops ending) = step ≡ Stops ending

-- a whole record has something of its own
abbrev pub IsShorter : ℕ → First → Type 0
IsShorter n (first.Whole content rest digest) = length rest.now < n
IsShorter n (first.Stops ending) = Unit {0}
