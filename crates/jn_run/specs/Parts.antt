-- Parts of a call: what each leaves.
use Rattle.std.specs.Prelude.{◌≡◌, List, ℕ}
use Rattle.jn_options.specs.declared.asked.Options.{Options}
use Rattle.jn_status.specs.declared.status.Status.{Status}
use Rattle.jn_status.specs.declared.status.Status.TheVariants as statuses
use Rattle.jn_run.specs.Outcome.{Reads, RunEnds}
use Rattle.jn_writing.specs.Outside.{SourceState, SinkState, KeeperState, Writes, FailsToWrite}

-- what a call leaves that has read this text, whole, for a run with these options
abbrev pub EndsOn : Options → List ℕ → SinkState → KeeperState → Status → SinkState → KeeperState → Type 0
EndsOn options text sink keeper status sink' keeper' = (source source' : SourceState) → Reads text source source'
    → RunEnds options (record { source = source; sink = sink; keeper = keeper }) (record { source = source'; sink = sink'; keeper = keeper' }) status
