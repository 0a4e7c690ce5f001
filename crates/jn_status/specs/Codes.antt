-- The exit status of each outcome.
use Rattle.std.specs.Prelude.{ℕ}
use Rattle.jn_status.specs.declared.status.Status.{Status}
use Rattle.jn_status.specs.declared.status.Status.TheVariants.{Done, Words, Schedule, Image, Read, Write, Keep, Limit, Memory, Unsettled, Frame}

abbrev pub code_of : Status → ℕ
code_of Done = 0
code_of Words = 2
code_of Schedule = 3
code_of Image = 4
code_of Read = 5
code_of Write = 6
code_of Keep = 7
code_of Limit = 8
code_of Memory = 9
code_of Unsettled = 10
code_of Frame = 11
