-- A run so far, with the report that the code has.
use Rattle.std.specs.Prelude.{◌≡◌, List}
use Rattle.jn_report.specs.declared.line.Line.{Line}
use Rattle.jn_schedule.specs.declared.Event.{Event}
use Rattle.jn_machine.specs.Chances.{Setup}
use Rattle.jn_machine.specs.Devices.{Devices}
use Rattle.jn_machine.specs.Runs.{Moment}
use Rattle.jn_machine.specs.Whole.{IsWritten}

pub record IsReported (x : Setup) (schedule : List Event) (images : Devices) (now : Moment) (lines : List Line) : Type 0 where
  pub written : IsWritten x schedule images now
  pub lines_are : now.state.lines ≡ lines
