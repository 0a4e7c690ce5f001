use Rattle.jn_system_settling.proofs.Common.{[], opening, opening_course}
use Rattle.jn_system_settling.proofs.Settling.Settling.{opening-sound, event-sound}
use Rattle.jn_system_settling.proofs.courses.events_are_runs.Goals as goal

pub returns : goal.returns
returns c = λ servers files epochs events few steps. event-sound servers few (opening servers files epochs) events (record { course = opening_course servers files epochs; report = [] }) (opening-sound servers files epochs) steps
