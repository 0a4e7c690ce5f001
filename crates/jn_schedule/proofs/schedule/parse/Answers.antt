use Rattle.jn_schedule.proofs.Lines.{first_never, first_same}
use Rattle.jn_schedule.proofs.schedule.parse.Goals as goal

pub returns-in-Ok-Some-clause-first : goal.returns-in-Ok-Some-clause-first
returns-in-Ok-Some-clause-first c line number is = absurd (first_never c.in-Ok-Some.field-0 c.parse_up_to.result c.in-Ok-Some.is line number (c.parse_up_to.ensures.first line number is))

pub returns-in-Err-clause-first : goal.returns-in-Err-clause-first
returns-in-Err-clause-first c line number is = first_same c.in-Err.fault c.parse_up_to.result c.in-Err.is line number (c.parse_up_to.ensures.first line number is)
