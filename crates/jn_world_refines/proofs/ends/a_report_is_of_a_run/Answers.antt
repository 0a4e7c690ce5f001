use Rattle.jn_world_refines.proofs.Reported.{reported-first, reported-further, reported-whole, reported-limited, reported-part}
use Rattle.jn_world_refines.proofs.ends.a_report_is_of_a_run.Goals as goal

pub returns : goal.returns
returns c = record { first = reported-first; further = reported-further; whole = reported-whole; limited = reported-limited; part = reported-part }
