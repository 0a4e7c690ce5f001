use Rattle.jn_options.proofs.Common.{IfOk-weaker, found_of, rows_of}
use Rattle.jn_options.proofs.Limits.{if_in_range}
use Rattle.jn_options.proofs.read.read_command.Goals as goal

pub returns-in-Some-subcommand-clause-limits : goal.returns-in-Some-subcommand-clause-limits
returns-in-Some-subcommand-clause-limits c =
    let found = c.in-Some-subcommand in
    IfOk-weaker c.command_among.result _ _ (if_in_range (found.name.now, rows_of (found_of found.given.now))) c.command_among.ensures
