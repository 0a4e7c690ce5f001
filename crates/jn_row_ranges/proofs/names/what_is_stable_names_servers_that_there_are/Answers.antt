use Rattle.jn_row_ranges.proofs.ServerRows.{changes-within, all-changes-within, restored-within}
use Rattle.jn_row_ranges.proofs.names.what_is_stable_names_servers_that_there_are.Goals as goal

pub returns-clause-changes : goal.returns-clause-changes
returns-clause-changes c = changes-within

pub returns-clause-all_changes : goal.returns-clause-all_changes
returns-clause-all_changes c = all-changes-within

pub returns-clause-restarts : goal.returns-clause-restarts
returns-clause-restarts c = restored-within
