use Rattle.jn_wrong.proofs.Begun.{begun-only, settled-only, two-only, read-only, shown-only, opened-only, traced-only, aborted-only}
use Rattle.jn_wrong.proofs.new.reports_are_the_only_ones.Goals as goal

pub returns-clause-begins : goal.returns-clause-begins
returns-clause-begins c = begun-only

pub returns-clause-settles_twice : goal.returns-clause-settles_twice
returns-clause-settles_twice c = settled-only

pub returns-clause-two_clients : goal.returns-clause-two_clients
returns-clause-two_clients c = two-only

pub returns-clause-reads : goal.returns-clause-reads
returns-clause-reads c = read-only

pub returns-clause-shows : goal.returns-clause-shows
returns-clause-shows c = shown-only

pub returns-clause-two_servers : goal.returns-clause-two_servers
returns-clause-two_servers c = opened-only

pub returns-clause-traced : goal.returns-clause-traced
returns-clause-traced c = traced-only

pub returns-clause-aborts : goal.returns-clause-aborts
returns-clause-aborts c = aborted-only
