use Rattle.std.proofs.Common.{length}
use Rattle.jn_journal.proofs.reading.+may_be_doubled.Given as goal

abbrev pub decreases-may_be_doubled : goal.decreases-may_be_doubled
decreases-may_be_doubled l = length l.bytes.now
