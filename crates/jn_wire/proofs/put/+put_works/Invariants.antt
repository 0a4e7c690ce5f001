use Rattle.std.proofs.Common.{length}
use Rattle.jn_wire.proofs.put.+put_works.Given as goal

abbrev pub decreases-put_works : goal.decreases-put_works
decreases-put_works l = length l.works.now
