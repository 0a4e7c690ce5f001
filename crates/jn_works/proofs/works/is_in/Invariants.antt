use Rattle.std.proofs.Common.{◌≡◌, drop}
use Rattle.jn_base.specs.Names.{work_eq}
use Rattle.jn_storage.specs.Listing.{is_in}
use Rattle.jn_works.proofs.works.is_in.Given as goal

abbrev pub invariant-loop-other : goal.invariant-loop-other
invariant-loop-other l = is_in work_eq l.name (drop l.other-index l.names) ≡ is_in work_eq l.name l.names
