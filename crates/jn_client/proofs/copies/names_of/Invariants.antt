use Rattle.std.proofs.Common.{◌≡◌, ◌++◌, drop}
use Rattle.jn_rows.specs.Client.{names_of}
use Rattle.jn_client.proofs.copies.names_of.Given as goal

abbrev pub invariant-loop-w : goal.invariant-loop-w
invariant-loop-w l = l.names.items ++ names_of (drop l.w-index l.works) ≡ names_of l.works
