use Rattle.std.proofs.Common.{◌≡◌, ◌-◌}
use Rattle.jn_wire.specs.Fields.{works_from}
use Rattle.jn_wire.proofs.Works.{with_front}
use Rattle.jn_wire.proofs.fields.works_from.Given as goal

abbrev pub invariant-loop : goal.invariant-loop
invariant-loop l = with_front l.items.items (works_from (l.count - l.counter) l.rest) ≡ works_from l.count l.bytes
