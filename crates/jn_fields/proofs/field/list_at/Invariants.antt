use Rattle.std.proofs.Common.{◌≡◌, ◌-◌}
use Rattle.jn_fields.specs.Reading.{list_at}
use Rattle.jn_fields.proofs.Lists.{with_front}
use Rattle.jn_fields.proofs.field.list_at.Given as goal

abbrev pub invariant-loop : goal.invariant-loop
invariant-loop g l = with_front l.list.items (list_at g.F.Field.read (l.count - l.counter) l.rest) ≡ list_at g.F.Field.read l.count l.bytes
