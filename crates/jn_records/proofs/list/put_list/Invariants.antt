use Rattle.jn_records.proofs.Common.{◌≡◌, ◌++◌, drop, flat_map}
use Rattle.jn_records.proofs.list.put_list.Given as goal

-- what is put and what is still to be put are all
abbrev pub invariant-loop-field : goal.invariant-loop-field
invariant-loop-field g l = l.page ++ flat_map g.F.Field.spelled (drop l.field-index l.list) ≡ l.fn.page ++ flat_map g.F.Field.spelled l.list
