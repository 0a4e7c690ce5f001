use Rattle.jn_files.proofs.Common.{◌≡◌, length, drop, named_all}
use Rattle.jn_files.proofs.named.name_row.Given as goal

abbrev pub invariant-loop-k : goal.invariant-loop-k
invariant-loop-k l = record {
  long : length l.named.items ≡ length l.fn.named.items;
  rest : named_all (drop l.k l.row) l.named.items ≡ named_all l.row l.fn.named.items;
}
