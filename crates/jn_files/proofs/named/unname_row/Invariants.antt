use Rattle.jn_files.proofs.Common.{◌≡◌, drop, AreFree, unnamed_all}
use Rattle.jn_files.proofs.named.unname_row.Given as goal

abbrev pub invariant-loop-k : goal.invariant-loop-k
invariant-loop-k l = record {
  kept : AreFree l.held l.named.items l.free;
  rest : unnamed_all (drop l.k l.row) l.named.items ≡ unnamed_all (drop l.from l.row) l.fn.named.items;
  promised : l.free.promised ≡ l.fn.free.promised;
}
