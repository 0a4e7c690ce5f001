-- What a lock table is to its users.
use Rattle.jn_locks.specs.declared.table.LockTable.{LockTable}
use Rattle.jn_locks.specs.Locks.{Table}
use Rattle.jn_locks.specs.Tables.{table_of}

abbrev pub table : LockTable → Table
table t = table_of t.held
