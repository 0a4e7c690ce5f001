-- What a call does whose row is known.
use Rattle.std.specs.Prelude.{◌≡◌, Bool, true, ◌++◌}
use Rattle.jn_base.specs.declared.names.Tickets.{Tickets}
use Rattle.jn_msgs.specs.Collected.{Collected}
use Rattle.jn_rows.specs.Stable.{StableState, ChangedAll, Pick}
use Rattle.jn_rows.specs.Outcomes.{RowOutcome}

-- A call whose row this is, from the messages and notes of its step before it to those after it. One that is stopped has
-- made some of the changes, from the first one on, and its step sends and reports nothing.
pub record Performs {Table : Type 0} (row : RowOutcome Table) (x : StableState) (before : Collected) (ok : Bool) (table : Table) (found : Pick → StableState) (after : Collected) (tickets : Tickets) : Type 0 where
  pub changes : ChangedAll x row.changes ok found
  pub becomes : ok ≡ true → table ≡ row.table
  pub sent : ok ≡ true → after.messages ≡ before.messages ++ row.messages
  pub noted : ok ≡ true → after.notes ≡ before.notes ++ row.notes
  pub drawn : ok ≡ true → tickets ≡ row.tickets
