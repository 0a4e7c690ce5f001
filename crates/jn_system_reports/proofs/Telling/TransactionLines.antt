-- What lines tell of a transaction: the operations that they answer, in order, whose it is, and whether it began.
use Rattle.jn_system_reports.proofs.Common.{◌||◌, list_any, ClientNo, Tid, tid_eq, Event, Text, Performed, answered_by, begins_for, owner_after}
use Rattle.std.specs.Prelude.{Bool, false, List, [], ◌∷◌, ◌++◌, Option}
use Rattle.jn_report.specs.declared.line.Text.TheVariants as says

-- what the transaction did by these lines, after which it is this client's, if it is anyone's
abbrev pub ops_in : List Event → Tid → Option ClientNo → List Text → List Performed
ops_in events T owner [] = []
ops_in events T owner (text ∷ texts) = answered_by events owner text ++ ops_in events T (owner_after T owner text) texts

-- whose it is after these lines
abbrev pub owner_in : Tid → Option ClientNo → List Text → Option ClientNo
owner_in T owner [] = owner
owner_in T owner (text ∷ texts) = owner_in T (owner_after T owner text) texts

abbrev pub begins_it : Tid → Text → Bool
begins_it T (says.Begun c event U) = tid_eq T U
begins_it T text = false

-- a client was told that it began
abbrev pub is_begun : Tid → List Text → Bool
is_begun T [] = false
is_begun T (text ∷ texts) = begins_it T text || is_begun T texts

-- this client was told that it began
abbrev pub begun_by : ClientNo → Tid → List Text → Bool
begun_by c T texts = list_any (begins_for c T) texts
