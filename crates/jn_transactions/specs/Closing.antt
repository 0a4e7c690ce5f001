-- The transactions of a client that goes on to another one.
use Rattle.std.specs.Prelude.{ℕ, Bool, true, ◌+◌, ◌&&◌, if◌then◌else◌, List, [], ◌∷◌, Option, Some, None}
use Rattle.jn_base.specs.declared.names.ClientNo.{ClientNo}
use Rattle.jn_base.specs.declared.names.Tid.{Tid}
use Rattle.jn_base.specs.Names.{client_eq}
use Rattle.jn_rows.specs.declared.coordinator.Transaction.{Transaction}
use Rattle.jn_rows.specs.declared.coordinator.Stage.{Stage}
use Rattle.jn_rows.specs.declared.coordinator.Stage.TheVariants.{Committed}
use Rattle.jn_transactions.specs.Stages.{is_decided, goes}

-- One client goes on, which drops what is undecided; or, with none named, every client knows its outcomes.
abbrev pub takes_part : Option ClientNo → Transaction → Bool
takes_part (Some c) x = client_eq x.client c && goes x.stage
takes_part None x = is_decided x.stage && goes x.stage

-- the first transaction that goes
abbrev pub next_closing : Option ClientNo → List Transaction → Option Transaction
next_closing who [] = None
next_closing who (x ∷ xs) = if takes_part who x then Some x else next_closing who xs

abbrev pub tid_in : Option Transaction → Option Tid
tid_in None = None
tid_in (Some x) = Some x.tid

-- how many are left once a client's transactions are closed
abbrev pub left_of : ClientNo → Transaction → ℕ
left_of c x = if client_eq x.client c && goes x.stage then 0 else 1

abbrev pub count_left : ClientNo → List Transaction → ℕ
count_left c [] = 0
count_left c (x ∷ xs) = left_of c x + count_left c xs

-- ---- what is left

abbrev pub known_stage : Stage → Stage
known_stage (Committed d) = Committed (record d { thanked = true })
known_stage stage = stage

abbrev pub is_of : Option ClientNo → ClientNo → Bool
is_of (Some c) d = client_eq d c
is_of None d = true

-- its client knows of it, where it is one that does
abbrev pub known : Option ClientNo → Transaction → Transaction
known who x = if is_of who x.client then record x { stage = known_stage x.stage } else x

abbrev pub knowing : Option ClientNo → List Transaction → List Transaction
knowing who [] = []
knowing who (x ∷ xs) = known who x ∷ knowing who xs
