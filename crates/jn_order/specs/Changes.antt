-- Changes one after another, and what a list of operations makes of files.
use Rattle.std.specs.Prelude.{Bool, true, ◌&&◌, List, [], ◌∷◌, Option, Some, None}
use Rattle.jn_base.specs.declared.op.Op.{Op}
use Rattle.jn_order.specs.Files.{Files, Change, answer_to, is_did, files_after}

abbrev pub or_also : {A : Type 0} → Option A → Option A → Option A
or_also (Some x) y = Some x
or_also None y = y

-- first a, then b: where both change a register, the later one stands
abbrev pub and_then : Change → Change → Change
and_then a b u = or_also (b u) (a u)

-- the files after operations, the first one first
abbrev pub files_then : List Op → Files → Files
files_then [] files = files
files_then (op ∷ ops) files = files_then ops (files_after op files)

-- each of the operations is answered `Did` in its turn
abbrev pub all_did : List Op → Files → Bool
all_did [] files = true
all_did (op ∷ ops) files = is_did (answer_to op files) && all_did ops (files_after op files)
