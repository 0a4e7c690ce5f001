-- What is seen through a net list, and how an operation edits it: what it drops goes, and what it adds is
-- put in its place.
use Rattle.std.specs.Prelude.{ℕ, zero, suc, nat_le, Bool, true, false, if◌then◌else◌, List, [], ◌∷◌, filter, Option, Some, None}
use Rattle.std.specs.List.{insert}
use Rattle.jn_base.specs.declared.names.FileNo.{FileNo}
use Rattle.jn_base.specs.declared.names.BlockNo.{BlockNo}
use Rattle.jn_base.specs.declared.op.Op.{Op}
use Rattle.jn_base.specs.declared.op.Op.TheVariants.{Create, Remove, Cut as CutBlocks, Read, Write}
use Rattle.jn_order.specs.Files.{zeros}
use Rattle.jn_records.specs.declared.intention.What.{What}
use Rattle.jn_records.specs.declared.intention.What.TheVariants.{Fresh, Gone, Cut, Put}
use Rattle.jn_records.specs.declared.intention.Intention.{Intention}
use Rattle.jn_records.specs.declared.net_list.Seen.{Seen}
use Rattle.jn_records.specs.declared.net_list.Seen.TheVariants.{Put as PutBytes, Zeros, Stored}
use Rattle.jn_records.specs.NetLists.{First, Kept, MadeFresh, TakenAway, CutFrom, as_first, entry, stands_before, stays}

-- whether the file is there, where it is stored or not
abbrev pub there_by : First → Bool → Bool
there_by Kept stored = stored
there_by MadeFresh stored = true
there_by TakenAway stored = false
there_by (CutFrom n) stored = stored

abbrev pub unput_by : First → BlockNo → Seen
unput_by Kept p = Stored
unput_by MadeFresh p = Zeros
unput_by TakenAway p = Zeros
unput_by (CutFrom n) p = if nat_le n.0 p.0 then Zeros else Stored

abbrev pub seen_by : Option (List ℕ) → First → BlockNo → Seen
seen_by (Some bytes) first p = PutBytes bytes
seen_by None first p = unput_by first p

abbrev pub plain : What → FileNo → ℕ → Intention
plain what f p = record { what = what; file = f; block = record { 0 = p }; bytes = zeros }

-- the first intention of a file that is cut
abbrev pub cut_again : First → FileNo → BlockNo → Intention
cut_again Kept f n = plain Cut f n.0
cut_again MadeFresh f n = plain Fresh f 0
cut_again TakenAway f n = plain Gone f 0
cut_again (CutFrom m) f n = plain Cut f (if nat_le m.0 n.0 then m.0 else n.0)

-- what an operation adds
abbrev pub intention_for : List Intention → Op → Option Intention
intention_for list (Create f) = Some (plain Fresh f 0)
intention_for list (Remove f) = Some (plain Gone f 0)
intention_for list (CutBlocks f n) = Some (cut_again (as_first (entry list f zero)) f n)
intention_for list (Read f p) = None
intention_for list (Write f p bytes) = Some (record { what = Put; file = f; block = p; bytes = bytes })

-- how many stand before an intention
abbrev pub front : Intention → List Intention → ℕ
front new [] = zero
front new (i ∷ list) = if stands_before i new then suc (front new list) else zero

abbrev pub in_its_place : Intention → List Intention → List Intention
in_its_place new list = insert list (front new list) new

abbrev pub with_intention : Op → List Intention → Intention → List Intention
with_intention op list new = in_its_place new (filter (λ (i : Intention). stays op i) list)

-- the list with what an operation adds, if it adds anything
abbrev pub list_after : Option Intention → Op → List Intention → List Intention
list_after None op list = list
list_after (Some new) op list = with_intention op list new
