-- Lists of intentions: what carrying them out changes, and net lists, which have of each file a first
-- intention and at most one put of each block.
use Rattle.std.specs.Prelude.{◌≡◌, ◌+◌, ℕ, zero, suc, Bool, true, false, not, nat_eq, nat_lt, nat_le, ◌&&◌, ◌||◌, if◌then◌else◌, List, [], ◌∷◌, count_by, Option, Some, None, is_some}
use Rattle.jn_base.specs.declared.names.FileNo.{FileNo}
use Rattle.jn_base.specs.declared.names.BlockNo.{BlockNo}
use Rattle.jn_base.specs.declared.names.LockUnit.TheVariants.{File, Block}
use Rattle.jn_base.specs.declared.op.Op.{Op}
use Rattle.jn_base.specs.declared.op.Op.TheVariants.{Create, Remove, Cut as CutBlocks, Read, Write}
use Rattle.jn_base.specs.Names.{file_eq, block_eq}
use Rattle.jn_base.specs.declared.op.Answer.{Answer}
use Rattle.jn_base.specs.declared.op.Answer.TheVariants.{Read as Found}
use Rattle.jn_order.specs.Files.{Files, Change, change, nothing, created, removed, cut_from, written, there, zeros, or_else, file_of}
use Rattle.jn_order.specs.Changes.{and_then}
use Rattle.jn_records.specs.declared.intention.What.{What}
use Rattle.jn_records.specs.declared.intention.What.TheVariants.{Fresh, Gone, Cut, Put}
use Rattle.jn_records.specs.declared.intention.Intention.{Intention}
use Rattle.jn_records.specs.declared.net_list.Seen.{Seen}
use Rattle.jn_records.specs.declared.net_list.Seen.TheVariants.{Put as PutBytes, Zeros, Stored}
use Rattle.jn_base.specs.Ops.{block_of}

-- ---- carrying out

abbrev pub change_by : What → FileNo → BlockNo → List ℕ → Change
change_by Fresh f p bytes = created f
change_by Gone f p bytes = removed f
change_by Cut f p bytes = cut_from f p
change_by Put f p bytes = written f p bytes

abbrev pub intention_change : Intention → Change
intention_change i = change_by i.what i.file i.block i.bytes

-- a change at these blocks alone
abbrev pub among : (BlockNo → Bool) → Change → Change
among gone c (File f) = None
among gone c (Block f p) = if gone p then c (Block f p) else None

-- what a list changes, the first intention first
abbrev pub list_change : List Intention → Change
list_change [] = nothing
list_change (i ∷ list) = and_then (intention_change i) (list_change list)

-- the files after the intentions, the first one first
abbrev pub carried_out : List Intention → Files → Files
carried_out [] files = files
carried_out (i ∷ list) files = carried_out list (change (intention_change i) files)

-- a cut or a put needs its file
abbrev pub finds_file : What → Option (List ℕ) → Bool
finds_file Fresh file = true
finds_file Gone file = true
finds_file Cut file = is_some file
finds_file Put file = is_some file

-- each cut and each put finds its file there in its turn
abbrev pub files_there : List Intention → Files → Bool
files_there [] files = true
files_there (i ∷ list) files = finds_file i.what (files (File i.file)) && files_there list (change (intention_change i) files)

abbrev pub FilesThere : List Intention → Files → Type 0
FilesThere list files = files_there list files ≡ true

-- whether a list does anything to a file
abbrev pub names_file : List Intention → FileNo → Bool
names_file [] f = false
names_file (i ∷ list) f = file_eq i.file f || names_file list f

-- ---- the order of a net list

abbrev pub is_put : What → Bool
is_put Put = true
is_put _ = false

-- the first intention of a file stands before its puts, and these by block
abbrev pub place_by : What → BlockNo → ℕ
place_by Put p = suc p.0
place_by _ p = zero

abbrev pub intention_place : Intention → ℕ
intention_place i = place_by i.what i.block

abbrev pub stands_before : Intention → Intention → Bool
stands_before a b = nat_lt a.file.0 b.file.0 || (nat_eq a.file.0 b.file.0 && nat_lt (intention_place a) (intention_place b))

abbrev pub comes_behind : Option Intention → Intention → Bool
comes_behind None i = true
comes_behind (Some last) i = stands_before last i

-- by file and place, each place of a file once, behind a last one if there is one
abbrev pub in_order : Option Intention → List Intention → Bool
in_order last [] = true
in_order last (i ∷ list) = comes_behind last i && in_order (Some i) list

-- block 0 and zeros where an intention needs no block and no bytes
abbrev pub Plain : What → BlockNo → List ℕ → Type 0
Plain Fresh p bytes = (p.0 ≡ 0) × (bytes ≡ zeros)
Plain Gone p bytes = (p.0 ≡ 0) × (bytes ≡ zeros)
Plain Cut p bytes = bytes ≡ zeros
Plain Put p bytes = Unit {0}

abbrev pub AllPlain : List Intention → Type 0
AllPlain [] = Unit {0}
AllPlain (i ∷ list) = Plain i.what i.block i.bytes × AllPlain list

pub record InOrder (list : List Intention) : Type 0 where
  pub order : in_order None list ≡ true
  pub plain : AllPlain list

-- each block that is named is below n
abbrev pub blocks_below : ℕ → List Intention → Bool
blocks_below n [] = true
blocks_below n (i ∷ list) = nat_lt i.block.0 n && blocks_below n list

-- ---- what a net list has of each file

pub data First : Type 0 where
  Kept : First
  MadeFresh : First
  TakenAway : First
  CutFrom : BlockNo → First

pub record FileNet : Type 0 where
  pub first : First
  pub puts : BlockNo → Option (List ℕ)

abbrev pub Net : Type 0
Net = FileNo → FileNet

-- the intention of a file at a place
abbrev pub entry : List Intention → FileNo → ℕ → Option Intention
entry [] f k = None
entry (i ∷ list) f k = if file_eq i.file f && nat_eq (intention_place i) k then Some i else entry list f k

abbrev pub first_by : What → BlockNo → First
first_by Fresh p = MadeFresh
first_by Gone p = TakenAway
first_by Cut p = CutFrom p
first_by Put p = Kept

abbrev pub as_first : Option Intention → First
as_first None = Kept
as_first (Some i) = first_by i.what i.block

abbrev pub as_put : Option Intention → Option (List ℕ)
as_put None = None
as_put (Some i) = Some i.bytes

abbrev pub net_of : List Intention → Net
net_of list f = record { first = as_first (entry list f zero); puts = λ p. as_put (entry list f (suc p.0)) }

-- ---- the table of net lists

abbrev pub no_puts : BlockNo → Option (List ℕ)
no_puts p = None

abbrev pub puts_below : BlockNo → (BlockNo → Option (List ℕ)) → BlockNo → Option (List ℕ)
puts_below n puts p = if nat_le n.0 p.0 then None else puts p

abbrev pub put_at : (BlockNo → Option (List ℕ)) → BlockNo → List ℕ → BlockNo → Option (List ℕ)
put_at puts p bytes q = if block_eq p q then Some bytes else puts q

-- a fresh or removed file stays so, and of two cuts the one at the lesser block tells
abbrev pub cut_first : First → BlockNo → First
cut_first Kept n = CutFrom n
cut_first MadeFresh n = MadeFresh
cut_first TakenAway n = TakenAway
cut_first (CutFrom m) n = if nat_le m.0 n.0 then CutFrom m else CutFrom n

-- the file with one more operation
abbrev pub file_added : FileNet → Op → FileNet
file_added net (Create f) = record { first = MadeFresh; puts = no_puts }
file_added net (Remove f) = record { first = TakenAway; puts = no_puts }
file_added net (CutBlocks f n) = record { first = cut_first net.first n; puts = puts_below n net.puts }
file_added net (Read f p) = net
file_added net (Write f p bytes) = record { first = net.first; puts = put_at net.puts p bytes }

-- the net list with one more operation
abbrev pub added : Net → Op → Net
added net op f = if file_eq (file_of op) f then file_added (net f) op else net f

abbrev pub no_net : Net
no_net f = record { first = Kept; puts = no_puts }

-- the net list of operations, the first one first
abbrev pub added_all : Net → List Op → Net
added_all net [] = net
added_all net (op ∷ ops) = added_all (added net op) ops

-- ---- what a net list changes

abbrev pub first_file : First → Option (Option (List ℕ))
first_file Kept = None
first_file MadeFresh = Some (Some there)
first_file TakenAway = Some None
first_file (CutFrom n) = None

abbrev pub first_block : First → BlockNo → Option (Option (List ℕ))
first_block Kept p = None
first_block MadeFresh p = Some None
first_block TakenAway p = Some None
first_block (CutFrom n) p = if nat_le n.0 p.0 then Some None else None

abbrev pub put_or : Option (List ℕ) → Option (Option (List ℕ)) → Option (Option (List ℕ))
put_or (Some bytes) x = Some (Some bytes)
put_or None x = x

abbrev pub net_change : Net → Change
net_change net (File f) = first_file (net f).first
net_change net (Block f p) = put_or ((net f).puts p) (first_block (net f).first p)

-- ---- how long it is, and what is seen through it

-- whether an operation neither drops nor replaces what a file has at a place
abbrev pub stays_at : Op → FileNo → ℕ → Bool
stays_at (Create f) g k = not (file_eq f g)
stays_at (Remove f) g k = not (file_eq f g)
stays_at (CutBlocks f n) g k = not (file_eq f g && (nat_eq k zero || nat_lt n.0 k))
stays_at (Read f p) g k = true
stays_at (Write f p bytes) g k = not (file_eq f g && nat_eq k (suc p.0))

abbrev pub stays : Op → Intention → Bool
stays op i = stays_at op i.file (intention_place i)

-- how many intentions an operation adds
abbrev pub adds : Op → ℕ
adds (Read f p) = 0
adds _ = 1

abbrev pub length_with : List Intention → Op → ℕ
length_with list op = count_by (λ i. stays op i) list + adds op

-- a block, where it is stored as given
abbrev pub seen_block : Seen → Option (List ℕ) → Option (List ℕ)
seen_block (PutBytes bytes) stored = Some bytes
seen_block Zeros stored = None
seen_block Stored stored = stored

-- an answer that is known, or that of the stored block
abbrev pub answered : Option Answer → Op → Files → Answer
answered (Some answer) op files = answer
answered None op files = Found (or_else (files (Block (file_of op) (block_of op))) zeros)

-- ---- what preparing a list needs

abbrev pub is_put_intention : Intention → Bool
is_put_intention i = is_put i.what

abbrev pub is_fresh : What → Bool
is_fresh Fresh = true
is_fresh _ = false

-- a fresh file that isn't there
abbrev pub needs_a_head : Bool → Intention → Bool
needs_a_head there i = is_fresh i.what && not there

-- a head for each such file
abbrev pub heads_of : List Intention → (FileNo → Bool) → ℕ
heads_of list there = count_by (λ i. needs_a_head (there i.file) i) list
