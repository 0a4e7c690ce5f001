-- Files as registers: whether a file is there, and what each of its blocks holds.
use Rattle.std.specs.Prelude.{ℕ, Bool, true, false, nat_le, ◌&&◌, if◌then◌else◌, List, [], Option, Some, None, is_some, replicate}
use Rattle.jn_base.specs.declared.names.FileNo.{FileNo}
use Rattle.jn_base.specs.declared.names.BlockNo.{BlockNo}
use Rattle.jn_base.specs.declared.names.ServerNo.{ServerNo}
use Rattle.jn_base.specs.declared.names.LockUnit.{LockUnit}
use Rattle.jn_base.specs.declared.names.LockUnit.TheVariants.{File, Block}
use Rattle.jn_base.specs.declared.op.Op.{Op}
use Rattle.jn_base.specs.declared.op.Op.TheVariants.{Create, Remove, Cut, Read, Write}
use Rattle.jn_base.specs.declared.op.Answer.{Answer}
use Rattle.jn_base.specs.declared.op.Answer.TheVariants.{Did, Read as Found, NoFile, Exists}
use Rattle.jn_base.specs.Names.{server_eq, file_eq, block_eq}

-- The files of one server: File f has something where the file is there, Block f p where the block is stored.
abbrev pub Files : Type 0
Files = LockUnit → Option (List ℕ)

-- the files of all servers
abbrev pub AllFiles : Type 0
AllFiles = ServerNo → Files

abbrev pub no_files : AllFiles
no_files s u = None

-- what changes at each register, if anything does
abbrev pub Change : Type 0
Change = LockUnit → Option (Option (List ℕ))

abbrev pub or_else : {A : Type 0} → Option A → A → A
or_else (Some x) y = x
or_else None y = y

abbrev pub change : Change → Files → Files
change c files u = or_else (c u) (files u)

-- what the register of a file has where the file is there
abbrev pub there : List ℕ
there = []

-- a block that is not stored
unfoldable pub zeros : List ℕ
zeros = replicate 448 0

abbrev pub nothing : Change
nothing u = None

abbrev pub created : FileNo → Change
created f (File g) = if file_eq f g then Some (Some there) else None
created f (Block g p) = if file_eq f g then Some None else None

abbrev pub removed : FileNo → Change
removed f (File g) = if file_eq f g then Some None else None
removed f (Block g p) = if file_eq f g then Some None else None

abbrev pub cut_from : FileNo → BlockNo → Change
cut_from f n (File g) = None
cut_from f n (Block g p) = if file_eq f g && nat_le n.0 p.0 then Some None else None

abbrev pub written : FileNo → BlockNo → List ℕ → Change
written f p bytes (File g) = None
written f p bytes (Block g q) = if file_eq f g && block_eq p q then Some (Some bytes) else None

-- what an operation changes where it is done
abbrev pub effect : Op → Change
effect (Create f) = created f
effect (Remove f) = removed f
effect (Cut f n) = cut_from f n
effect (Read f p) = nothing
effect (Write f p bytes) = written f p bytes

abbrev pub file_of : Op → FileNo
file_of (Create f) = f
file_of (Remove f) = f
file_of (Cut f n) = f
file_of (Read f p) = f
file_of (Write f p bytes) = f

-- An absent file can be created and nothing else; a block that is not stored reads as zeros.
abbrev pub answer_to : Op → Files → Answer
answer_to (Create f) files = if is_some (files (File f)) then Exists else Did
answer_to (Remove f) files = if is_some (files (File f)) then Did else NoFile
answer_to (Cut f n) files = if is_some (files (File f)) then Did else NoFile
answer_to (Read f p) files = if is_some (files (File f)) then Found (or_else (files (Block f p)) zeros) else NoFile
answer_to (Write f p bytes) files = if is_some (files (File f)) then Did else NoFile

abbrev pub is_did : Answer → Bool
is_did Did = true
is_did _ = false

-- the files after an operation
abbrev pub files_after : Op → Files → Files
files_after op files = if is_did (answer_to op files) then change (effect op) files else files

-- the files of all servers after an operation at one
abbrev pub all_files_after : ServerNo → Op → AllFiles → AllFiles
all_files_after s op files q = if server_eq s q then files_after op (files q) else files q
