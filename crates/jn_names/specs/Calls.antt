-- What the files answer a call on a directory, and which files it leaves.
use Rattle.std.specs.Prelude.{◌≡◌, ⊤, ℕ, zero, suc, ◌+◌, ◌++◌, Bool, true, List, [], ◌∷◌, Option, Some, None, is_some, option_map, option_and_then, Result, Ok, Err, if◌then◌else◌}
use Rattle.std.specs.Ordering.{nat_cmp, ordering_then, is_lt}
use Rattle.std.specs.declared.cmp.Ordering.{Ordering}
use Rattle.std.specs.Cmp.Lexicographic.{slice_cmp}
use Rattle.jn_base.specs.declared.names.FileNo.{FileNo}
use Rattle.jn_base.specs.declared.names.LockUnit.TheVariants.{File, Block}
use Rattle.jn_base.specs.declared.op.Answer.TheVariants.{NoFile}
use Rattle.jn_base.specs.Names.{is_name}
use Rattle.jn_order.specs.Files.{Files, change, written, or_else, zeros}
use Rattle.jn_names.specs.declared.entry.Entry.{Entry}
use Rattle.jn_base.specs.declared.call.NameCommand.{NameCommand}
use Rattle.jn_base.specs.declared.call.NameCommand.TheVariants as calls
use Rattle.jn_names.specs.declared.next.NameNext.{NameNext}
use Rattle.jn_names.specs.declared.next.NameNext.TheVariants.{Did, Found, Names, Refused}
use Rattle.jn_names.specs.declared.next.NameRefusal.{NameRefusal}
use Rattle.jn_names.specs.declared.next.NameRefusal.TheVariants.{Operation, BucketFull, NoName, NotDirectory}
use Rattle.jn_names.specs.Names.{buckets, bucket_of}
use Rattle.jn_names.specs.Buckets.{Slot, bucket_in, bucket_bytes, find_in, bound_in, unbound_in}

abbrev pub directory_of : NameCommand → FileNo
directory_of (calls.Bind d name file) = d
directory_of (calls.Unbind d name) = d
directory_of (calls.Find d name) = d
directory_of (calls.Names d) = d

abbrev pub name_of : NameCommand → List ℕ
name_of (calls.Bind d name file) = name
name_of (calls.Unbind d name) = name
name_of (calls.Find d name) = name
name_of (calls.Names d) = []

-- the name of a call is one
abbrev pub Named : NameCommand → Type 0
Named (calls.Bind d name file) = is_name name ≡ true
Named (calls.Unbind d name) = is_name name ≡ true
Named (calls.Find d name) = is_name name ≡ true
Named (calls.Names d) = ⊤

-- bucket k of a directory: a block that is not stored is all zeros
abbrev pub bucket_at : Files → FileNo → ℕ → Option (List Slot)
bucket_at files d k = bucket_in k (or_else (files (Block d (record { 0 = k }))) zeros)

-- ---- a call on the bucket of its name

abbrev pub found : Option FileNo → NameNext
found None = Refused NoName
found (Some file) = Found file.0

abbrev pub or_refused : NameRefusal → Option (List Slot) → Result (List Slot) NameNext
or_refused refusal None = Err (Refused refusal)
or_refused refusal (Some slots) = Ok slots

-- what is made of a bucket: the bucket that is to be written, or a reply at once
abbrev pub made_of : NameCommand → List Slot → Result (List Slot) NameNext
made_of (calls.Bind d name file) slots = or_refused BucketFull (bound_in name file slots)
made_of (calls.Unbind d name) slots = or_refused NoName (unbound_in name slots)
made_of (calls.Find d name) slots = Err (found (find_in name slots))
made_of (calls.Names d) slots = Err Did

abbrev pub made_at : NameCommand → Option (List Slot) → Result (List Slot) NameNext
made_at command None = Err (Refused NotDirectory)
made_at command (Some slots) = made_of command slots

-- ---- all names

abbrev pub entries_of : List Slot → List Entry
entries_of [] = []
entries_of (None ∷ slots) = entries_of slots
entries_of (Some e ∷ slots) = e ∷ entries_of slots

-- the entries of so many buckets from this one on, where each is of the format
abbrev pub entries_from : Files → FileNo → ℕ → ℕ → Option (List Entry)
entries_from files d k zero = Some []
entries_from files d k (suc n) = option_and_then (λ slots. option_map (λ es. entries_of slots ++ es) (entries_from files d (k + 1) n)) (bucket_at files d k)

-- by their names' bytes
abbrev pub entry_cmp : Entry → Entry → Ordering
entry_cmp a b = ordering_then (slice_cmp nat_cmp a.name b.name) (nat_cmp a.file.0 b.file.0)

abbrev pub with_entry : Entry → List Entry → List Entry
with_entry e [] = e ∷ []
with_entry e (x ∷ xs) = if is_lt (entry_cmp x e) then x ∷ with_entry e xs else e ∷ x ∷ xs

abbrev pub ascending : List Entry → List Entry
ascending [] = []
ascending (e ∷ es) = with_entry e (ascending es)

abbrev pub listed : Option (List Entry) → NameNext
listed None = Refused NotDirectory
listed (Some es) = Names (ascending es)

-- ---- a call on files

abbrev pub replied : Result (List Slot) NameNext → NameNext
replied (Ok slots) = Did
replied (Err reply) = reply

abbrev pub reply_at : NameCommand → Files → NameNext
reply_at (calls.Names d) files = listed (entries_from files d 0 buckets)
reply_at command files = replied (made_at command (bucket_at files (directory_of command) (bucket_of (name_of command))))

abbrev pub reply_to : NameCommand → Files → NameNext
reply_to command files = if is_some (files (File (directory_of command))) then reply_at command files else Refused (Operation NoFile)

abbrev pub with_bucket : FileNo → ℕ → Result (List Slot) NameNext → Files → Files
with_bucket d k (Ok slots) files = change (written d (record { 0 = k }) (bucket_bytes slots)) files
with_bucket d k (Err reply) files = files

abbrev pub files_after_call : NameCommand → Files → Files
files_after_call command files =
    if is_some (files (File (directory_of command)))
    then with_bucket (directory_of command) (bucket_of (name_of command)) (made_at command (bucket_at files (directory_of command) (bucket_of (name_of command)))) files
    else files
