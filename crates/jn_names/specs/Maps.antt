-- A directory as a map from names to files.
use Rattle.std.specs.Prelude.{◌≡◌, ◌<◌, ◌^◌, ⊤, ℕ, true, List, [], ◌∷◌, length, map, bytes_eq, Option, Some, None, is_some, option_map, ◌⊎◌, if◌then◌else◌}
use Rattle.std.specs.Ordering.{nat_cmp}
use Rattle.std.specs.Cmp.Lexicographic.{slice_cmp}
use Rattle.std.specs.List.Sorted.{IsStrictlySortedBy}
use Rattle.jn_base.specs.declared.names.FileNo.{FileNo}
use Rattle.jn_base.specs.declared.names.LockUnit.TheVariants.{File}
use Rattle.jn_order.specs.Files.{Files}
use Rattle.jn_names.specs.declared.entry.Entry.{Entry}
use Rattle.jn_base.specs.declared.call.NameCommand.{NameCommand}
use Rattle.jn_base.specs.declared.call.NameCommand.TheVariants as calls
use Rattle.jn_names.specs.declared.next.NameNext.{NameNext}
use Rattle.jn_names.specs.declared.next.NameNext.TheVariants.{Did, Names, Refused}
use Rattle.jn_names.specs.declared.next.NameRefusal.TheVariants.{BucketFull, NoName}
use Rattle.jn_base.specs.Names.{is_name}
use Rattle.jn_names.specs.Names.{buckets, bucket_of}
use Rattle.jn_names.specs.Buckets.{Slot}
use Rattle.jn_names.specs.Calls.{entries_of, entries_from, found}

-- the file of each name
abbrev pub NameMap : Type 0
NameMap = List ℕ → Option FileNo

abbrev pub file_in : List Entry → NameMap
file_in [] name = None
file_in (e ∷ es) name = if bytes_eq e.name name then Some e.file else file_in es name

-- the map of all entries, where the file is there and all buckets are of the format
abbrev pub names_of : Files → FileNo → Option NameMap
names_of files d = if is_some (files (File d)) then option_map file_in (entries_from files d 0 buckets) else None

abbrev pub bound : List ℕ → FileNo → NameMap → NameMap
bound name file names other = if bytes_eq name other then Some file else names other

abbrev pub unbound : List ℕ → NameMap → NameMap
unbound name names other = if bytes_eq name other then None else names other

-- all that the map has, the names ascending by their bytes
pub record Lists (es : List Entry) (names : NameMap) : Type 0 where
  pub ascend : IsStrictlySortedBy (slice_cmp nat_cmp) (map (λ (e : Entry). e.name) es)
  pub all : (name : List ℕ) → file_in es name ≡ names name

abbrev pub gone : Option FileNo → NameNext
gone None = Refused NoName
gone (Some file) = Did

-- what a map answers, and which it is then; a bind may also find no room, which changes nothing
abbrev pub IsOfMap : NameCommand → NameMap → NameNext → NameMap → Type 0
IsOfMap (calls.Bind d name file) names reply now = ((reply ≡ Did) × (now ≡ bound name file names)) ⊎ ((reply ≡ Refused BucketFull) × (now ≡ names))
IsOfMap (calls.Unbind d name) names reply now = (reply ≡ gone (names name)) × (now ≡ unbound name names)
IsOfMap (calls.Find d name) names reply now = (reply ≡ found (names name)) × (now ≡ names)
IsOfMap (calls.Names d) names reply now = (es : List Entry) × (reply ≡ Names es) × Lists es names × (now ≡ names)

-- a name is one, and a file's number has 32 bits
abbrev pub Fits : NameCommand → Type 0
Fits (calls.Bind d name file) = (is_name name ≡ true) × (file.0 < 2 ^ 32)
Fits (calls.Unbind d name) = is_name name ≡ true
Fits (calls.Find d name) = is_name name ≡ true
Fits (calls.Names d) = ⊤

-- a bucket has no free place
abbrev pub IsFull : Option (List Slot) → Type 0
IsFull None = ⊥
IsFull (Some slots) = length (entries_of slots) ≡ 6
