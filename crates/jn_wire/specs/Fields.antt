-- The fields of a frame, read from left to right: what a field says and the bytes behind it, or the number of its fault.
use Rattle.std.specs.Prelude.{ℕ, zero, suc, Bool, true, ◌&&◌, nat_eq, nat_lt, nat_le, if◌then◌else◌, List, [], ◌∷◌, ◌≡◌, ⊤, Option, Some, None, Result, Ok, Err}
use Rattle.jn_base.specs.Limits.{most_blocks}
use Rattle.jn_base.specs.declared.names.ClientNo.{ClientNo}
use Rattle.jn_base.specs.declared.names.FileNo.{FileNo}
use Rattle.jn_base.specs.declared.names.BlockNo.{BlockNo}
use Rattle.jn_base.specs.declared.names.Tid.{Tid}
use Rattle.jn_base.specs.declared.names.WorkId.{WorkId}
use Rattle.jn_base.specs.declared.names.RequestNo.{RequestNo}
use Rattle.jn_base.specs.declared.names.OperationNo.{OperationNo}
use Rattle.jn_base.specs.declared.names.LockUnit.{LockUnit}
use Rattle.jn_base.specs.declared.names.Resource.{Resource}
use Rattle.jn_base.specs.declared.names.Resource.TheVariants as resources
use Rattle.jn_fields.specs.Reading.{number_at, bytes_at}
use Rattle.jn_fields.specs.Names.{tid_at, work_at, unit_at, unit_in_range}
use Rattle.jn_wire.specs.declared.fields.ReadFault.{ReadFault}
use Rattle.jn_wire.specs.declared.fields.ReadFault.TheVariants as faults

pub data Reading (A : Type 0) : Type 0 where
  Got : A → List ℕ → Reading A
  Wrong : ℕ → Reading A

-- then the next field is read from the bytes behind
abbrev pub and_then : {A B : Type 0} → Reading A → (A → List ℕ → Reading B) → Reading B
and_then (Got a rest) next = next a rest
and_then (Wrong n) next = Wrong n

-- What a function returned, seen by view, is what reading gives. Want of memory says nothing.
abbrev pub Gives : {X A : Type 0} → (X → A × List ℕ) → Result X ReadFault → Reading A → Type 0
Gives view (Ok x) read = read ≡ Got (view x).0 (view x).1
Gives view (Err (faults.Wrong n)) read = read ≡ Wrong n
Gives view (Err faults.Memory) read = ⊤

-- ---- the numbers of faults

-- too few bytes, or too many
abbrev pub wrong_length : ℕ
wrong_length = 2

abbrev pub wrong_party : ℕ
wrong_party = 3

abbrev pub wrong_kind : ℕ
wrong_kind = 4

abbrev pub out_of_range : ℕ
out_of_range = 5

-- ---- plain fields

unfoldable pub byte : List ℕ → Reading ℕ
byte [] = Wrong wrong_length
byte (b ∷ bytes) = Got b bytes

-- what was read, where it passes the test of its range
abbrev pub in_range : {A : Type 0} → (A → Bool) → Option (A × List ℕ) → Reading A
in_range test None = Wrong wrong_length
in_range test (Some x) = if test x.0 then Got x.0 x.1 else Wrong out_of_range

-- a number of so many bytes, the highest first
unfoldable pub number : ℕ → List ℕ → Reading ℕ
number n bytes = in_range (λ k. true) (number_at n bytes)

-- the 448 bytes of a block
unfoldable pub content : List ℕ → Reading (List ℕ)
content bytes = in_range (λ b. true) (bytes_at 448 bytes)

-- ---- what is named

-- 1 to 8
unfoldable pub client : List ℕ → Reading ClientNo
client bytes = and_then (byte bytes) (λ n rest. if nat_le 1 n && nat_le n 8 then Got (record { 0 = n }) rest else Wrong out_of_range)

-- a client's messages name their sender
unfoldable pub sender : ClientNo → List ℕ → Reading ClientNo
sender c bytes = and_then (client bytes) (λ d rest. if nat_eq d.0 c.0 then Got d rest else Wrong out_of_range)

unfoldable pub request : List ℕ → Reading RequestNo
request bytes = and_then (number 4 bytes) (λ n rest. Got (record { 0 = n }) rest)

unfoldable pub operation : List ℕ → Reading OperationNo
operation bytes = and_then (number 4 bytes) (λ n rest. Got (record { 0 = n }) rest)

-- a name is one field of 9 bytes, whose first one is a server
unfoldable pub tid : List ℕ → Reading Tid
tid bytes = in_range (λ t. nat_le t.server.0 7) (tid_at bytes)

unfoldable pub work : List ℕ → Reading WorkId
work bytes = in_range (λ w. nat_le w.server.0 7) (work_at bytes)

-- so many names
unfoldable pub works_from : ℕ → List ℕ → Reading (List WorkId)
works_from zero bytes = Got [] bytes
works_from (suc n) bytes = and_then (work bytes) (λ w rest. and_then (works_from n rest) (λ ws rest. Got (w ∷ ws) rest))

-- at most 8, behind their count
unfoldable pub works : List ℕ → Reading (List WorkId)
works bytes = and_then (byte bytes) (λ n rest. if nat_le n 8 then works_from n rest else Wrong out_of_range)

unfoldable pub file : List ℕ → Reading FileNo
file bytes = and_then (number 4 bytes) (λ n rest. Got (record { 0 = n }) rest)

unfoldable pub block : List ℕ → Reading BlockNo
block bytes = and_then (number 2 bytes) (λ p rest. if nat_lt p most_blocks then Got (record { 0 = p }) rest else Wrong out_of_range)

unfoldable pub unit : List ℕ → Reading LockUnit
unit bytes = in_range unit_in_range (unit_at bytes)

abbrev pub resource_of : ℕ → List ℕ → Reading Resource
resource_of n rest = if nat_eq n 31 then Got resources.Records rest
    else (if nat_eq n 32 then Got resources.Pages rest
    else (if nat_eq n 33 then Got resources.Heads rest
    else Wrong out_of_range))

unfoldable pub resource : List ℕ → Reading Resource
resource bytes = and_then (byte bytes) resource_of
