-- Whether two names are the same, which bytes are a name in a directory, the request and the operation of a number, the numbers of refusals, the words of
-- faults, and which of these stop a server.
use Rattle.std.specs.Prelude.{ℕ, Bool, true, false, nat_eq, nat_le, ◌&&◌, ◌||◌, List, length, codes}
use Rattle.std.specs.List.{list_all}
use Rattle.jn_base.specs.declared.names.ServerNo.{ServerNo}
use Rattle.jn_base.specs.declared.names.ClientNo.{ClientNo}
use Rattle.jn_base.specs.declared.names.FileNo.{FileNo}
use Rattle.jn_base.specs.declared.names.BlockNo.{BlockNo}
use Rattle.jn_base.specs.declared.names.LockUnit.{LockUnit}
use Rattle.jn_base.specs.declared.names.LockUnit.TheVariants.{File, Block}
use Rattle.jn_base.specs.declared.names.Tid.{Tid}
use Rattle.jn_base.specs.declared.names.WorkId.{WorkId}
use Rattle.jn_base.specs.declared.names.OperationNo.{OperationNo}
use Rattle.jn_base.specs.declared.names.RequestNo.{RequestNo}
use Rattle.jn_base.specs.declared.names.Resource.{Resource}
use Rattle.jn_base.specs.declared.names.Resource.TheVariants.{Records, Pages, Heads}
use Rattle.jn_base.specs.declared.device.FaultKind.{FaultKind}
use Rattle.jn_base.specs.declared.device.FaultKind.TheVariants as faults

abbrev pub server_eq : ServerNo → ServerNo → Bool
server_eq a b = nat_eq a.0 b.0

abbrev pub client_eq : ClientNo → ClientNo → Bool
client_eq a b = nat_eq a.0 b.0

abbrev pub file_eq : FileNo → FileNo → Bool
file_eq a b = nat_eq a.0 b.0

abbrev pub block_eq : BlockNo → BlockNo → Bool
block_eq a b = nat_eq a.0 b.0

abbrev pub unit_eq : LockUnit → LockUnit → Bool
unit_eq (File f) (File g) = file_eq f g
unit_eq (Block f p) (Block g q) = file_eq f g && block_eq p q
unit_eq _ _ = false

abbrev pub request_eq : RequestNo → RequestNo → Bool
request_eq a b = nat_eq a.0 b.0

abbrev pub tid_eq : Tid → Tid → Bool
tid_eq a b = server_eq a.server b.server && (nat_eq a.epoch b.epoch && nat_eq a.ticket b.ticket)

abbrev pub work_eq : WorkId → WorkId → Bool
work_eq a b = server_eq a.server b.server && (nat_eq a.epoch b.epoch && nat_eq a.ticket b.ticket)

-- a to z, 0 to 9, `.`, `_`, `-`
abbrev pub is_letter : ℕ → Bool
is_letter b = nat_le 97 b && nat_le b 122 || (nat_le 48 b && nat_le b 57 || (nat_eq b 46 || (nat_eq b 95 || nat_eq b 45)))

-- a name in a directory: 1 to 64 letters
abbrev pub is_name : List ℕ → Bool
is_name name = nat_le 1 (length name) && nat_le (length name) 64 && list_all is_letter name

abbrev pub request_of : ℕ → RequestNo
request_of n = record { 0 = n }

abbrev pub operation_of : ℕ → OperationNo
operation_of n = record { 0 = n }

-- the refusal for want of something
abbrev pub refusal_number : Resource → ℕ
refusal_number Records = 31
refusal_number Pages = 32
refusal_number Heads = 33

-- a fault that stops a server
abbrev pub is_stop : FaultKind → Bool
is_stop faults.StopBefore = true
is_stop faults.StopTorn = true
is_stop faults.StopAfter = true
is_stop _ = false

-- the word of a fault, in a schedule and in a report
abbrev pub fault_word : FaultKind → List ℕ
fault_word faults.Soft = codes "soft"
fault_word faults.Null = codes "null"
fault_word faults.Bad = codes "bad"
fault_word (faults.Decay p) = codes "decay"
fault_word (faults.Revive p) = codes "revive"
fault_word faults.StopBefore = codes "stop-before"
fault_word faults.StopTorn = codes "stop-torn"
fault_word faults.StopAfter = codes "stop-after"
