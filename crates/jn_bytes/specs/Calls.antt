-- Calls on the bytes of a file: what the files answer them, and what they do to the files.
use Rattle.std.specs.Prelude.{ℕ, ◌+◌, ◌*◌, ◌-◌, Bool, ◌&&◌, nat_eq, nat_lt, List, length, take, drop, Option, Some, None, is_some, if◌then◌else◌}
use Rattle.jn_base.specs.declared.names.FileNo.{FileNo}
use Rattle.jn_base.specs.declared.names.LockUnit.TheVariants.{File, Block}
use Rattle.jn_base.specs.declared.op.Answer.TheVariants.{NoFile}
use Rattle.jn_base.specs.Names.{file_eq}
use Rattle.jn_order.specs.Files.{Files, Change, change}
use Rattle.jn_base.specs.declared.call.ByteCommand.{ByteCommand}
use Rattle.jn_base.specs.declared.call.ByteCommand.TheVariants.{ReadBytes, WriteBytes}
use Rattle.jn_bytes.specs.declared.next.Next.{Next}
use Rattle.jn_bytes.specs.declared.next.Next.TheVariants.{Done, Did, Refused}
use Rattle.jn_bytes.specs.declared.next.ByteRefusal.TheVariants.{Operation, NotBytes, PastEnd}
use Rattle.jn_base.specs.Limits.{block_size}
use Rattle.jn_bytes.specs.ByteFiles.{length_block, block_in, bytes_of, laid_over}

abbrev pub file_of_call : ByteCommand → FileNo
file_of_call (ReadBytes f offset count) = f
file_of_call (WriteBytes f offset bytes) = f

-- the reply of a file that is there and has these bytes, if it is one of bytes
abbrev pub reply_of : ByteCommand → Option (List ℕ) → Next
reply_of call None = Refused NotBytes
reply_of (ReadBytes f offset count) (Some all) = Done (take count (drop offset all))
reply_of (WriteBytes f offset bytes) (Some all) = if nat_lt (length all) offset then Refused (PastEnd (length all)) else Did

-- how a call ends that nothing hinders
abbrev pub reply_to : ByteCommand → Files → Next
reply_to call files = if is_some (files (File (file_of_call call))) then reply_of call (bytes_of files (file_of_call call)) else Refused (Operation NoFile)

-- some of n bytes from place `offset` on stand in block p
abbrev pub is_touched : ℕ → ℕ → ℕ → Bool
is_touched offset n p = nat_lt 0 n && nat_lt (block_size * (p - 1)) (offset + n) && nat_lt offset (block_size * p)

-- what a write that is done makes of block p of a file that had n bytes: block 0 changes where there are more of them then
abbrev pub block_change : Files → FileNo → ℕ → List ℕ → ℕ → ℕ → Option (Option (List ℕ))
block_change files f offset bytes n p =
    if nat_eq p 0 then (if nat_lt n (offset + length bytes) then Some (Some (length_block (offset + length bytes))) else None)
    else (if is_touched offset (length bytes) p then Some (Some (laid_over offset bytes (block_size * (p - 1)) (block_in files f p))) else None)

-- and of every register
abbrev pub bytes_written : Files → FileNo → ℕ → List ℕ → ℕ → Change
bytes_written files f offset bytes n (File g) = None
bytes_written files f offset bytes n (Block g p) = if file_eq f g then block_change files f offset bytes n p.0 else None

-- the files after a call with this reply
abbrev pub files_left : ByteCommand → Files → Option (List ℕ) → Next → Files
files_left (WriteBytes f offset bytes) files (Some all) Did = change (bytes_written files f offset bytes (length all)) files
files_left call files had reply = files

-- only a write that is done changes files
abbrev pub files_after_call : ByteCommand → Files → Files
files_after_call call files = files_left call files (bytes_of files (file_of_call call)) (reply_to call files)
