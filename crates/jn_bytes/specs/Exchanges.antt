-- A whole call: its operations with their answers, and what they come to.
use Rattle.std.specs.Prelude.{◌≡◌, ℕ, ◌+◌, ◌++◌, Bool, not, List, [], ◌∷◌, length, take, drop, Some, is_some, true}
use Rattle.jn_base.specs.declared.names.FileNo.{FileNo}
use Rattle.jn_base.specs.declared.names.LockUnit.{LockUnit}
use Rattle.jn_base.specs.declared.names.LockUnit.TheVariants.{File, Block}
use Rattle.jn_base.specs.Names.{file_eq}
use Rattle.jn_order.specs.Files.{Files}
use Rattle.jn_order.specs.Changes.{files_then}
use Rattle.jn_order.specs.Answers.{Answered, ops_of, FilesAnswer}
use Rattle.jn_base.specs.declared.call.ByteCommand.{ByteCommand}
use Rattle.jn_base.specs.declared.call.ByteCommand.TheVariants.{ReadBytes, WriteBytes}
use Rattle.jn_bytes.specs.declared.next.Next.{Next}
use Rattle.jn_bytes.specs.declared.next.Next.TheVariants.{Done, Did}
use Rattle.jn_bytes.specs.declared.stage.Turn.{Turn}
use Rattle.jn_bytes.specs.declared.stage.Turn.TheVariants.{Sends, Over}
use Rattle.jn_bytes.specs.ByteFiles.{bytes_of}
use Rattle.jn_bytes.specs.Calls.{reply_to, files_after_call}
use Rattle.jn_bytes.specs.Turns.{turn, first_turn}
use Rattle.jn_bytes.specs.Ranges.{Fits}

-- the call asks these operations from this turn on, is answered so, and ends with this reply
abbrev pub GoesOn : ByteCommand → Turn → List Answered → Next → Type 0
GoesOn call (Over last) [] reply = last ≡ reply
GoesOn call (Sends op stage) (a ∷ more) reply = (a.op ≡ op) × GoesOn call (turn call stage a.answer) more reply
GoesOn call _ _ reply = ⊥

-- these are the operations of a call from its first one to its last
abbrev pub IsExchange : ByteCommand → List Answered → Next → Type 0
IsExchange call os reply = GoesOn call (first_turn call) os reply

-- operations that files answer one after another, and that are a call's, do and are answered what the call is on these files
abbrev pub ExchangeIsCall : ByteCommand → Files → List Answered → Next → Type 0
ExchangeIsCall call files os reply = Fits call → FilesAnswer files os → IsExchange call os reply
    → (reply ≡ reply_to call files) × (files_then (ops_of os) files ≡ files_after_call call files)

-- a register of another file, or whether a file is there
abbrev pub is_aside : FileNo → LockUnit → Bool
is_aside f (File g) = true
is_aside f (Block g p) = not (file_eq f g)

-- a write that is done leaves the file's bytes with its own at their place, longer where they pass the end, and all else
abbrev pub WriteIsOfItsBytes : FileNo → ℕ → List ℕ → List ℕ → Files → Type 0
WriteIsOfItsBytes f offset bytes had files = Fits (WriteBytes f offset bytes) → bytes_of files f ≡ Some had → reply_to (WriteBytes f offset bytes) files ≡ Did
    → (bytes_of (files_after_call (WriteBytes f offset bytes) files) f ≡ Some (take offset had ++ bytes ++ drop (offset + length bytes) had))
    × ((u : LockUnit) → is_aside f u ≡ true → files_after_call (WriteBytes f offset bytes) files u ≡ files u)

-- a read gives the file's bytes from its place on, as many as it asks for at most, and changes nothing
abbrev pub ReadIsOfItsBytes : FileNo → ℕ → ℕ → List ℕ → Files → Type 0
ReadIsOfItsBytes f offset count had files = is_some (files (File f)) ≡ true → bytes_of files f ≡ Some had
    → (reply_to (ReadBytes f offset count) files ≡ Done (take count (drop offset had))) × (files_after_call (ReadBytes f offset count) files ≡ files)
