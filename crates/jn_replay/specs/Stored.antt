-- The plain files as registers.
use Rattle.std.specs.Prelude.{◌≡◌, ℕ, ◌+◌, length, if◌then◌else◌, ◌&&◌, List, [], ◌∷◌, Option, Some, None, option_map, option_and_then}
use Rattle.jn_base.specs.declared.names.ServerNo.{ServerNo}
use Rattle.jn_base.specs.declared.names.FileNo.{FileNo}
use Rattle.jn_base.specs.declared.names.BlockNo.{BlockNo}
use Rattle.jn_base.specs.declared.names.LockUnit.{LockUnit}
use Rattle.jn_base.specs.declared.names.LockUnit.TheVariants.{File, Block}
use Rattle.jn_base.specs.Names.{server_eq, file_eq, block_eq}
use Rattle.jn_order.specs.Files.{AllFiles, there}
use Rattle.jn_replay.specs.declared.files.StoredBlock.{StoredBlock}
use Rattle.jn_replay.specs.declared.files.StoredFile.{StoredFile}
use Rattle.jn_replay.specs.declared.files.Files.{Files as PlainFiles}

abbrev pub stored_file : ServerNo → FileNo → List StoredFile → Option StoredFile
stored_file s f [] = None
stored_file s f (x ∷ xs) = if server_eq x.server s && file_eq x.file f then Some x else stored_file s f xs

abbrev pub stored_block : BlockNo → List StoredBlock → Option (List ℕ)
stored_block p [] = None
stored_block p (x ∷ xs) = if block_eq x.block p then Some x.bytes else stored_block p xs

abbrev pub registers : List StoredFile → AllFiles
registers xs s (File f) = option_map (λ x. there) (stored_file s f xs)
registers xs s (Block f p) = option_and_then (λ (x : StoredFile). stored_block p x.blocks.items) (stored_file s f xs)

abbrev pub files_of : PlainFiles → AllFiles
files_of fs = registers fs.stored.items

-- the same files at each register
abbrev pub AreSame : AllFiles → AllFiles → Type 0
AreSame a b = (s : ServerNo) (u : LockUnit) → a s u ≡ b s u

-- how many blocks are stored
abbrev pub block_count : List StoredFile → ℕ
block_count [] = 0
block_count (x ∷ xs) = length x.blocks.items + block_count xs
