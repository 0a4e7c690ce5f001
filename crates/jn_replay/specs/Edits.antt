-- What an operation does to the list of stored files.
use Rattle.std.specs.Prelude.{◌≡◌, ◌+◌, ◌≤◌, Bool, ◌&&◌, List, length}
use Rattle.jn_base.specs.declared.names.ServerNo.{ServerNo}
use Rattle.jn_base.specs.declared.names.FileNo.{FileNo}
use Rattle.jn_base.specs.declared.names.BlockNo.{BlockNo}
use Rattle.jn_base.specs.declared.op.Op.{Op}
use Rattle.jn_base.specs.declared.op.Answer.{Answer}
use Rattle.jn_base.specs.Names.{server_eq, file_eq, block_eq}
use Rattle.jn_order.specs.Files.{answer_to, all_files_after}
use Rattle.jn_replay.specs.declared.files.StoredBlock.{StoredBlock}
use Rattle.jn_replay.specs.declared.files.StoredFile.{StoredFile}
use Rattle.jn_replay.specs.Stored.{registers, AreSame, block_count}

abbrev pub is_file : ServerNo → FileNo → StoredFile → Bool
is_file s f x = server_eq x.server s && file_eq x.file f

abbrev pub is_block : BlockNo → StoredBlock → Bool
is_block p x = block_eq x.block p

-- an operation at a server, with its answer, from the files stored before it to those after
pub record Does (server : ServerNo) (op : Op) (before after : List StoredFile) (answer : Answer) : Type 0 where
  pub answers : answer ≡ answer_to op (registers before server)
  pub files : AreSame (registers after) (all_files_after server op (registers before))
  pub room : length after ≤ length before + 1
  pub blocks : block_count after ≤ block_count before + 1

-- the same files, wherever they lie in memory
pub record Keeps (before after : List StoredFile) : Type 0 where
  pub files : AreSame (registers after) (registers before)
  pub room : length after ≤ length before + 1
  pub blocks : block_count after ≤ block_count before + 1
