-- Operations and calls done one after another: the files after them, and whether the files give the replies that were reported.
use Rattle.std.specs.Prelude.{◌≡◌, ◌+◌, Bool, true, nat_le, ◌&&◌, if◌then◌else◌, List, [], ◌∷◌, length}
use Rattle.jn_base.specs.declared.names.ServerNo.{ServerNo}
use Rattle.jn_base.specs.declared.call.ByteCommand.{ByteCommand}
use Rattle.jn_base.specs.declared.call.ByteCommand.TheVariants.{ReadBytes, WriteBytes}
use Rattle.jn_base.specs.declared.call.NameCommand.{NameCommand}
use Rattle.jn_base.specs.declared.call.NameCommand.TheVariants.{Bind, Unbind, Find, Names}
use Rattle.jn_base.specs.declared.call.Call.{Call}
use Rattle.jn_base.specs.declared.call.Call.TheVariants.{OfBytes, OfNames}
use Rattle.jn_base.specs.Limits.{block_size, most_file_bytes}
use Rattle.jn_base.specs.Names.{server_eq, is_name}
use Rattle.jn_order.specs.Files.{AllFiles}
use Rattle.jn_calls.specs.declared.reply.Wish.{Wish}
use Rattle.jn_calls.specs.declared.reply.Wish.TheVariants as wishes
use Rattle.jn_calls.specs.Calls.{reply_to, files_by}
use Rattle.jn_replay.specs.declared.replied.Replied.{Replied}

-- the files of all servers, where one of them does what is wished
abbrev pub all_files_by : ServerNo → Wish → AllFiles → AllFiles
all_files_by s wish files q = if server_eq s q then files_by wish (files q) else files q

abbrev pub files_by_all : List Replied → AllFiles → AllFiles
files_by_all [] files = files
files_by_all (r ∷ rs) files = files_by_all rs (all_files_by r.server r.wish files)

-- the files give these replies, one after another
abbrev pub GivesReplies : AllFiles → List Replied → Type 0
GivesReplies files [] = Unit {0}
GivesReplies files (r ∷ rs) = (reply_to r.wish (files r.server) ≡ r.reply) × GivesReplies (all_files_by r.server r.wish files) rs

-- ---- calls that a client makes

-- a write is of a block's bytes at most, which end where a file can end
abbrev pub bytes_fit : ByteCommand → Bool
bytes_fit (ReadBytes f offset count) = true
bytes_fit (WriteBytes f offset bytes) = nat_le (length bytes) block_size && nat_le (offset + length bytes) most_file_bytes

-- the name is one
abbrev pub name_fits : NameCommand → Bool
name_fits (Bind d name f) = is_name name
name_fits (Unbind d name) = is_name name
name_fits (Find d name) = is_name name
name_fits (Names d) = true

abbrev pub call_fits : Call → Bool
call_fits (OfBytes command) = bytes_fit command
call_fits (OfNames command) = name_fits command

abbrev pub wish_fits : Wish → Bool
wish_fits (wishes.Operation op) = true
wish_fits (wishes.Call call) = call_fits call

-- of what was replied each call is one that a client makes
abbrev pub CallsFit : List Replied → Type 0
CallsFit [] = Unit {0}
CallsFit (r ∷ rs) = (wish_fits r.wish ≡ true) × CallsFit rs
