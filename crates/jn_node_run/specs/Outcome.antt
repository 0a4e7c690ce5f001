-- What a call of the program leaves whose words ask for a node, by its status: the server that came up on its image, what was read and served, and
-- each way to end.
use Rattle.std.specs.Prelude.{◌≡◌, ◌≢◌, ◌≤◌, ◌<◌, ℕ, ◌+◌, true, List, length, take, drop, Option, None, is_some, option_map, IfSome}
use Rattle.jn_base.specs.declared.names.ServerNo.{ServerNo}
use Rattle.jn_device.specs.Device.{DeviceState}
use Rattle.jn_host.specs.Outside.{Contents, kept_at}
use Rattle.jn_base.specs.Counts.{Rose}
use Rattle.jn_image_files.specs.declared.refusal.Cause.{Cause}
use Rattle.jn_image_files.specs.Examined.{IsRefused}
use Rattle.jn_image_files.specs.Kept.{Has, IsSaved, image_name}
use Rattle.jn_image_files.specs.Opened.{IsOpened}
use Rattle.jn_image_files.specs.Texts.{refusal_text}
use Rattle.jn_node.specs.Running.{Running, state_of, IsOpen, IsClosedTo}
use Rattle.jn_node.specs.Serving.{ServesFrames, sent_bytes}
use Rattle.jn_options.specs.declared.asked.Node.{Node}
use Rattle.jn_order.specs.Files.{Files}
use Rattle.jn_page_state.specs.Pages.{found_on}
use Rattle.jn_records.specs.StablePages.{Counts}
use Rattle.jn_records.specs.Pages.{last_epoch}
use Rattle.jn_rows.specs.Outcomes.{Sent}
use Rattle.jn_rows.specs.Stable.{StableState, stable}
use Rattle.jn_server.specs.Settled.{IsSettledState}
use Rattle.jn_store.specs.Pairs.{pairs_view}
use Rattle.jn_wire.specs.declared.frame.Framed.{Framed}
use Rattle.jn_serving.specs.Input.{Gave, IsAtEnd, MeetsFault, frames_of, held_of, most_bytes, most_piece}
use Rattle.jn_writing.specs.Outside.{SinkState, KeeperState, Outside, KeeperFails, Writes, WritesFront, FailsToWrite}
use Rattle.jn_status.specs.declared.status.Status.{Status}
use Rattle.jn_status.specs.declared.status.Status.TheVariants.{Done, Image, Read, Write, Keep, Limit, Memory, Unsettled, Frame}

-- ---- the server's image

-- the disk of the sound image that is kept under the server's name
pub record IsFound (node : Node) (kept : Option Contents) : Type 0 where
  pub counts : Counts
  pub files : Files
  pub disk : DeviceState
  pub opened : IsOpened kept node.opening counts files node.server disk

abbrev pub epoch_found : {node : Node} {kept : Option Contents} → IsFound node kept → ℕ
epoch_found found = (stable (found_on found.counts (pairs_view found.disk))).epoch

-- the keeper has this under the server's name, it is refused by this cause, and so much of the text that says so was written
pub record RefusedOwn (node : Node) (before after : Outside) (Written : List ℕ → SinkState → SinkState → Type 0) : Type 0 where
  pub content : Option (List ℕ)
  pub has : Has before.keeper.kept (image_name node.opening node.server.0) content
  pub cause : Cause
  pub refused : IsRefused node.server content cause
  pub written : Written (refusal_text (record { server = node.server; cause = cause })) before.sink after.sink

-- ---- what is served

-- the server came up on its image, and served these frames, one after another
pub record Served (node : Node) (kept : Option Contents) (frames : List Framed) : Type 0 where
  pub found : IsFound node kept
  pub first : Running
  pub opens : IsOpen node.server found.counts (pairs_view found.disk) first
  pub sent : List Sent
  pub last : Running
  pub serves : ServesFrames node.server found.counts first frames sent last

-- These bytes were read, each whole frame among them was served, and all that the server sent to others was written.
pub record ServedWhole (node : Node) (before after : Outside) : Type 0 where
  pub read : List ℕ
  pub gave : Gave read before.source after.source
  pub served : Served node before.keeper.kept (frames_of node.server read)
  pub written : Writes (sent_bytes node.server served.sent) before.sink after.sink

-- These bytes were read, each whole frame among the first of them was served, and so much of what the server sent by that was written. Of what
-- was read no more stands behind these first bytes than one read gives.
pub record ServedFront (node : Node) (before after : Outside) (Written : List ℕ → SinkState → SinkState → Type 0) : Type 0 where
  pub read : List ℕ
  pub gave : Gave read before.source after.source
  pub front : ℕ
  pub near : length read ≤ front + most_piece
  pub served : Served node before.keeper.kept (frames_of node.server (take front read))
  pub written : Written (sent_bytes node.server served.sent) before.sink after.sink

-- what stands on the server's pages once the frames were served
abbrev pub state_then : {node : Node} {kept : Option Contents} {frames : List Framed} → Served node kept frames → StableState
state_then served = state_of served.found.counts served.last

-- the input was served to its end, and no work is prepared and no transaction has a flag then
pub record EndsSettled (node : Node) (before after : Outside) : Type 0 where
  pub told : ServedWhole node before after
  pub end : IsAtEnd node.server before.source.left told.read
  pub settled : IsSettledState (state_then told.served)
  pub faults : after.source.faults ≡ before.source.faults

abbrev pub last_state : {node : Node} {before after : Outside} → EndsSettled node before after → StableState
last_state ends = state_then ends.told.served

-- ---- what is saved

-- this disk is kept under the server's name, as an image of version 2, and nothing else was changed
pub record KeepsOwn (node : Node) (g : Counts) (d : DeviceState) (before after : KeeperState) : Type 0 where
  pub saved : IsSaved after.kept node.closing g node.server d
  pub told : is_some after.kept ≡ is_some before.kept
  pub others : (other : List ℕ) → other ≢ image_name node.closing node.server.0 → kept_at after.kept other ≡ kept_at before.kept other
  pub faults : after.faults ≡ before.faults

-- the server went down, came up once more and cleaned its pages, and the disk that is left is kept
pub record SavesOwn (node : Node) (g : Counts) (last : Running) (before after : KeeperState) : Type 0 where
  pub disk : DeviceState
  pub closed : IsClosedTo node.server g last (pairs_view disk)
  pub keeps : KeepsOwn node g disk before after

-- ---- each way to end

pub data NodeEnds (node : Node) (before after : Outside) : Status → Type 0 where
  -- the input was served to its end, and what the server left is saved
  node_done : (e : EndsSettled node before after) → SavesOwn node e.told.served.found.counts e.told.served.last before.keeper after.keeper → NodeEnds node before after Done
  -- the image isn't loaded, or is refused, and nothing was read
  node_not_loaded : after.source ≡ before.source → after.sink ≡ before.sink → KeeperFails before.keeper after.keeper → NodeEnds node before after Keep
  node_refused : RefusedOwn node before after Writes → after.source ≡ before.source → after.keeper ≡ before.keeper → NodeEnds node before after Image
  node_refusal_not_written : RefusedOwn node before after FailsToWrite → after.source ≡ before.source → after.keeper ≡ before.keeper → NodeEnds node before after Write
  -- the source failed: what it gave is no fault and isn't too long, and was served
  node_not_read : (t : ServedWhole node before after) → (held_of node.server t.read).fault ≡ None → length t.read ≤ most_bytes → Rose before.source.faults after.source.faults
      → after.keeper ≡ before.keeper → NodeEnds node before after Read
  -- the sink failed
  node_not_written : ServedFront node before after FailsToWrite → after.source.faults ≡ before.source.faults → after.keeper ≡ before.keeper → NodeEnds node before after Write
  -- there is an epoch too few, at the start or at the end, or a byte too many
  node_no_epoch : (f : IsFound node before.keeper.kept) → epoch_found f ≡ last_epoch → after ≡ before → NodeEnds node before after Limit
  node_no_epoch_left : (e : EndsSettled node before after) → (last_state e).epoch ≡ last_epoch → after.keeper ≡ before.keeper → NodeEnds node before after Limit
  node_passed_limit : (t : ServedWhole node before after) → (held_of node.server t.read).fault ≡ None → most_bytes < length t.read → after.source.faults ≡ before.source.faults
      → after.keeper ≡ before.keeper → NodeEnds node before after Limit
  -- bytes that are no frame were met, or somebody waits for what the server has at the end
  node_frame : (t : ServedWhole node before after) → MeetsFault node.server before.source.left t.read → after.source.faults ≡ before.source.faults → after.keeper ≡ before.keeper
      → NodeEnds node before after Frame
  node_unsettled : (t : ServedWhole node before after) → IsAtEnd node.server before.source.left t.read → (IsSettledState (state_then t.served) → ⊥) → after.source.faults ≡ before.source.faults
      → after.keeper ≡ before.keeper → NodeEnds node before after Unsettled
  -- what the server left isn't saved
  node_not_saved : (e : EndsSettled node before after) → (last_state e).epoch < last_epoch → KeeperFails before.keeper after.keeper → NodeEnds node before after Keep
  -- memory runs out before anything is read or written, or later
  node_no_memory : after ≡ before → NodeEnds node before after Memory
  node_no_memory_inside : ServedFront node before after WritesFront → after.source.faults ≡ before.source.faults → after.keeper ≡ before.keeper → NodeEnds node before after Memory
