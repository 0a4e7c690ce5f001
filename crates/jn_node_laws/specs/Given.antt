-- What a node is given, its image and all that its source has, tells how it is to end and what it is to write.
use Rattle.std.specs.Prelude.{◌≡◌, ◌<◌, ◌≤◌, ℕ, true, List, [], length, Option, Some, None, is_some}
use Rattle.jn_base.specs.declared.names.ServerNo.{ServerNo}
use Rattle.jn_image_files.specs.declared.refusal.Cause.{Cause}
use Rattle.jn_image_files.specs.Examined.{IsRefused}
use Rattle.jn_image_files.specs.Kept.{Has, image_name}
use Rattle.jn_image_files.specs.Texts.{refusal_text}
use Rattle.jn_host.specs.Outside.{Contents}
use Rattle.jn_node.specs.Serving.{sent_bytes}
use Rattle.jn_node_laws.specs.Books.{Books, BooksServeAll, first_books}
use Rattle.jn_node_run.specs.Outcome.{IsFound, epoch_found}
use Rattle.jn_options.specs.declared.asked.Node.{Node}
use Rattle.jn_records.specs.Pages.{last_epoch}
use Rattle.jn_rows.specs.Outcomes.{Sent}
use Rattle.jn_rows.specs.Stable.{StableState}
use Rattle.jn_server.specs.Settled.{IsSettledState}
use Rattle.jn_serving.specs.Input.{frames_of, held_of, most_bytes}
use Rattle.jn_status.specs.declared.status.Status.{Status}
use Rattle.jn_status.specs.declared.status.Status.TheVariants.{Done, Image, Limit, Memory, Unsettled, Frame}
use Rattle.jn_store.specs.Pairs.{pairs_view}
use Rattle.jn_wire.specs.Unframing.{nothing_held}
use Rattle.jn_wire.specs.declared.frame.Framed.{Framed}
use Rattle.jn_writing.specs.Outside.{Outside, SinkState, Writes, WritesFront}

-- ---- all bytes of a source

-- they end behind a whole frame
pub record EndsWhole (s : ServerNo) (text : List ℕ) : Type 0 where
  pub fits : length text ≤ most_bytes
  pub whole : held_of s text ≡ nothing_held (length text)

-- they are too many, and the first of them are no fault
pub record PassesLimit (s : ServerNo) (text : List ℕ) : Type 0 where
  pub none : (held_of s text).fault ≡ None
  pub past : most_bytes < length text

-- there is a fault among the first of them, or they end inside a frame
pub data HasNoFrame (s : ServerNo) (text : List ℕ) : Type 0 where
  is_at_fault : is_some (held_of s text).fault ≡ true → HasNoFrame s text
  is_cut_off : length text ≤ most_bytes → (held_of s text).fault ≡ None → 0 < length (held_of s text).bytes → HasNoFrame s text

-- By them, and by what is found of the server once their whole frames were served. Where nobody waits for it then, it is to be saved, or has no epoch
-- left for that.
pub data EndsBy (s : ServerNo) (text : List ℕ) (z : StableState) : Status → Type 0 where
  is_done : EndsWhole s text → IsSettledState z → z.epoch < last_epoch → EndsBy s text z Done
  has_no_epoch : EndsWhole s text → IsSettledState z → z.epoch ≡ last_epoch → EndsBy s text z Limit
  has_waiting : EndsWhole s text → (IsSettledState z → ⊥) → EndsBy s text z Unsettled
  is_too_long : PassesLimit s text → EndsBy s text z Limit
  has_no_frame : HasNoFrame s text → EndsBy s text z Frame

-- ---- what a node is given

-- What these frames lead to, one after another, at the server that comes up on its image: what it sends to others, and its books then.
pub record Leads (node : Node) (kept : Option Contents) (frames : List Framed) : Type 0 where
  pub found : IsFound node kept
  pub before_last : epoch_found found < last_epoch
  pub sent : List Sent
  pub last : Books
  pub serves : BooksServeAll node.server found.counts (first_books node.server found.counts (pairs_view found.disk)) frames sent last

-- a node that is given this is to end so, and to write this text
pub data IsGiven (node : Node) (before : Outside) : Status → List ℕ → Type 0 where
  -- an image that is refused, or that is in its last epoch
  given_refused : (content : Option (List ℕ)) (cause : Cause) → Has before.keeper.kept (image_name node.opening node.server.0) content → IsRefused node.server content cause
      → IsGiven node before Image (refusal_text (record { server = node.server; cause = cause }))
  given_no_epoch : (f : IsFound node before.keeper.kept) → epoch_found f ≡ last_epoch → IsGiven node before Limit []
  -- or frames to serve
  given_frames : (text : List ℕ) (status : Status) → before.source.left ≡ Some text → (leads : Leads node before.keeper.kept (frames_of node.server text))
      → EndsBy node.server text leads.last.found status → IsGiven node before status (sent_bytes node.server leads.sent)

-- it ended so and has written that; or memory ran out, and it has written a front of it
pub data EndsAsGiven (node : Node) (before : Outside) (sink : SinkState) : Status → Type 0 where
  as_given : (status : Status) (text : List ℕ) → IsGiven node before status text → Writes text before.sink sink → EndsAsGiven node before sink status
  cut_short : ((status : Status) (text : List ℕ) → IsGiven node before status text → WritesFront text before.sink sink) → EndsAsGiven node before sink Memory
