-- What follows from what a node leaves: with an outside that tells and doesn't fail it ends in one way, or for want of memory.
use Rattle.std.specs.Prelude.{◌≡◌, ◌≢◌, ◌<◌, ℕ, Bool, true, false, List, get_or, Option, Some, is_some}
use Rattle.jn_host.specs.Outside.{Contents}
use Rattle.jn_image_files.specs.Kept.{Has, image_name}
use Rattle.jn_node_laws.specs.Given.{EndsAsGiven, IsGiven, Leads}
use Rattle.jn_options.specs.declared.asked.Node.{Node}
use Rattle.jn_writing.specs.Outside.{NoneFails, Outside, Writes, WritesFront}
use Rattle.jn_node_run.specs.Outcome.{IsFound, NodeEnds, Served, epoch_found, state_then}
use Rattle.jn_records.specs.Pages.{last_epoch}
use Rattle.jn_serving.specs.Input.{frames_of}
use Rattle.jn_status.specs.declared.status.Status.{Status}
use Rattle.jn_status.specs.declared.status.Status.TheVariants.{Done, Image, Limit, Unsettled, Frame, Memory}
use Rattle.jn_wire.specs.declared.frame.Framed.{Framed}

-- the source tells what it has left, and the keeper what it has
pub record Tell (before : Outside) : Type 0 where
  pub source : is_some before.source.left ≡ true
  pub keeper : is_some before.keeper.kept ≡ true

-- what is asked for was done, an image was refused, a limit was reached, bytes were no frame, or others wait for the server
abbrev pub is_own_end : Status → Bool
is_own_end Done = true
is_own_end Image = true
is_own_end Limit = true
is_own_end Frame = true
is_own_end Unsettled = true
is_own_end status = false

-- where no call failed and there was memory, it ended by what it was given
abbrev pub NodesComplete : Type 0
NodesComplete = (node : Node) (before after : Outside) (status : Status) → NoneFails before after → NodeEnds node before after status → status ≢ Memory → is_own_end status ≡ true

-- ---- with an outside that tells

-- no two ends are given, and one that is given is of those
abbrev pub OneEndIsGiven : Type 0
OneEndIsGiven = (node : Node) (before : Outside) (status status' : Status) (text text' : List ℕ) → Tell before → IsGiven node before status text → IsGiven node before status' text'
    → (is_own_end status ≡ true) × (status ≡ status') × (text ≡ text')

-- where no call failed, the end is the one that was given, or memory ran out
abbrev pub NodesEndAsGiven : Type 0
NodesEndAsGiven = (node : Node) (before after : Outside) (status : Status) → Tell before → NoneFails before after → NodeEnds node before after status → EndsAsGiven node before after.sink status

-- So what is said of two ways to end never holds of one call.
abbrev pub NodesEndOnce : Type 0
NodesEndOnce = (node : Node) (before after : Outside) (status status' : Status) → Tell before → NoneFails before after → NodeEnds node before after status → NodeEnds node before after status'
    → status ≢ Memory → status' ≢ Memory → status ≡ status'

-- And that fixes the status and what was written: of two calls from one outside that tells, neither of which failed or lacked memory.
abbrev pub NodesEndInOneWay : Type 0
NodesEndInOneWay = (node : Node) (before after other : Outside) (status status' : Status) → Tell before → NoneFails before after → NoneFails before other
    → NodeEnds node before after status → NodeEnds node before other status' → status ≢ Memory → status' ≢ Memory → (status ≡ status') × (after.sink ≡ other.sink)

-- Of a call that lacked memory and one that didn't, the first has written a front of what the second one has.
abbrev pub NodesAreCutShort : Type 0
NodesAreCutShort = (node : Node) (before after other : Outside) (status : Status) → Tell before → NoneFails before after → NoneFails before other → NodeEnds node before after Memory
    → NodeEnds node before other status → status ≢ Memory → (text : List ℕ) × Writes text before.sink other.sink × WritesFront text before.sink after.sink

-- ---- that one is given

-- what is kept under its name are bytes
abbrev pub KeepsBytes : Node → Outside → Type 0
KeepsBytes node before = (bytes : List ℕ) → Has before.keeper.kept (image_name node.opening node.server.0) (Some bytes) → (i : ℕ) → get_or bytes i 0 < 256

-- By its books whoever is found there with an epoch left comes to an end with all whole frames of a source.
abbrev pub FramesLead : Type 0
FramesLead = (node : Node) (kept : Option Contents) (text : List ℕ) (f : IsFound node kept) → epoch_found f < last_epoch → Leads node kept (frames_of node.server text)

-- So where an image is found, an end and a text are computed,
abbrev pub FoundIsGiven : Type 0
FoundIsGiven = (node : Node) (before : Outside) → Tell before → IsFound node before.keeper.kept → (status : Status) × (text : List ℕ) × IsGiven node before status text

-- and in any case it can't be that none is given.
abbrev pub SomeEndIsGiven : Type 0
SomeEndIsGiven = (node : Node) (before : Outside) → Tell before → KeepsBytes node before → ((status : Status) (text : List ℕ) → IsGiven node before status text → ⊥) → ⊥

-- ---- that it is what is served

-- frames lead to one end by the books
abbrev pub BooksLeadOnce : Type 0
BooksLeadOnce = (node : Node) (kept : Option Contents) (frames : List Framed) (leads more : Leads node kept frames) → is_some kept ≡ true → (more.sent ≡ leads.sent) × (more.last ≡ leads.last)

-- and what was served, on the pages of a store, they lead to
abbrev pub ServedAsBooksLead : Type 0
ServedAsBooksLead = (node : Node) (kept : Option Contents) (frames : List Framed) (served : Served node kept frames) → is_some kept ≡ true
    → (leads : Leads node kept frames) × (leads.sent ≡ served.sent) × (leads.last.found ≡ state_then served)
