-- Two servers of one number and counts, each on a store of its own: where they begin alike, what they send follows from the frames, and they begin
-- alike where their stores are of one image.
use Rattle.std.specs.Prelude.{◌≡◌, ℕ, true, List, Option, is_some}
use Rattle.std.specs.List.{AllByRecursion}
use Rattle.jn_base.specs.declared.names.ServerNo.{ServerNo}
use Rattle.jn_base.specs.declared.names.WorkId.{WorkId}
use Rattle.jn_device.specs.Device.{DeviceState}
use Rattle.jn_host.specs.Outside.{Contents}
use Rattle.jn_image_files.specs.Opened.{IsOpened}
use Rattle.jn_node.specs.Running.{Running, state_of, beside_at, IsMoment, IsOpen}
use Rattle.jn_node.specs.Serving.{ServesFrames}
use Rattle.jn_order.specs.Files.{Files}
use Rattle.jn_records.specs.StablePages.{Counts}
use Rattle.jn_rows.specs.Outcomes.{Sent}
use Rattle.jn_rows.specs.Stable.{StableState}
use Rattle.jn_rows.specs.declared.worker.Work.{Work}
use Rattle.jn_store.specs.Pairs.{pairs_view}
use Rattle.jn_system.specs.WholeSystem.World.{Memory}
use Rattle.jn_wire.specs.declared.frame.Framed.{Framed}

abbrev pub IsNamedIn : ℕ → Work → Type 0
IsNamedIn epoch w = w.name.epoch ≡ epoch

-- new names are of this epoch, and so are those of all works, live or prepared
pub record AreNamed (epoch : ℕ) (m : Memory) (x : StableState) : Type 0 where
  pub tickets : m.tickets.epoch ≡ epoch
  pub live : AllByRecursion (IsNamedIn epoch) m.worker
  pub prepared : (W : WorkId) → is_some (x.works W) ≡ true → W.epoch ≡ epoch

-- Between two rows they remember the same, the same is found, and the pages hold the same beside it. All works are of this epoch, and of none is a part
-- carried out.
pub record AreAlike (s : ServerNo) (g : Counts) (x y : Running) : Type 0 where
  pub memory : y.memory ≡ x.memory
  pub found : state_of g y ≡ state_of g x
  pub beside : beside_at g y ≡ beside_at g x
  pub named : AreNamed (state_of g x).epoch x.memory (state_of g x)
  pub whole : (W : WorkId) → x.memory.next W ≡ 0
  pub moment : IsMoment s g x
  pub other : IsMoment s g y

-- Where two servers are alike and serve the same frames, they send the same to others, and are alike again.
abbrev pub FramesFixWhatIsSent : Type 0
FramesFixWhatIsSent = (s : ServerNo) (g : Counts) (x y : Running) (frames : List Framed) (sent more : List Sent) (x' y' : Running) → AreAlike s g x y
    → ServesFrames s g x frames sent x' → ServesFrames s g y frames more y' → (more ≡ sent) × AreAlike s g x' y'

-- Where two disks are of the image that is kept under one name, servers that come up on them have the same counts, and are alike.
abbrev pub ImagesFixServers : Type 0
ImagesFixServers = (kept : Option Contents) (name : List ℕ) (s : ServerNo) (g h : Counts) (files more : Files) (d e : DeviceState) (x y : Running) → is_some kept ≡ true
    → IsOpened kept name g files s d → IsOpened kept name h more s e → IsOpen s g (pairs_view d) x → IsOpen s h (pairs_view e) y → (h ≡ g) × AreAlike s g x y
