-- Why an image is unsound: the first of these faults, in this order, at the least place.
use Rattle.std.specs.Prelude.{◌≡◌, ◌≢◌, ℕ, Option, Some, None, Result, Ok, Err}
use Rattle.jn_base.specs.declared.names.ServerNo.{ServerNo}
use Rattle.jn_disks.specs.Disks.{image_of}
use Rattle.jn_records.specs.Sound as sound
use Rattle.jn_records.specs.Sound.{HasRoot, HasOneHead, IsSound, All, PagesGood, PairsAgree, SlotsFree, HeadsWhole, MapsWhole, AddressesOnce, TailsZeros}
use Rattle.jn_image.specs.declared.fault.Unsound.{Unsound}
use Rattle.jn_image.specs.declared.fault.Unsound.TheVariants.{Server, Root, BadPage, PairDiffers, PoolInUse, SameFile, Address, MapPage, AddressTwice, DataTail}
use Rattle.jn_image.specs.declared.fault.CheckError.{CheckError}
use Rattle.jn_image.specs.declared.fault.CheckError.TheVariants.{Unsound as AnUnsound, Memory}
use Rattle.jn_image.specs.declared.image.Image.{Image}
use Rattle.jn_image.specs.Form.{image_counts}
use Rattle.jn_image.specs.Repeats.{IsLeastFailing}

-- the number by which a fault is reported, and the place or the name that is reported with it
abbrev pub reported : Unsound → ℕ × Option ℕ
reported Server = (1, None)
reported Root = (2, None)
reported (BadPage p) = (3, Some p)
reported (PairDiffers i) = (4, Some i)
reported (PoolInUse i) = (5, Some i)
reported (SameFile f) = (6, Some f)
reported (Address i) = (7, Some i)
reported (AddressTwice a) = (8, Some a)
reported (DataTail i) = (9, Some i)
reported (MapPage i) = (10, Some i)

-- what the image says, page by page
abbrev pub seen : Image → sound.Image
seen m = image_of m.version m.server (image_counts m) m.pages

-- ---- what holds of each number where the image is sound

abbrev pub ToRoot : ServerNo → sound.Image → Type 0
ToRoot s m = (m.server ≡ s) × HasRoot m

abbrev pub ToPages : ServerNo → sound.Image → Type 0
ToPages s m = ToRoot s m × All (PagesGood m)

abbrev pub ToPairs : ServerNo → sound.Image → Type 0
ToPairs s m = ToPages s m × All (PairsAgree m)

abbrev pub ToPool : ServerNo → sound.Image → Type 0
ToPool s m = ToPairs s m × All (SlotsFree m)

abbrev pub ToFiles : ServerNo → sound.Image → Type 0
ToFiles s m = ToPool s m × All (HasOneHead m)

abbrev pub ToHeads : ServerNo → sound.Image → Type 0
ToHeads s m = ToFiles s m × All (HeadsWhole m)

abbrev pub ToMaps : ServerNo → sound.Image → Type 0
ToMaps s m = ToHeads s m × All (MapsWhole m)

abbrev pub ToAddresses : ServerNo → sound.Image → Type 0
ToAddresses s m = ToMaps s m × All (AddressesOnce m)

-- this is the first fault of the image, if it is to be that of server s
abbrev pub IsFirstFault : ServerNo → sound.Image → Unsound → Type 0
IsFirstFault s m Server = m.server ≢ s
IsFirstFault s m Root = (m.server ≡ s) × (HasRoot m → ⊥)
IsFirstFault s m (BadPage p) = ToRoot s m × IsLeastFailing (PagesGood m) p
IsFirstFault s m (PairDiffers i) = ToPages s m × IsLeastFailing (PairsAgree m) i
IsFirstFault s m (PoolInUse i) = ToPairs s m × IsLeastFailing (SlotsFree m) i
IsFirstFault s m (SameFile f) = ToPool s m × IsLeastFailing (HasOneHead m) f
IsFirstFault s m (Address i) = ToFiles s m × IsLeastFailing (HeadsWhole m) i
IsFirstFault s m (MapPage i) = ToHeads s m × IsLeastFailing (MapsWhole m) i
IsFirstFault s m (AddressTwice a) = ToMaps s m × IsLeastFailing (AddressesOnce m) a
IsFirstFault s m (DataTail i) = ToAddresses s m × IsLeastFailing (TailsZeros m) i

-- an image is sound, or has this first fault; memory may run out
abbrev pub TellsSound : {V : Type 0} → ServerNo → sound.Image → Result V CheckError → Type 0
TellsSound s m (Ok _) = IsSound s m
TellsSound s m (Err (AnUnsound fault)) = IsFirstFault s m fault
TellsSound s m (Err Memory) = Unit {0}
