-- What befalls a step is what its server's device does.
use Rattle.std.specs.Prelude.{◌≡◌, ◌≤◌, ◌<◌, ◌+◌, ◌*◌, ℕ, Bool, true, false, not, if◌then◌else◌, [], Some, None, is_some}
use Rattle.jn_base.specs.declared.names.ServerNo.{ServerNo}
use Rattle.jn_base.specs.Names.{server_eq}
use Rattle.jn_device.specs.Device.{DeviceState}
use Rattle.jn_device.specs.Events.{PowersUp, powered_off, disarmed, cleared, Decays as PageDecays, Revives as PageRevives, Arms as FaultArmed}
use Rattle.jn_device.specs.Happens.{Happens}
use Rattle.jn_records.specs.Pages.{root_page}
use Rattle.jn_records.specs.StablePages.{Counts, Pages, root_by, page_count}
use Rattle.jn_store.specs.DeviceCalls.{put_calls, cleaned_get_calls}
use Rattle.jn_store.specs.Pairs.{pairs_view}
use Rattle.jn_store.specs.Store.{IsCalm, IsClean, IsOnly, IsWholePage}
use Rattle.jn_page_state.specs.Pages.{pool_on, found_on, heads_on}
use Rattle.jn_records.specs.MapPlaces.{maps_in}
use Rattle.jn_page_state.specs.Puts.{IsFrontClean, IsFrontWhole}
use Rattle.jn_page_state.specs.Recoverable.{IsRecoverable, MapsAreClean}
use Rattle.jn_recovery.specs.Counts.{calls_by}
use Rattle.jn_rows.specs.Stable.{Pick, stable}
use Rattle.jn_system.specs.WholeSystem.World.{World, Memory}
use Rattle.jn_system.specs.WholeSystem.Steps.{run, IsRun}
use Rattle.jn_system.specs.WholeSystem.Printing.{ArePrints}
use Rattle.jn_system.specs.WholeSystem.PrintedLines.{prints_of}
use Rattle.jn_server.specs.Standing.{standing_pages, free_on, has_rubbish}
use Rattle.jn_machine.specs.Chances.{Setup, Chance, free_found, maps_found, prints_found, allowed}
use Rattle.jn_machine.specs.Leaving.{AreLeft, AreAllCounted}
use Rattle.jn_machine.specs.Deeds.{pick_read, Use, Nothing, Calls, Cleans, Reads, Recovers, PowersOff, Decays, Revives, Arms, Disarms, Deed}

abbrev pub Devices : Type 0
Devices = ServerNo → DeviceState

-- ---- calls

-- while no fault waits, a pair of good and equal halves stays one
abbrev pub KeepsWhole : DeviceState → DeviceState → Type 0
KeepsWhole d e = IsCalm (pairs_view d) → (i : ℕ) → i < (pairs_view d).count → IsWholePage (pairs_view d) i → IsWholePage (pairs_view e) i

-- The device is called, so many times at most: each call is a step of its own. What it reports was outside at its call, and it has no power behind
-- a stop.
pub record IsCalled (most : ℕ) (h : Chance) (d e : DeviceState) : Type 0 where
  pub last : DeviceState
  pub happens : Happens d last
  pub few : last.calls ≤ d.calls + most
  pub whole : KeepsWhole d last
  pub told : h.told ≡ last.told
  pub stop : is_some h.stop ≡ not last.power
  pub after : e ≡ cleared last

-- The power comes first, and goes where the server doesn't come up. Map pages are cleaned and read as heads name them by some pick, which is the one
-- that is read where it comes up. Then root, records and heads are clean, and whole where no fault waited, and map pages are clean. The root is of the
-- version that is written then, whichever was read.
pub record IsRecovery (q : ServerNo) (g : Counts) (h : Chance) (up : Bool) (d e : DeviceState) : Type 0 where
  pub powered : DeviceState
  pub last : DeviceState
  pub power : PowersUp d powered
  pub pick : Pick
  pub read : up ≡ true → pick ≡ pick_read h
  pub called : IsCalled (calls_by g (pairs_view d) pick) h powered last
  pub after : e ≡ (if up then last else powered_off last)
  pub front : up ≡ true → IsFrontClean g (pairs_view e)
  pub maps : up ≡ true → MapsAreClean g (pairs_view e)
  pub front_whole : up ≡ true → d.waiting ≡ [] → IsFrontWhole g (pairs_view e)
  pub root : up ≡ true → (epoch : ℕ) × IsOnly (pairs_view e) 0 (root_page (root_by q g epoch))

-- one server's device becomes another, and all others stay
pub record Alone (q : ServerNo) (becomes : DeviceState → DeviceState → Type 0) (ds es : Devices) : Type 0 where
  pub its : becomes (ds q) (es q)
  pub others : (s : ServerNo) → server_eq q s ≡ false → es s ≡ ds s

-- ---- what stands on the pages of a server that is up

-- by one pick: all find the same records and heads
abbrev pub pages_of : DeviceState → Pages
pages_of d = standing_pages (pairs_view d)

abbrev pub rubbish_on : Setup → Devices → ServerNo → Bool
rubbish_on x ds q = has_rubbish (pool_on (x.counts q) (pages_of (ds q)))

-- ---- what a step does with the devices

-- a server that is up has so much free and these map pages, and its device is called
pub record IsServed (g : Counts) (most : ℕ) (h : Chance) (w : World) (q : ServerNo) (d e : DeviceState) : Type 0 where
  pub memory : Memory
  pub up : w.memory q ≡ Some memory
  pub free : free_found h.found ≡ free_on g (pages_of d) (stable (w.found q)) memory
  pub maps : maps_found h.found ≡ maps_in (heads_on g (pages_of d))
  pub called : IsCalled most h d e

-- where it isn't stopped, each pair of pages is clean then, and whole where no fault waits
pub record IsScrubbed (g : Counts) (h : Chance) (w : World) (q : ServerNo) (d e : DeviceState) : Type 0 where
  pub served : IsServed g (put_calls * page_count g) h w q d e
  pub clean : h.stop ≡ None → (i : ℕ) → i < page_count g → IsClean (pairs_view e) i
  pub whole : h.stop ≡ None → IsCalm (pairs_view d) → (i : ℕ) → i < page_count g → IsWholePage (pairs_view e) i

-- where it isn't stopped, a server that is up prints all that it has to print
pub record IsLookedOver (g : Counts) (h : Chance) (w : World) (q : ServerNo) (d e : DeviceState) : Type 0 where
  pub memory : Memory
  pub up : w.memory q ≡ Some memory
  pub prints : h.stop ≡ None → ArePrints (prints_of q w memory) (prints_found h.found)
  pub called : IsCalled (cleaned_get_calls * g.leaves) h d e

-- in a step from one world to another
abbrev pub IsUsed : Setup → Chance → Use → World → World → Devices → Devices → Type 0
IsUsed x h Nothing w now ds es = (q : ServerNo) → es q ≡ ds q
IsUsed x h (Calls q most) w now ds es = Alone q (IsServed (x.counts q) most h w q) ds es
IsUsed x h (Cleans q) w now ds es = Alone q (IsScrubbed (x.counts q) h w q) ds es
IsUsed x h (Reads q) w now ds es = Alone q (IsLookedOver (x.counts q) h w q) ds es
IsUsed x h (Recovers q) w now ds es = Alone q (IsRecovery q (x.counts q) h (is_some (now.memory q))) ds es
IsUsed x h (PowersOff q) w now ds es = Alone q (λ d e. e ≡ powered_off d) ds es
IsUsed x h (Decays q p) w now ds es = Alone q (λ d e. PageDecays d p (allowed h.found) e) ds es
IsUsed x h (Revives q p) w now ds es = Alone q (λ d e. PageRevives d p e) ds es
IsUsed x h (Arms q n kind) w now ds es = Alone q (λ d e. FaultArmed d n kind (allowed h.found) e) ds es
IsUsed x h Disarms w now ds es = (q : ServerNo) → es q ≡ disarmed (ds q)

-- ---- a step

-- each pick of halves of each server's pages finds what it finds in the world
abbrev pub AreFound : Setup → World → Devices → Type 0
AreFound x w ds = (q : ServerNo) (c : Pick) → q.0 < x.servers → w.found q c ≡ found_on (x.counts q) (pairs_view (ds q)) c

-- a recovery may begin from each server's pages
abbrev pub AreRecoverable : Setup → Devices → Type 0
AreRecoverable x ds = (q : ServerNo) → q.0 < x.servers → IsRecoverable q (x.counts q) (pairs_view (ds q))

-- a deed leads from this world and these devices to others
pub record Befalls (x : Setup) (h : Chance) (deed : Deed) (w : World) (ds es : Devices) : Type 0 where
  -- which records are rubbish as it begins
  pub rubbish : (q : ServerNo) → h.rubbish q ≡ rubbish_on x ds q
  -- a restart names the works and flags that it finds
  pub steps : IsRun deed.steps w
  pub used : IsUsed x h deed.device w (run deed.steps w) ds es
  pub found : AreFound x (run deed.steps w) es
  -- beside the stable state stands then what its steps leave
  pub left : AreLeft x deed.steps w ds es
  -- and no record and no head is there that nothing names
  pub counted : AreAllCounted x (run deed.steps w) es
  -- nor is a data page named twice, and each prepared work has its map pages
  pub recoverable : AreRecoverable x es
