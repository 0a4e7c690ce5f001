-- Which careful gets and puts a call of a stable page makes: page i is kept at i and at i + N. No other call of the device is made.
use Rattle.std.specs.Prelude.{◌≢◌, ℕ, ◌+◌, ◌/◌, Bool, true, false, List, Option, Some, None, Result, Ok, Err, is_err}
use Rattle.jn_base.specs.declared.device.Stopped.{Stopped}
use Rattle.jn_device.specs.Device.{DeviceState}
use Rattle.jn_careful.specs.Tries.{GetsCarefully, PutsCarefully}

abbrev pub second_place : DeviceState → ℕ → ℕ
second_place s i = i + s.count / 2

-- a get: the first half, and the second only where the first is bad; a stop ends it
pub data GetsHalves (s : DeviceState) (i : ℕ) : Result (List ℕ) Stopped → DeviceState → Type 0 where
  got_first : (page : List ℕ) (t : DeviceState) → GetsCarefully s i (Ok (Some page)) t → GetsHalves s i (Ok page) t
  got_second : (page : List ℕ) (m t : DeviceState) → GetsCarefully s i (Ok None) m → GetsCarefully m (second_place s i) (Ok (Some page)) t → GetsHalves s i (Ok page) t
  get_stopped : (e : Stopped) (t : DeviceState) → GetsCarefully s i (Err e) t → GetsHalves s i (Err e) t
  second_get_stopped : (e : Stopped) (m t : DeviceState) → GetsCarefully s i (Ok None) m → GetsCarefully m (second_place s i) (Err e) t → GetsHalves s i (Err e) t

-- a put: the first half, and the second once the first holds the page
pub data PutsHalves (s : DeviceState) (i : ℕ) (page : List ℕ) : Bool → DeviceState → Type 0 where
  put_both : (stopped : Bool) (m t : DeviceState) → PutsCarefully s i page false m → PutsCarefully m (second_place s i) page stopped t → PutsHalves s i page stopped t
  put_stopped : (t : DeviceState) → PutsCarefully s i page true t → PutsHalves s i page true t

-- a cleanup: both halves are got, and one that is bad or has other bytes is put; a stop ends it
pub data CleansHalves (s : DeviceState) (i : ℕ) : Result Bool Stopped → DeviceState → Type 0 where
  whole : (page : List ℕ) (m t : DeviceState) → GetsCarefully s i (Ok (Some page)) m → GetsCarefully m (second_place s i) (Ok (Some page)) t → CleansHalves s i (Ok false) t
  second_mended : (page : List ℕ) (found : Option (List ℕ)) (answer : Result Bool Stopped) (m u t : DeviceState) → GetsCarefully s i (Ok (Some page)) m → GetsCarefully m (second_place s i) (Ok found) u
      → found ≢ Some page → PutsCarefully u (second_place s i) page (is_err answer) t → answer ≢ Ok false → CleansHalves s i answer t
  first_mended : (page : List ℕ) (answer : Result Bool Stopped) (m u t : DeviceState) → GetsCarefully s i (Ok None) m → GetsCarefully m (second_place s i) (Ok (Some page)) u
      → PutsCarefully u i page (is_err answer) t → answer ≢ Ok false → CleansHalves s i answer t
  cleanup_stopped : (e : Stopped) (t : DeviceState) → GetsCarefully s i (Err e) t → CleansHalves s i (Err e) t
  second_cleanup_stopped : (e : Stopped) (found : Option (List ℕ)) (m t : DeviceState) → GetsCarefully s i (Ok found) m → GetsCarefully m (second_place s i) (Err e) t → CleansHalves s i (Err e) t
