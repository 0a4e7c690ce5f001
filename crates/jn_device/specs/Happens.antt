-- What happens to the device while it is called: gets and puts, one after another, each at a page that there is.
use Rattle.std.specs.Prelude.{ℕ, ◌<◌, Bool, List, Result}
use Rattle.jn_base.specs.declared.device.Stopped.{Stopped}
use Rattle.jn_device.specs.declared.Look.{Look}
use Rattle.jn_device.specs.Device.{DeviceState}
use Rattle.jn_device.specs.Calls.{GetStep, PutStep}

pub data Happens : DeviceState → DeviceState → Type 0 where
  none : (s : DeviceState) → Happens s s
  get : (s t : DeviceState) (p : ℕ) (answer : Result Look Stopped) → p < s.count → GetStep s p answer t → Happens s t
  put : (s t : DeviceState) (p : ℕ) (new : List ℕ) (stopped : Bool) → p < s.count → PutStep s p new stopped t → Happens s t
  joined : (s t u : DeviceState) → Happens s t → Happens t u → Happens s u
