-- What the two gets of a disk answer, as the device's answer to a get.
use Rattle.std.specs.Prelude.{◌≡◌, ◌≢◌, ℕ, Bool, true, false, List, Result, Ok, Err, is_err}
use Rattle.jn_base.specs.declared.device.Stopped.{Stopped}
use Rattle.jn_device.specs.Device.{DeviceState}
use Rattle.jn_device.specs.Calls.{GetStep, PutStep}
use Rattle.jn_device.specs.declared.Look.{Look}
use Rattle.jn_device.specs.declared.Look.TheVariants.{Good, LooksBad}
use Rattle.jn_phys.specs.declared.Found.{Found}
use Rattle.jn_phys.specs.declared.Found.TheVariants.{Same, Other, LooksBad as FoundBad}

-- a get that answers whether the page is good, where these bytes were read
abbrev pub look_read : Result Bool Stopped → List ℕ → Result Look Stopped
look_read (Ok true) bytes = Ok (Good bytes)
look_read (Ok false) bytes = Ok LooksBad
look_read (Err e) bytes = Err e

-- a get that answers how the page compares, where these bytes were compared
abbrev pub look_compared : Result Found Stopped → List ℕ → Result Look Stopped
look_compared (Ok Same) bytes = Ok (Good bytes)
look_compared (Ok Other) bytes = Ok (Good bytes)
look_compared (Ok FoundBad) bytes = Ok LooksBad
look_compared (Err e) bytes = Err e

-- these bytes were compared with a page
pub record IsCompared (answer : Result Found Stopped) (bytes page : List ℕ) : Type 0 where
  pub same : answer ≡ Ok Same → bytes ≡ page
  pub other : answer ≡ Ok Other → bytes ≢ page

-- a put of a page at p, from s, and where that isn't stopped a get of p that compares the page, to t
pub record PutCompared (s : DeviceState) (p : ℕ) (page : List ℕ) (answer : Result Found Stopped) (t : DeviceState) : Type 0 where
  pub middle : DeviceState
  pub stops : Bool
  pub put : PutStep s p page stops middle
  pub stopped : stops ≡ true → (is_err answer ≡ true) × (t ≡ middle)
  pub got : stops ≡ false → GetStep middle p (look_compared answer (t.pages p).bytes) t
  pub compared : IsCompared answer (t.pages p).bytes page
