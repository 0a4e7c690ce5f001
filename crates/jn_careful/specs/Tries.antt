-- Which device calls a careful get and a careful put make: one, and as long as the page isn't there one more, four in all.
use Rattle.std.specs.Prelude.{◌≡◌, ◌≢◌, ℕ, zero, suc, ◌≤◌, Bool, true, false, List, Option, Some, None, Result, Ok, Err, is_err}
use Rattle.jn_base.specs.declared.device.Stopped.{Stopped}
use Rattle.jn_device.specs.Device.{DeviceState}
use Rattle.jn_device.specs.Calls.{GetStep}
use Rattle.jn_device.specs.declared.Look.{Look}
use Rattle.jn_device.specs.declared.Look.TheVariants.{Good, LooksBad}
use Rattle.jn_phys.specs.Answers.{PutCompared}
use Rattle.jn_phys.specs.declared.Found.{Found}
use Rattle.jn_phys.specs.declared.Found.TheVariants.{Same}
use Rattle.jn_careful.specs.Careful.{CarefulGot, CarefulPut}

-- so many gets of page p, from s to t, each of which finds it bad
pub data AreGotBad (p : ℕ) : ℕ → DeviceState → DeviceState → Type 0 where
  no_get : (s : DeviceState) → AreGotBad p zero s s
  got_again : (n : ℕ) (s t u : DeviceState) → AreGotBad p n s t → GetStep t p (Ok LooksBad) u → AreGotBad p (suc n) s u

-- what the device answers to the last get of a careful one
abbrev pub last_look : Result (Option (List ℕ)) Stopped → Result Look Stopped
last_look (Ok (Some bytes)) = Ok (Good bytes)
last_look (Ok None) = Ok LooksBad
last_look (Err e) = Err e

-- a careful get of page p is gets that find it bad, and a last one, which is the fourth where it finds it bad too
pub data GetRun (s : DeviceState) (p : ℕ) (answer : Result (Option (List ℕ)) Stopped) (t : DeviceState) : Type 0 where
  gets : (tries : ℕ) (before : DeviceState) → AreGotBad p tries s before → GetStep before p (last_look answer) t → tries ≤ 3 → (answer ≡ Ok None → tries ≡ 3) → GetRun s p answer t

abbrev pub MakesGets : DeviceState → ℕ → Result (Option (List ℕ)) Stopped → DeviceState → Type 0
MakesGets s p answer t = (a : Result (Option (List ℕ)) Stopped) → answer ≡ a → GetRun s p a t

-- one get, which reads page p
abbrev pub IsOneGet : DeviceState → ℕ → DeviceState → Type 0
IsOneGet s p t = GetStep s p (Ok (Good (s.pages p).bytes)) t

-- so many puts of a page at p, from s to t, each with a get that doesn't find the page there
pub data ArePutInVain (p : ℕ) (new : List ℕ) : ℕ → DeviceState → DeviceState → Type 0 where
  no_put : (s : DeviceState) → ArePutInVain p new zero s s
  put_once_more : (n : ℕ) (s t u : DeviceState) (found : Found) → ArePutInVain p new n s t → PutCompared t p new (Ok found) u → found ≢ Same → ArePutInVain p new (suc n) s u

-- a careful put is such puts, and a last one, whose get finds the page there unless one of the two is stopped
pub data PutRun (s : DeviceState) (p : ℕ) (new : List ℕ) (stopped : Bool) (t : DeviceState) : Type 0 where
  puts : (tries : ℕ) (before : DeviceState) (answer : Result Found Stopped) → ArePutInVain p new tries s before → PutCompared before p new answer t → tries ≤ 3
      → (stopped ≡ false → answer ≡ Ok Same) → (stopped ≡ true → is_err answer ≡ true) → PutRun s p new stopped t

abbrev pub MakesPuts : DeviceState → ℕ → List ℕ → Bool → DeviceState → Type 0
MakesPuts s p new stopped t = (b : Bool) → stopped ≡ b → PutRun s p new b t

-- a careful get, and a careful put, by what they do and by the calls that they make
pub record GetsCarefully (s : DeviceState) (p : ℕ) (answer : Result (Option (List ℕ)) Stopped) (t : DeviceState) : Type 0 where
  pub got : CarefulGot s p answer t
  pub makes : MakesGets s p answer t

pub record PutsCarefully (s : DeviceState) (p : ℕ) (new : List ℕ) (stopped : Bool) (t : DeviceState) : Type 0 where
  pub put : CarefulPut s p new stopped t
  pub makes : MakesPuts s p new stopped t
