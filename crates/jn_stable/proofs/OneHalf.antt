-- A good first half that no fault meets is got by one call.
use Rattle.std.proofs.Common.{◌≡◌, ℕ, true, List, [], Option, Some, None, Result, Ok, Err, ap}
use Rattle.jn_base.specs.declared.device.Stopped.{Stopped}
use Rattle.jn_device.specs.Device.{DeviceState}
use Rattle.jn_device.specs.Calls.{due}
use Rattle.jn_careful.specs.Tries.{IsOneGet}
use Rattle.jn_careful.proofs.OneCall.{one_call}
use Rattle.jn_stable.specs.Halves.{GetsHalves, got_first, got_second, get_stopped, second_get_stopped}

abbrev page_or : Result (Option (List ℕ)) Stopped → List ℕ
page_or (Ok (Some x)) = x
page_or (Ok None) = []
page_or (Err e) = []

pub one_half : (s : DeviceState) (i : ℕ) (answer : Result (List ℕ) Stopped) (t : DeviceState) → GetsHalves s i answer t
    → s.power ≡ true → due s.waiting ≡ None → (s.pages i).good ≡ true → (answer ≡ Ok (s.pages i).bytes) × IsOneGet s i t
one_half s i _ _ (got_first page t first) on none good = let one = one_call s i _ t first.makes on none good in (ap (λ (x : List ℕ). Ok x) (ap page_or one.0), one.1)
one_half s i _ _ (got_second page m t first second) on none good = absurd (let one = (one_call s i _ m first.makes on none good).0 in cc one)
one_half s i _ _ (get_stopped e t first) on none good = absurd (let one = (one_call s i _ t first.makes on none good).0 in cc one)
one_half s i _ _ (second_get_stopped e m t first second) on none good = absurd (let one = (one_call s i _ m first.makes on none good).0 in cc one)
