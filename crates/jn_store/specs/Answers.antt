-- When a call of a store is answered Ok, whatever faults wait.
use Rattle.std.specs.Prelude.{◌≡◌, ◌-◌, ◌^◌, ◌<◌, Bool, true, false}
use Rattle.jn_device.specs.Later.{count_kind}
use Rattle.jn_base.specs.Names.{is_stop}
use Rattle.jn_store.specs.Store.{StoreView}

-- there is power, and of the faults that wait none is a stop
pub record IsUnstopped (v : StoreView) : Type 0 where
  pub power : v.power ≡ true
  pub no_stop : count_kind is_stop v.waiting ≡ 0

-- a stop that waited has struck
abbrev pub StopStruck : StoreView → StoreView → Type 0
StopStruck v w = count_kind is_stop w.waiting < count_kind is_stop v.waiting

-- a call from v to w is answered Ok exactly where there is power afterwards; over power it is Ok unless a stop that waited strikes
pub record IsOkUnlessStopped (v : StoreView) (ok : Bool) (w : StoreView) : Type 0 where
  pub power : ok ≡ w.power
  pub dark : v.power ≡ false → ok ≡ false
  pub struck : v.power ≡ true → ok ≡ false → StopStruck v w
  pub unstopped : IsUnstopped v → ok ≡ true
  -- no stop was counted
  pub same : w.stops ≡ v.stops → v.stops < 2 ^ 64 - 1 → ok ≡ true
