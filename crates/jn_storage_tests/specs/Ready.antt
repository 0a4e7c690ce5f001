-- A store to be tested.
use Rattle.std.specs.Prelude.{◌≡◌, []}
use Rattle.jn_device.specs.Device.{DeviceState}

-- a device of two pages, with nothing reported and no fault waiting
pub record IsReady (s : DeviceState) : Type 0 where
  pub count : s.count ≡ 2
  pub told : s.told ≡ []
