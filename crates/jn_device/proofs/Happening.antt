-- The laws of what happens to the device while it is called.
use Rattle.jn_device.specs.Device.{DeviceState}
use Rattle.jn_device.specs.Later.{Later}
use Rattle.jn_device.specs.Happens.{Happens, none, get, put, joined}
use Rattle.jn_device.proofs.Later.{later_refl, later_trans}
use Rattle.jn_device.proofs.Steps.{get_later, put_later}

-- it keeps what every run of calls keeps
pub happens_later : (s t : DeviceState) → Happens s t → Later s t
happens_later s t (none _) = later_refl s
happens_later s t (get _ _ p answer below step) = get_later s p answer t step
happens_later s t (put _ _ p new stopped below step) = put_later s p new stopped t step
happens_later s t (joined _ u _ a b) = later_trans s u t (happens_later s u a) (happens_later u t b)
